use Rattle.std.proofs.Common.{sym, ◌∙◌}
use Rattle.script_words.specs.Scan.{is_word_byte}
use Rattle.script_words.specs.Text.{is_space}
use Rattle.script_words.proofs.Scanning.{within, no_words_left, next_of_rest}
use Rattle.script_words.proofs.text.next_word.Goals as goal

pub split_at-requires : goal.split_at-requires
split_at-requires c = rw c.spaces.ensures (within is_word_byte c.args.line.now)

pub returns-then-is_empty : goal.returns-then-is_empty
returns-then-is_empty c = no_words_left _ _ _ c.spaces.ensures c.split_at.ensures.back (sym c.is_empty.ensures ∙ c.if-is_empty.true)

pub split_at-requires-2 : goal.split_at-requires-2
split_at-requires-2 c = rw c.word_end.ensures (within is_space c.split_at.result.1.now)

pub returns : goal.returns
returns c =
    next_of_rest _ _ _ _ _ _ c.spaces.ensures c.split_at.ensures.back (sym c.is_empty.ensures ∙ c.if-is_empty.false) c.word_end.ensures
    c.split_at-2.ensures.front c.split_at-2.ensures.back
