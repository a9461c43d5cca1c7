use Rattle.std.proofs.Common.{◌∙◌, sym}
use Rattle.script_words.proofs.Fronts.{name_front}
use Rattle.script_words.proofs.front.after_name.Goals as goal

pub returns-then-is_word : goal.returns-then-is_word
returns-then-is_word c =
    name_front c.args.text.now c.args.name.now c.split_at.result.0.now c.split_at-2.result.1.now c.if-text-size.false
    c.if-text-size-ne32.false c.split_at.ensures.front c.split_at-2.ensures.back (sym c.is_word.ensures ∙ c.if-is_word.true)
