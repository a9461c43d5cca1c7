use Rattle.std.proofs.Common.{rules, ◌≡◌, true, get_or}
use Rattle.script_words.specs.Scan.{is_word_byte}
use Rattle.script_words.proofs.Scanning.{stops_here, stops_at_end}
use Rattle.script_words.proofs.text.spaces.Goals as goal

pub returns-then-byte-ne32 : goal.returns-then-byte-ne32
returns-then-byte-ne32 c =
    let here : is_word_byte (get_or c.args.line.now c.loop-place.place 0) ≡ true = search rules in
    stops_here is_word_byte c.args.line.now c.loop-place.place c.loop-place-test.true c.loop-place.invariant here

pub returns : goal.returns
returns c =
    stops_at_end is_word_byte c.args.line.now c.loop-place.place c.loop-place-test.false c.loop-place.auto.place-end c.loop-place.invariant
