use Rattle.std.proofs.Common.{◌<◌, length, refl, ap, ◌∙◌, zero-add, arith}
use Rattle.std.specs.Char.{digit_value}
use Rattle.script_words.specs.declared.value.TheConstants.{DIGITS}
use Rattle.script_words.proofs.Table.{table_at}
use Rattle.script_words.proofs.value.digit.Goals as goal

pub returns : goal.returns
returns c =
    let short : c.args.byte < length DIGITS = omega (arith, c.ranges.byte) in
    rw c.from.ensures (table_at DIGITS 0 c.args.byte refl short ∙ ap digit_value (zero-add c.args.byte))
