use Rattle.std.proofs.Common.{refl}
use Rattle.post_lines.specs.Digits.{in_digits}
use Rattle.post_lines.proofs.writing.digits_of.Goals as goal

pub returns : goal.returns
unfolding in_digits
returns c = rw c.from.ensures (rw c.from-2.ensures refl)
