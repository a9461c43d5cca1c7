use Rattle.std.proofs.Common.{refl}
use Rattle.post_lines.specs.Digits.{in_digits}
use Rattle.post_lines.proofs.post.put_end.Goals as goal

pub returns : goal.returns
unfolding in_digits
returns c =
    rw (
      c.put_digits-5.ensures,
      c.put_digits-4.ensures,
      c.put_digits-3.ensures,
      c.put_digits-2.ensures,
      c.put_digits.ensures,
      c.requires,
      c.byte.ensures,
      c.bits.ensures,
      c.bits-2.ensures,
      c.to_be_bytes.ensures,
      c.to_be_bytes-2.ensures,
      c.to_be_bytes-3.ensures,
      c.get.ensures.value,
    ) refl
