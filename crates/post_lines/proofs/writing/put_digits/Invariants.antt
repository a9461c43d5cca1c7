use Rattle.std.proofs.Common.{◌≡◌, ◌+◌, ◌*◌, ◌++◌, take, drop}
use Rattle.post_lines.specs.Digits.{in_digits}
use Rattle.post_lines.proofs.writing.put_digits.Given as goal

abbrev pub invariant-loop-number : goal.invariant-loop-number
invariant-loop-number l =
    l.text ≡ take l.place l.fn.text ++ in_digits (take l.number l.bytes) ++ drop (l.place + 2 * l.number) l.fn.text
