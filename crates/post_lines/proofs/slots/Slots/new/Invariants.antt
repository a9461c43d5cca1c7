use Rattle.std.proofs.Common.{◌≡◌, ◌≤◌, [], replicate}
use Rattle.post_lines.specs.Slots.{slots_of}
use Rattle.post_lines.proofs.slots.Slots.new.Given as goal

abbrev pub invariant-loop : goal.invariant-loop
invariant-loop l = (slots_of l.slots ≡ replicate l.counter []) × (l.counter ≤ l.fn.units)
