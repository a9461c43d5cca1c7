use Rattle.std.proofs.Common.{◌-◌, ◌≤◌, length, drop}
use Rattle.tape_unit.specs.Reel.{IsOn}
use Rattle.tape_unit.proofs.Marks.{NoMarkIn}
use Rattle.tape_unit.proofs.reel.Reel.mark_ahead.Given as goal

abbrev pub invariant-loop-here : goal.invariant-loop-here
invariant-loop-here l = record {
  on : IsOn l.self.items l.here;
  ahead : l.fn.at.place ≤ l.here.place;
  no_mark : NoMarkIn (l.here.place - l.fn.at.place) (drop l.fn.at.place l.self.items);
}

abbrev pub decreases-loop-here : goal.decreases-loop-here
decreases-loop-here l = length l.self.items - l.here.place
