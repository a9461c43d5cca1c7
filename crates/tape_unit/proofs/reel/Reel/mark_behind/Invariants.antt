use Rattle.std.proofs.Common.{◌-◌, ◌≤◌, take, reverse}
use Rattle.tape_unit.specs.Reel.{IsOn}
use Rattle.tape_unit.proofs.Marks.{NoMarkIn}
use Rattle.tape_unit.proofs.reel.Reel.mark_behind.Given as goal

abbrev pub invariant-loop-here : goal.invariant-loop-here
invariant-loop-here l = record {
  on : IsOn l.self.items l.here;
  behind : l.here.place ≤ l.fn.at.place;
  no_mark : NoMarkIn (l.fn.at.place - l.here.place) (reverse (take l.fn.at.place l.self.items));
}

abbrev pub decreases-loop-here : goal.decreases-loop-here
decreases-loop-here l = l.here.place
