use Rattle.std.proofs.Common.{◌≡◌, ◌<◌, ℕ, Some}
use Rattle.std.specs.Prelude.{slice_get}
use Rattle.unit_book.specs.Settle.{IsIdle}
use Rattle.excp_system.specs.States.{Locked}
use Rattle.post_ledger.specs.Parting.{Paired}
use Rattle.post_ledger.specs.Work.{Works}
use Rattle.post_ledger.proofs.drain.work_all.Given as goal

abbrev pub invariant-loop-place : goal.invariant-loop-place
invariant-loop-place g l = record {
  works : Paired Works l.fn.units.items l.units.items;
  idle : (k : ℕ) (v : Locked _) → k < l.place → slice_get l.units.items k ≡ Some v → IsIdle v.book.trace;
}
