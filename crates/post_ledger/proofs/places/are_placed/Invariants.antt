use Rattle.std.proofs.Common.{◌≡◌, ◌<◌, ℕ, Some}
use Rattle.std.specs.Prelude.{slice_get}
use Rattle.excp_system.specs.States.{Locked}
use Rattle.post_ledger.proofs.places.are_placed.Given as goal

abbrev pub invariant-loop-place : goal.invariant-loop-place
invariant-loop-place g l = (k : ℕ) (v : Locked _) → k < l.place → slice_get l.units k ≡ Some v → v.unit ≡ k
