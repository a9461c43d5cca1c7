use Rattle.std.proofs.Common.{◌≡◌, ◌≤◌, vec_len}
use Rattle.std.specs.Prelude.{vec_capacity}
use Rattle.excp_system.proofs.system.System.purge_task.Given as goal

abbrev pub invariant-loop-place : goal.invariant-loop-place
invariant-loop-place g l = record {
  room : l.count ≤ vec_capacity l.answers;
  done : vec_len l.answers ≡ l.place;
}
