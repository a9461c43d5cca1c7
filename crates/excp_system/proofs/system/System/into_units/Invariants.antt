use Rattle.std.proofs.Common.{◌≡◌, ◌+◌, ◌≤◌}
use Rattle.std.specs.Prelude.{vec_len, vec_capacity}
use Rattle.std.specs.Vec.Iter.{into_iter_len}
use Rattle.excp_system.proofs.system.System.into_units.Given as goal

abbrev pub invariant-loop-lock : goal.invariant-loop-lock
invariant-loop-lock g l = record {
  all : vec_len l.units + into_iter_len l.lock-iterator ≡ vec_len l.fn.self.locks;
  room : vec_len l.fn.self.locks ≤ vec_capacity l.units;
}
