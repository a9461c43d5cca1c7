use Rattle.std.proofs.Common.{◌≡◌, ◌<◌, ℕ, Some}
use Rattle.std.specs.Prelude.{slice_get}
use Rattle.signed_list.specs.Signed.{signed_by}
use Rattle.excp_system.specs.Controls.{PensState, asked_of}
use Rattle.post_ledger.proofs.audit.audit_unit.Given as goal

abbrev pub invariant-loop-task : goal.invariant-loop-task
invariant-loop-task g l = record {
  log : l.log ≡ l.fn.log;
  hands : l.hands.items ≡ l.fn.hands.items;
  audited : (t : ℕ) (p : PensState) → t < l.task → slice_get l.fn.hands.items t ≡ Some p →
      signed_by t l.fn.log.asked ≡ asked_of p.asked l.unit;
}
