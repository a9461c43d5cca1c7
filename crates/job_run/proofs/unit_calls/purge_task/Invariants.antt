use Rattle.std.proofs.Common.{◌≡◌, OnOk}
use Rattle.request_piece.specs.declared.scope.Scope.TheVariants.{Task}
use Rattle.unit_book.specs.declared.control.Control.TheVariants.{Purge}
use Rattle.job_run.proofs.Asked.{AsksSomeFirst, asks_first}
use Rattle.job_run.proofs.unit_calls.purge_task.Given as goal

abbrev pub invariant-loop-unit : goal.invariant-loop-unit
invariant-loop-unit g l = record {
  others : l.client ≡ record l.fn.client { asked = l.client.asked };
  some : AsksSomeFirst l.unit (Purge (Task l.task) l.mode) l.fn.client.asked l.client.asked;
  asked : OnOk l.purged (l.client.asked ≡ asks_first l.unit (Purge (Task l.task) l.mode) l.fn.client.asked);
}
