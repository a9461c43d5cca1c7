use Rattle.excp_system.specs.Drained.{ArePlaced}
use Rattle.excp_system.specs.States.{TaskState}
use Rattle.test_system.proofs.endings.under_way.issue_all.Given as goal

abbrev pub invariant-loop-place : goal.invariant-loop-place
invariant-loop-place g l = ArePlaced (λ (w : TaskState). w.number) g.S.Site.rows.tasks l.tasks.items
