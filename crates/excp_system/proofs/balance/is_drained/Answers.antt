use Rattle.std.proofs.Common.{ap, arith, length, refl}
use Rattle.unit_book.specs.Book.{Book}
use Rattle.excp_system.specs.Drained.{IsTaken}
use Rattle.excp_system.proofs.Balances.{all_done, all_more, none_left}
use Rattle.excp_system.proofs.balance.is_drained.Goals as goal

pub loop-task-preserved : goal.loop-task-preserved
loop-task-preserved g c =
    all_more (IsTaken g.D.Device.meaning c.args.unit.now) c.args.tasks.now c.loop-task.task-index c.task-item.result c.loop-task-test.true
    c.task-item.is c.loop-task.invariant
    (c.is_taken.ensures.0 c.if-not-is_taken.false)

pub returns : goal.returns
returns g c = (
  λ _. record {
    out = none_left c.args.unit.now.book.out
        (omega (arith, c.if-out_len-gt0.false, c.out_len.ensures, ap (λ (b : Book _). length b.out) c.book.ensures));
    taken = all_done (IsTaken g.D.Device.meaning c.args.unit.now) c.args.tasks.now c.loop-task.task-index c.loop-task-test.false
        c.loop-task.invariant;
  },
  λ _. refl,
)
