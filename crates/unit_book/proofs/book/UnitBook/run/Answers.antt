use Rattle.unit_book.proofs.Calls.{RunCall, run-settled, pending-run}
use Rattle.unit_book.proofs.book.UnitBook.run.Goals as goal
use Rattle.unit_book.proofs.Names.{arith}
use Rattle.std.proofs.lemmas.Grind.{common_steps}

pub invariant_of-self-2 : goal.invariant_of-self-2
invariant_of-self-2 g c =
    let m = g.D.Device.meaning in
    let r : RunCall m c.reserve.new.self c.run.new.self c.run.result = record { max = c.args.max; runs = c.run.ensures.book } in
    run-settled m c.run.result r (rw c.in_ok-reserve.ensures.book c.self.invariant)

pub returns-clause-pending : goal.returns-clause-pending
returns-clause-pending g c = grind (arith, common_steps, pending-run)
