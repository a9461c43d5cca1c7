use Rattle.unit_book.specs.Settle.{Stays}
use Rattle.unit_book.proofs.Settling.{settles-more, settles-served}
use Rattle.unit_book.proofs.book.UnitBook.settle.Goals as goal
use Rattle.unit_book.proofs.Names.{arith}
use Rattle.std.proofs.lemmas.Grind.{common_steps}

pub loop-init : goal.loop-init
loop-init g c = (Stays, omega arith)

pub loop-preserved : goal.loop-preserved
loop-preserved g c =
    let k = c.loop.invariant in
    (settles-more g.D.Device.meaning k.0 c.attempt.ensures.steps, omega (arith, k.1, c.attempt.ensures.spare))

pub returns-in_err-attempt : goal.returns-in_err-attempt
returns-in_err-attempt g c = grind (arith, common_steps, settles-more, settles-served)

pub returns : goal.returns
returns g c = grind (arith, common_steps, settles-more, settles-served)
