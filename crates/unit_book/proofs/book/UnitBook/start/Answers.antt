use Rattle.unit_book.proofs.Names.{subst, ExtentViolated, empty_status, Started, Violated, arith}
use Rattle.unit_book.specs.declared.decision.Begun.{Begun}
use Rattle.unit_book.specs.Answers.{IsBegun, PostsOne, MayStart, StartsOne}
use Rattle.unit_book.specs.Legal.{FailsCheck}
use Rattle.unit_book.proofs.Dooms.{settled-start}
use Rattle.unit_book.proofs.Calls.{post-then-sweep, sweep-due, pending-start}
use Rattle.unit_book.proofs.book.UnitBook.start.Given.{Over}
use Rattle.unit_book.proofs.book.UnitBook.start.Goals.{In-Started, In-Violated}
use Rattle.unit_book.proofs.book.UnitBook.start.Goals as goal
use Rattle.std.proofs.lemmas.Grind.{common_steps}

-- what was begun: a program was started
started : (g : Over) (c : In-Started g) → MayStart g.D.Device.meaning c.self.inside.entries c.in-Started.name
    × StartsOne c.self.inside.entries c.in-Started.name c.start.new.self
started g c =
    subst (λ (x : Begun). IsBegun g.D.Device.meaning c.self.inside.entries x c.start.new.self) c.in-Started.is c.in_ok-start.ensures.ok

-- or the request that waited first was posted
violated : (g : Over) (c : In-Violated g) → let m = g.D.Device.meaning in let old = c.self.inside.entries in let n = c.in-Violated.name in
    FailsCheck m old.mounted n old.trace × PostsOne m old n empty_status ExtentViolated c.in-Violated.doom c.start.new.self
violated g c =
    subst (λ (x : Begun). IsBegun g.D.Device.meaning c.self.inside.entries x c.start.new.self) c.in-Violated.is c.in_ok-start.ensures.ok

pub invariant_of-self-in-Started : goal.invariant_of-self-in-Started
invariant_of-self-in-Started g c = grind (arith, common_steps, started, settled-start)

pub sweep-requires-clause-spare : goal.sweep-requires-clause-spare
sweep-requires-clause-spare g c = (violated g (goal.at.sweep-requires-clause-spare g c).In-Violated).1.room

pub sweep-requires-clause-doomed : goal.sweep-requires-clause-doomed
sweep-requires-clause-doomed g c = (violated g (goal.at.sweep-requires-clause-doomed g c).In-Violated).1.dooms

pub sweep-requires-clause-due : goal.sweep-requires-clause-due
sweep-requires-clause-due g c = sweep-due g.D.Device.meaning (violated g (goal.at.sweep-requires-clause-due g c).In-Violated).1

pub returns-in-Started-clause-pending : goal.returns-in-Started-clause-pending
returns-in-Started-clause-pending g c =
    let k = started g (goal.at.returns-in-Started-clause-pending g c).In-Started in
    rw (← c.self.view_is) (pending-start g.D.Device.meaning c.self.inside.entries c.start.new.self (Started c.in-Started.name) k)

pub returns-in-Violated-clause-ok : goal.returns-in-Violated-clause-ok
returns-in-Violated-clause-ok g c =
    let k = violated g (goal.at.returns-in-Violated-clause-ok g c).In-Violated in
    rw (← c.self.view_is) (k.0, post-then-sweep g.D.Device.meaning k.1 c.sweep.ensures.book)

pub returns-in-Violated-clause-pending : goal.returns-in-Violated-clause-pending
returns-in-Violated-clause-pending g c =
    pending-start g.D.Device.meaning c.args.self.now c.sweep.new.self (Violated c.in-Violated.name) (returns-in-Violated-clause-ok g c)
