use Rattle.unit_book.proofs.Names.{subst, WasPosted}
use Rattle.unit_book.specs.declared.decision.Taken.{Taken}
use Rattle.unit_book.specs.Answers.{TakesStatus, TakesByPost}
use Rattle.unit_book.specs.Book.{is_pending}
use Rattle.std.proofs.Common.{◌≡◌, true}
use Rattle.unit_book.proofs.Calls.{post-then-sweep, sweep-due, pending-interrupt}
use Rattle.unit_book.proofs.book.UnitBook.interrupt.Given.{Over}
use Rattle.unit_book.proofs.book.UnitBook.interrupt.Goals.{In-Posted}
use Rattle.unit_book.proofs.book.UnitBook.interrupt.Goals as goal

-- what was taken: a status was pending, and the active request was posted
taken : (g : Over) (c : In-Posted g) → (is_pending g.D.Device.meaning c.self.inside.entries ≡ true)
    × TakesByPost g.D.Device.meaning c.self.inside.entries c.in-Posted.name c.in-Posted.code c.in-Posted.doom c.take_status.new.self
taken g c =
    subst (λ (x : Taken). TakesStatus g.D.Device.meaning c.self.inside.entries x c.take_status.new.self) c.in-Posted.is
    c.in_ok-take_status.ensures.ok

pub sweep-requires-clause-spare : goal.sweep-requires-clause-spare
sweep-requires-clause-spare g c = (taken g (goal.at.sweep-requires-clause-spare g c).In-Posted).1.posts.room

pub sweep-requires-clause-doomed : goal.sweep-requires-clause-doomed
sweep-requires-clause-doomed g c = (taken g (goal.at.sweep-requires-clause-doomed g c).In-Posted).1.posts.dooms

pub sweep-requires-clause-due : goal.sweep-requires-clause-due
sweep-requires-clause-due g c = sweep-due g.D.Device.meaning (taken g (goal.at.sweep-requires-clause-due g c).In-Posted).1.posts

pub returns-in-Posted-clause-ok : goal.returns-in-Posted-clause-ok
returns-in-Posted-clause-ok g c =
    let t = taken g (goal.at.returns-in-Posted-clause-ok g c).In-Posted in
    let k = t.1 in
    rw (← c.self.view_is) (
      t.0,
      record { status = k.status; fits = k.fits; extends = post-then-sweep g.D.Device.meaning k.posts c.sweep.ensures.book },
    )

pub returns-in-Posted-clause-taken : goal.returns-in-Posted-clause-taken
returns-in-Posted-clause-taken g c =
    pending-interrupt g.D.Device.meaning c.args.self.now c.sweep.new.self (WasPosted c.in-Posted.name c.in-Posted.code)
    (rw (← c.self.view_is) c.holds.ensures.legal) (returns-in-Posted-clause-ok g c)
