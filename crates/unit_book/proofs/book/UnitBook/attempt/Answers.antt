use Rattle.unit_book.proofs.Names.{◌≡◌, arith}
use Rattle.unit_book.specs.declared.answer.Starting.TheVariants.{Idle}
use Rattle.unit_book.specs.Settle.{Stays, Then, ByStart, ByRun, ByInterrupt}
use Rattle.unit_book.proofs.Lists.{no_both}
use Rattle.unit_book.proofs.Settling.{nearer}
use Rattle.unit_book.proofs.Same.{on-err}
use Rattle.unit_book.specs.Refusals.{AtStart}
use Rattle.unit_book.proofs.book.UnitBook.attempt.Goals as goal
use Rattle.unit_book.proofs.book.UnitBook.attempt.Goals.{in-Idle, in_default}

pub returns-in_err-start-clause-steps : goal.returns-in_err-start-clause-steps
returns-in_err-start-clause-steps g c = let e = c.in_err-start.ensures.err in rw e Stays

pub returns-in_err-start-clause-full : goal.returns-in_err-start-clause-full
returns-in_err-start-clause-full g c =
    let e = c.in_err-start.ensures.err in on-err c.from_residual.result _ (rw e (AtStart c.in_err-start.ensures.full))

pub returns-then-matches-clause-steps : goal.returns-then-matches-clause-steps
returns-then-matches-clause-steps g c = Then Stays (ByStart c.in_ok-start.field-0 c.in_ok-start.ensures.ok)

pub returns-in_err-run-clause-steps : goal.returns-in_err-run-clause-steps
returns-in_err-run-clause-steps g c = let e = c.in_err-run.ensures.err in rw e
    (Then Stays (ByStart c.in_ok-start.field-0 c.in_ok-start.ensures.ok))

pub returns-in_err-interrupt-clause-steps : goal.returns-in_err-interrupt-clause-steps
returns-in_err-interrupt-clause-steps g c =
    rw c.in_err-interrupt.ensures.err (Then (Then Stays (ByStart c.in_ok-start.field-0 c.in_ok-start.ensures.ok))
    (ByRun 4294967295 c.in_ok-run.field-0 (omega arith) c.in_ok-run.ensures.ok))

pub returns-clause-steps : goal.returns-clause-steps
returns-clause-steps g c =
    Then (Then (Then Stays (ByStart c.in_ok-start.field-0 c.in_ok-start.ensures.ok))
    (ByRun 4294967295 c.in_ok-run.field-0 (omega arith) c.in_ok-run.ensures.ok))
    (ByInterrupt c.in_ok-interrupt.field-0 c.in_ok-interrupt.ensures.ok)

pub returns-clause-ok : goal.returns-clause-ok
returns-clause-ok g c =
    let k : c.in_ok-start.field-0 ≡ Idle → ⊥ = elim c.match-matches.branch [
      | in-Idle w ↦ no_both c.match-matches.matches w.matches-is c.if-matches.false
      | in_default w ↦ w.in_default.not-Idle
    ] in
    nearer g.D.Device.meaning c.args.self.now c.interrupt.new.self (record {
      mid = c.start.new.self;
      ran = c.run.new.self;
      starting = c.in_ok-start.field-0;
      running = c.in_ok-run.field-0;
      ending = c.in_ok-interrupt.field-0;
      found = k;
      started_as = c.in_ok-start.ensures.ok;
      ran_as = c.in_ok-run.ensures.ok;
      legal = c.holds.ensures.legal;
      ended_as = c.in_ok-interrupt.ensures.ok;
    })
