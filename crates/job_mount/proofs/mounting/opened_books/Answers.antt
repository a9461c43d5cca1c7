use Rattle.std.proofs.Common.{◌≡◌, ◌≤◌, ℕ, List, length, map, drop, Option, None, Result, Ok, Err, rules, arith, sym, subst, ◌∙◌}
use Rattle.std.specs.Result.{IsErr, IsErrAnd}
use Rattle.std.specs.Vec.Iter.{into_iter_items}
use Rattle.std.proofs.lemmas.Bool.{false≢true}
use Rattle.std.proofs.lemmas.List.Elements.{All-push}
use Rattle.unit_book.specs.Book.{Book}
use Rattle.any_device.specs.declared.device.AnyDevice.{AnyDevice}
use Rattle.job_script.specs.declared.fault.JobError.{JobError}
use Rattle.job_script.specs.Grammar.{FaultAt}
use Rattle.job_script.specs.Outcomes.{Gives}
use Rattle.job_script.specs.declared.set_up.Opening.{Opening}
use Rattle.job_script.specs.Views.{opening_said, unit_said}
use Rattle.job_mount.specs.Books.{HasRoom, IsFresh}
use Rattle.job_mount.specs.Mounting.{units_with}
use Rattle.job_mount.specs.Openings.{open_all}
use Rattle.job_mount.specs.Outcomes.{MountsBook, Opens, all_without_spare, without_spare}
use Rattle.job_mount.proofs.Openings.{after, no_unit_yet, unit_at_fault, unit_opened, unit_refused, units_at_fault, units_opened}
use Rattle.job_mount.proofs.mounting.opened_books.Goals as goal
use Rattle.job_mount.proofs.mounting.opened_books.Goals.{in-None+in_ok-push-in-None, in-Some}

pub loop-unit-init : goal.loop-unit-init
loop-unit-init c =
    let units = map unit_said c.args.units.now in
    record {
      exact = rw (c.new-books.ensures.items, c.into_iter-given.ensures.rest) (no_unit_yet c.args.capacity c.args.given.items units);
      count = search rules;
      fresh = search rules;
      room = search rules;
    }

gives_as : {X S : Type 0} (view : X → S) (r : Result X JobError) (fault : JobError) (read : Result S FaultAt) → IsErr r →
    IsErrAnd r (λ e. e ≡ fault)
    → Gives view (Err fault) read → Gives view r read
gives_as view (Ok x) fault read is_err same given = absurd (false≢true is_err)
gives_as view (Err e) fault read is_err same given = subst (λ (f : JobError). Gives view (Err f) read) (sym same) given

pub returns-in_err-book-clause-exact : goal.returns-in_err-book-clause-exact
returns-in_err-book-clause-exact c =
    let mounts = subst (λ (device : Option AnyDevice). MountsBook c.args.capacity device (unit_said c.unit-item.result)
    (Err c.in_err-book.field-0.0)) c.next_given-device.ensures.device c.in_err-book.ensures.exact in
    let refused = unit_refused c.args.capacity c.loop-unit.first c.loop-unit.books.items (into_iter_items c.loop-unit.given)
    c.args.units.now c.loop-unit.unit-index c.unit-item.result
    c.in_err-book.field-0.0 _ c.loop-unit-test.true c.unit-item.is mounts c.loop-unit.invariant.exact in
    gives_as all_without_spare c.from_residual.result c.in_err-book.field-0.0 _ c.from_residual.ensures.0 c.from_residual.ensures.1 refused

pub loop-unit-preserved : goal.loop-unit-preserved
loop-unit-preserved c =
    let units = c.args.units.now in
    let index = c.loop-unit.unit-index in
    let unit = c.unit-item.result in
    let mounted = c.in_ok-book.book in
    let book = c.open_dcbs.new.book in
    let so_far = c.loop-unit.invariant in
    let given = into_iter_items c.loop-unit.given in
    let rest = c.next_given-device.ensures.rest in
    let mounts = subst (λ (device : Option AnyDevice). MountsBook c.args.capacity device (unit_said unit) (Ok mounted))
    c.next_given-device.ensures.device c.in_ok-book.ensures.exact in
    elim c.match-branch-3.branch [
      | in-None+in_ok-push-in-None w ↦
          let opens = subst (λ (openings : List Opening). open_all (without_spare mounted) (map opening_said openings) ≡ Ok
          (without_spare book)) c.deref.ensures.value
          (subst (λ (at_fault : Option ℕ). Opens mounted (map opening_said c.deref.result.now) (Ok at_fault) book) w.in-None.is
          c.in_ok-open_dcbs.ensures.exact) in
          let items = w.in_ok-push-in-None.ensures.items in
          record {
            exact = rw (w.books-is, w.first-is, items, rest)
                (unit_opened c.args.capacity c.loop-unit.first c.loop-unit.books.items given units index unit mounted book _
                c.loop-unit-test.true c.unit-item.is mounts opens so_far.exact);
            count = λ none. rw w.books-is (omega (arith, w.in_ok-push-in-None.ensures.len, so_far.count (sym w.first-is ∙ none)));
            fresh = rw (w.books-is, items) (All-push IsFresh c.loop-unit.books.items book so_far.fresh c.open_dcbs.ensures.fresh);
            room = rw (w.books-is, items)
                (All-push (HasRoom c.args.capacity) c.loop-unit.books.items book so_far.room
                (c.open_dcbs.ensures.room ∙ c.in_ok-book.ensures.room));
          }
      | in-Some w ↦
          let line = w.in-Some.line in
          let opens = subst (λ (openings : List Opening). open_all (without_spare mounted) (map opening_said openings) ≡ Err line)
          c.deref.ensures.value
          (subst (λ (at_fault : Option ℕ). Opens mounted (map opening_said c.deref.result.now) (Ok at_fault) book) w.in-Some.is
          c.in_ok-open_dcbs.ensures.exact) in
          record {
            exact = rw (w.books-is, w.first-is, w.earlier.ensures, rest)
                (unit_at_fault c.args.capacity c.loop-unit.first c.loop-unit.books.items given units index unit mounted line _
                c.loop-unit-test.true c.unit-item.is mounts opens so_far.exact);
            count = λ none. search rules;
            fresh = rw w.books-is so_far.fresh;
            room = rw w.books-is so_far.room;
          }
    ]

pub returns-in-None-first-clause-exact : goal.returns-in-None-first-clause-exact
returns-in-None-first-clause-exact c =
    let units = c.args.units.now in
    let all : length units ≤ c.loop-unit.unit-index = omega (arith, c.loop-unit-test.false) in
    units_opened c.args.capacity c.loop-unit.books.items (into_iter_items c.loop-unit.given) units c.loop-unit.unit-index _ all
    (subst
    (λ (first : Option ℕ). after c.args.capacity first (all_without_spare c.loop-unit.books)
    (into_iter_items c.loop-unit.given) (map unit_said (drop c.loop-unit.unit-index units))
    ≡ units_with c.args.capacity c.args.given.items (map unit_said units))
    c.in-None-first.is c.loop-unit.invariant.exact)

pub returns-clause-exact : goal.returns-clause-exact
returns-clause-exact c =
    let units = c.args.units.now in
    let all : length units ≤ c.loop-unit.unit-index = omega (arith, c.loop-unit-test.false) in
    units_at_fault c.args.capacity c.in-Some-first.line c.loop-unit.books.items (into_iter_items c.loop-unit.given) units c.loop-unit.unit-index _ all
    (subst
    (λ (first : Option ℕ). after c.args.capacity first (all_without_spare c.loop-unit.books)
    (into_iter_items c.loop-unit.given) (map unit_said (drop c.loop-unit.unit-index units))
    ≡ units_with c.args.capacity c.args.given.items (map unit_said units))
    c.in-Some-first.is c.loop-unit.invariant.exact)
