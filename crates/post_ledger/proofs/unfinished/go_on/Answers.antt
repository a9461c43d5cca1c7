use Rattle.std.proofs.Common.{◌≡◌, ◌∙◌, ap, length, subst, sym, List}
use Rattle.std.specs.List.{All}
use Rattle.std.proofs.lemmas.List.{length-map}
use Rattle.excp_system.specs.Drained.{ArePlaced}
use Rattle.excp_system.specs.States.{Locked}
use Rattle.post_ledger.specs.Left.{AreMixed}
use Rattle.post_ledger.specs.Parting.{book_of}
use Rattle.post_ledger.proofs.Endings.{controls_first, grew_into, posted_first, received_first, returned_first}
use Rattle.post_ledger.proofs.Works.{placed_tasks, placed_units}
use Rattle.post_ledger.proofs.unfinished.go_on.Goals as goal

pub returns-then-not-are_placed-clause-cause : goal.returns-then-not-are_placed-clause-cause
returns-then-not-are_placed-clause-cause g c = subst AreMixed c.as_slice.ensures.value (c.are_placed.ensures.mixed c.if-not-are_placed.true)

pub make_ready-requires-clause-units : goal.make_ready-requires-clause-units
make_ready-requires-clause-units g c = subst (λ (xs : List (Locked _)). ArePlaced (λ (v : Locked _). v.unit) g.S.Site.rows.units xs)
    c.as_slice.ensures.value (c.are_placed.ensures.placed c.if-not-are_placed.false)

pub close-requires-clause-units : goal.close-requires-clause-units
close-requires-clause-units g c = placed_units g.S.Site.rows.units
    (subst (λ (xs : List (Locked _)). ArePlaced (λ (v : Locked _). v.unit) g.S.Site.rows.units xs) c.as_slice.ensures.value
    (c.are_placed.ensures.placed c.if-not-are_placed.false)) c.make_ready.ensures.works

pub close-requires-clause-tasks : goal.close-requires-clause-tasks
close-requires-clause-tasks g c =
    placed_tasks g.S.Site.rows.units g.S.Site.rows.tasks c.requires.tasks c.make_ready.ensures.collects

pub invariant_of-result-in-Err : goal.invariant_of-result-in-Err
invariant_of-result-in-Err g c = (
  placed_tasks g.S.Site.rows.units g.S.Site.rows.tasks c.requires.tasks c.make_ready.ensures.collects,
  c.make_ready.ensures.lists,
  c.make_ready.ensures.works.count ∙ c.requires.units,
)

pub returns-in-Ok-clause-complete : goal.returns-in-Ok-clause-complete
returns-in-Ok-clause-complete g c = record {
  of_units = ap length c.close.ensures.books
      ∙ (length-map c.make_ready.new.units.items book_of ∙ (c.make_ready.ensures.works.count ∙ c.requires.units));
  of_tasks = ap length c.close.ensures.lists ∙ c.in-Ok.ensures.all;
  of_each = subst (All (λ lists. length lists ≡ g.S.Site.rows.units)) (sym c.close.ensures.lists) c.make_ready.ensures.lists.each;
}

pub returns-in-Ok-clause-received : goal.returns-in-Ok-clause-received
returns-in-Ok-clause-received g c =
    received_first g.S.Site.rows.units c.args.tasks.items c.make_ready.new.tasks.items c.args.posts.items c.make_ready.new.posts.items
    c.make_ready.ensures.collects c.close.result
    c.close.ensures.received

pub returns-in-Ok-clause-controlled : goal.returns-in-Ok-clause-controlled
returns-in-Ok-clause-controlled g c =
    controls_first g.S.Site.rows.units c.args.tasks.items c.make_ready.new.tasks.items c.args.posts.items c.make_ready.new.posts.items
    c.make_ready.ensures.collects c.close.result g.S.Site.own_calls g.S.Opened.opened
    c.close.ensures.controlled

pub returns-in-Ok-clause-posted_once : goal.returns-in-Ok-clause-posted_once
returns-in-Ok-clause-posted_once g c =
    posted_first g.S.Site.rows.units c.args.tasks.items c.make_ready.new.tasks.items c.args.posts.items c.make_ready.new.posts.items
    c.make_ready.ensures.collects c.close.result
    c.close.ensures.posted_once

pub returns-in-Ok-clause-returned : goal.returns-in-Ok-clause-returned
returns-in-Ok-clause-returned g c =
    returned_first g.S.Site.rows.units c.args.tasks.items c.make_ready.new.tasks.items c.args.posts.items c.make_ready.new.posts.items
    c.make_ready.ensures.collects c.close.result g.D.Device.meaning
    (ap length c.close.ensures.books
    ∙ (length-map c.make_ready.new.units.items book_of ∙ (c.make_ready.ensures.works.count ∙ c.requires.units)))
    c.close.ensures.returned

pub returns-in-Ok-clause-grew : goal.returns-in-Ok-clause-grew
returns-in-Ok-clause-grew g c = grew_into c.args.units.items c.make_ready.new.units.items c.close.result.books c.close.ensures.books
    c.make_ready.ensures.works

pub returns-in-Err-clause-cause : goal.returns-in-Err-clause-cause
returns-in-Err-clause-cause g c = placed_units g.S.Site.rows.units
    (subst (λ (xs : List (Locked _)). ArePlaced (λ (v : Locked _). v.unit) g.S.Site.rows.units xs) c.as_slice.ensures.value
    (c.are_placed.ensures.placed c.if-not-are_placed.false)) c.make_ready.ensures.works
