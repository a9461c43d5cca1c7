use Rattle.std.proofs.Common.{◌≡◌, [], ◌∷◌, ◌++◌, rules, sym, ap, ◌∙◌, subst, arith, append_assoc, length, length-append, map}
use Rattle.std.proofs.lemmas.List.{append-nil, length-map}
use Rattle.excp_system.proofs.Balances.{none_left}
use Rattle.std.specs.Vec.Iter.{into_iter_items}
use Rattle.std.proofs.lemmas.List.Elements.{All-push}
use Rattle.unit_book.specs.Trace.{arrivals}
use Rattle.excp_system.specs.Begun.{Began}
use Rattle.excp_system.specs.States.{AreOf, Locked}
use Rattle.std.specs.List.{All}
use Rattle.std.proofs.lemmas.Grind.{common_steps}
use Rattle.post_ledger.specs.Parting.{IsBack, IsLogOf, BookKeeps, Paired, book_of, intake_end}
use Rattle.post_ledger.proofs.Pairs.{map_snoc, paired_none, paired_snoc}
use Rattle.post_ledger.proofs.parting.split_units.Goals as goal

pub loop-unit-preserved : goal.loop-unit-preserved
loop-unit-preserved g c =
    let i = c.loop-unit.invariant in
    let s = g.S.Site.rows in
    let v = c.in-Some.unit in
    let e = c.into_parts-book.ensures in
    let all : c.args.units.items ≡ c.loop-unit.yielded ++ v ∷ into_iter_items c.next.new.self =
    first_of (search rules, grind (arith, common_steps)) in
    record {
      all = all ∙ sym (append_assoc c.loop-unit.yielded (v ∷ []) (into_iter_items c.next.new.self));
      books = c.push_reserved.ensures.items ∙ map_snoc book_of c.loop-unit.yielded v c.loop-unit.books.items c.into_parts-book.result.0
          i.books e.book;
      intakes = c.push_reserved-in-loop-unit.ensures.items
          ∙ map_snoc (intake_end s) c.loop-unit.yielded v c.loop-unit.intakes.items c.into_parts-book.result.1 i.intakes e.ends.intake_is;
      backs = subst (Paired (IsBack g.D.Device.meaning s) (c.loop-unit.yielded ++ v ∷ []))
          (sym c.push_reserved-in-loop-unit-2.ensures.items)
          (paired_snoc (IsBack g.D.Device.meaning s) c.loop-unit.yielded c.loop-unit.backs.items v c.into_parts-book.result.2 i.backs
          (record { number_is = e.ends.back_is; count = e.ends.count; sent = e.ends.sent }));
      logs = subst (Paired (IsLogOf s g.S.Site.own_calls g.S.Opened.opened) (c.loop-unit.yielded ++ v ∷ [])) (sym c.push_reserved-in-loop-unit-3.ensures.items)
          (paired_snoc (IsLogOf s g.S.Site.own_calls g.S.Opened.opened) c.loop-unit.yielded c.loop-unit.logs.items v c.into_parts-book.result.4 i.logs e.log);
      sound = All-push (λ (u : Locked _). BookKeeps g.D.Device.meaning u.book) c.loop-unit.yielded v i.sound
          (record { legal = c.holds.ensures.legal; given = c.holds.ensures.given });
      began = All-push (λ (u : Locked _). Began g.S.Opened.opened u.unit u.book) c.loop-unit.yielded v i.began c.holds.ensures.began;
      of_unit = All-push (λ (u : Locked _). AreOf s u.unit (arrivals u.book.trace)) c.loop-unit.yielded v i.of_unit c.holds.ensures.of_unit;
      room = (
        omega (arith, i.room.0, c.push_reserved.ensures.capacity),
        omega (arith, i.room.1, c.push_reserved-in-loop-unit.ensures.capacity),
        omega (arith, i.room.2, c.push_reserved-in-loop-unit-2.ensures.capacity),
        omega (arith, i.room.3, c.push_reserved-in-loop-unit-3.ensures.capacity),
      );
    }

pub loop-unit-init : goal.loop-unit-init
loop-unit-init g c = record {
  all = first_of (search rules, grind (arith, common_steps));
  books = c.requires.books.0;
  intakes = c.requires.intakes.0;
  backs = paired_none (IsBack g.D.Device.meaning g.S.Site.rows) c.args.parts.backs.items c.requires.backs.0;
  logs = paired_none (IsLogOf g.S.Site.rows g.S.Site.own_calls g.S.Opened.opened) c.args.parts.logs.items c.requires.logs.0;
  room = (c.requires.books.1, c.requires.intakes.1, c.requires.backs.1, c.requires.logs.1);
  sound = λ k d lt. absurd (omega (arith, lt));
  began = λ k d lt. absurd (omega (arith, lt));
  of_unit = λ k d lt. absurd (omega (arith, lt));
}

pub push_reserved-requires : goal.push_reserved-requires
push_reserved-requires g c =
    let i = c.loop-unit.invariant in
    let v = c.in-Some.unit in
    let rest = into_iter_items c.next.new.self in
    let all : c.args.units.items ≡ c.loop-unit.yielded ++ v ∷ rest = first_of (search rules, grind (arith, common_steps)) in
    omega (
      arith,
      i.room.0,
      c.loop-unit.books.ok.0,
      c.args.units.ok.0,
      ap length i.books,
      length-map c.loop-unit.yielded book_of,
      ap length all,
      length-append c.loop-unit.yielded (v ∷ rest),
    )

pub returns-clause-books : goal.returns-clause-books
returns-clause-books g c =
    let none : into_iter_items c.loop-unit.unit-iterator ≡ [] = none_left (into_iter_items c.loop-unit.unit-iterator)
    (omega (arith, c.loop-unit.unit-iterator.rest.ok, c.in-None.ensures.steps.0)) in
    let all : c.args.units.items ≡ c.loop-unit.yielded = c.loop-unit.invariant.all
    ∙ (ap (λ r. c.loop-unit.yielded ++ r) none ∙ append-nil c.loop-unit.yielded) in
    c.loop-unit.invariant.books ∙ ap (map book_of) (sym all)

pub returns-clause-intakes : goal.returns-clause-intakes
returns-clause-intakes g c =
    let none : into_iter_items c.loop-unit.unit-iterator ≡ [] = none_left (into_iter_items c.loop-unit.unit-iterator)
    (omega (arith, c.loop-unit.unit-iterator.rest.ok, c.in-None.ensures.steps.0)) in
    let all : c.args.units.items ≡ c.loop-unit.yielded = c.loop-unit.invariant.all
    ∙ (ap (λ r. c.loop-unit.yielded ++ r) none ∙ append-nil c.loop-unit.yielded) in
    c.loop-unit.invariant.intakes ∙ ap (map (intake_end g.S.Site.rows)) (sym all)

pub returns-clause-backs : goal.returns-clause-backs
returns-clause-backs g c =
    let none : into_iter_items c.loop-unit.unit-iterator ≡ [] = none_left (into_iter_items c.loop-unit.unit-iterator)
    (omega (arith, c.loop-unit.unit-iterator.rest.ok, c.in-None.ensures.steps.0)) in
    let all : c.args.units.items ≡ c.loop-unit.yielded = c.loop-unit.invariant.all
    ∙ (ap (λ r. c.loop-unit.yielded ++ r) none ∙ append-nil c.loop-unit.yielded) in
    subst (λ l. Paired (IsBack g.D.Device.meaning g.S.Site.rows) l c.loop-unit.backs.items) (sym all) c.loop-unit.invariant.backs

pub returns-clause-logs : goal.returns-clause-logs
returns-clause-logs g c =
    let none : into_iter_items c.loop-unit.unit-iterator ≡ [] = none_left (into_iter_items c.loop-unit.unit-iterator)
    (omega (arith, c.loop-unit.unit-iterator.rest.ok, c.in-None.ensures.steps.0)) in
    let all : c.args.units.items ≡ c.loop-unit.yielded = c.loop-unit.invariant.all
    ∙ (ap (λ r. c.loop-unit.yielded ++ r) none ∙ append-nil c.loop-unit.yielded) in
    subst (λ l. Paired (IsLogOf g.S.Site.rows g.S.Site.own_calls g.S.Opened.opened) l c.loop-unit.logs.items) (sym all) c.loop-unit.invariant.logs

pub returns-clause-sound : goal.returns-clause-sound
returns-clause-sound g c =
    let none : into_iter_items c.loop-unit.unit-iterator ≡ [] = none_left (into_iter_items c.loop-unit.unit-iterator)
    (omega (arith, c.loop-unit.unit-iterator.rest.ok, c.in-None.ensures.steps.0)) in
    let all : c.args.units.items ≡ c.loop-unit.yielded = c.loop-unit.invariant.all
    ∙ (ap (λ r. c.loop-unit.yielded ++ r) none ∙ append-nil c.loop-unit.yielded) in
    subst (All (λ (u : Locked _). BookKeeps g.D.Device.meaning u.book)) (sym all) c.loop-unit.invariant.sound

pub returns-clause-began : goal.returns-clause-began
returns-clause-began g c =
    let none : into_iter_items c.loop-unit.unit-iterator ≡ [] = none_left (into_iter_items c.loop-unit.unit-iterator)
    (omega (arith, c.loop-unit.unit-iterator.rest.ok, c.in-None.ensures.steps.0)) in
    let all : c.args.units.items ≡ c.loop-unit.yielded = c.loop-unit.invariant.all
    ∙ (ap (λ r. c.loop-unit.yielded ++ r) none ∙ append-nil c.loop-unit.yielded) in
    subst (All (λ (u : Locked _). Began g.S.Opened.opened u.unit u.book)) (sym all) c.loop-unit.invariant.began

pub returns-clause-of_unit : goal.returns-clause-of_unit
returns-clause-of_unit g c =
    let none : into_iter_items c.loop-unit.unit-iterator ≡ [] = none_left (into_iter_items c.loop-unit.unit-iterator)
    (omega (arith, c.loop-unit.unit-iterator.rest.ok, c.in-None.ensures.steps.0)) in
    let all : c.args.units.items ≡ c.loop-unit.yielded = c.loop-unit.invariant.all
    ∙ (ap (λ r. c.loop-unit.yielded ++ r) none ∙ append-nil c.loop-unit.yielded) in
    subst (All (λ (u : Locked _). AreOf g.S.Site.rows u.unit (arrivals u.book.trace))) (sym all) c.loop-unit.invariant.of_unit
