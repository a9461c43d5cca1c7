use Rattle.std.proofs.Common.{◌≡◌, ◌+◌, [], ◌∷◌, ◌++◌, length, sym, ap, ◌∙◌, arith, length-append, drop, inl, inr}
use Rattle.std.specs.Prelude.{slice_get}
use Rattle.std.specs.Iterator.Adapters.{zip_first, zip_second}
use Rattle.std.specs.Vec.Iter.{into_iter_items}
use Rattle.std.proofs.lemmas.List.{length-drop}
use Rattle.std.proofs.lemmas.Option.{slice_get_within}
use Rattle.excp_system.specs.Sites.{notice_rows, end_of}
use Rattle.excp_system.specs.Fans.{FanState, sent_to}
use Rattle.excp_system.proofs.Places.{drop_get, drop_next}
use Rattle.excp_system.proofs.Makes.{is_unit}
use Rattle.excp_system.proofs.Logs.{log_begins}
use Rattle.excp_system.proofs.system.lock_units.Goals as goal

pub into_end-notice-requires : goal.into_end-notice-requires
into_end-notice-requires g c =
    let i = c.loop-book.invariant in
    let u = length c.loop-book.yielded in
    let fan = c.in-Some.notice in
    let rest = into_iter_items (zip_second (zip_first (zip_second c.next.new.self))) in
    let at = drop_get u c.args.ends.notice.items rest fan (sym i.notices ∙ c.in-Some.ensures.steps.1.0.1.0) in
    let eight : length fan.sent ≡ 8 = ap (λ (f : FanState _). length f.sent) (c.args.ends.notice_are.each u fan at) in
    omega (arith, c.from.ensures, c.isc.ensures.is, c.isc.ensures.few, eight)

pub new-unit-requires-clause-ends : goal.new-unit-requires-clause-ends
new-unit-requires-clause-ends g c =
    let i = c.loop-book.invariant in
    let s = g.S.Site.rows in
    let u = length c.loop-book.yielded in
    let b = c.in-Some.book in
    let intake = c.in-Some.intake in
    let back = c.in-Some.back in
    let fan = c.in-Some.notice in
    let steps = c.in-Some.ensures.steps in
    let rest = c.next.new.self in
    let rows = zip_first (zip_first (zip_second rest)) in
    let book_at = drop_get u c.args.books.items (into_iter_items (zip_first rest)) b (sym i.books ∙ steps.0.0) in
    let intake_at = drop_get u c.args.ends.intake.items (into_iter_items (zip_first rows)) intake (sym i.intakes ∙ steps.1.0.0.0.0) in
    let back_at = drop_get u c.args.ends.back.items (into_iter_items (zip_second rows)) back (sym i.backs ∙ steps.1.0.0.1.0) in
    let notice_at = drop_get u c.args.ends.notice.items (into_iter_items (zip_second (zip_first (zip_second rest)))) fan
    (sym i.notices ∙ steps.1.0.1.0) in
    is_unit g.D.Device.meaning s u c.number.result b intake back fan c.into_end-notice.result c.number.ensures
    (omega (arith, slice_get_within c.args.ends.back.items u back back_at, c.args.ends.back_are.count_is))
    (c.requires.books.opened u b book_at)
    (c.args.ends.intake_are.each u intake intake_at)
    (c.args.ends.back_are.each u back back_at)
    (c.args.ends.notice_are.each u fan notice_at)
    (c.into_end-notice.ensures ∙ ap (λ k. end_of (notice_rows s) fan.number k (sent_to fan k)) (c.from.ensures ∙ c.isc.ensures.is))

pub new-unit-requires-clause-opened : goal.new-unit-requires-clause-opened
new-unit-requires-clause-opened g c =
    let i = c.loop-book.invariant in
    let u = length c.loop-book.yielded in
    let rest = c.next.new.self in
    let steps = c.in-Some.ensures.steps in
    let rows = zip_first (zip_first (zip_second rest)) in
    let book_at = drop_get u c.args.books.items (into_iter_items (zip_first rest)) c.in-Some.book (sym i.books ∙ steps.0.0) in
    let back_at = drop_get u c.args.ends.back.items (into_iter_items (zip_second rows)) c.in-Some.back (sym i.backs ∙ steps.1.0.0.1.0) in
    let number : c.number.result ≡ u =
    c.number.ensures ∙ ap (λ (f : FanState _). f.number) (c.args.ends.back_are.each u c.in-Some.back back_at) in
    (λ j. slice_get (c.requires.opened j) (number j)) ∙ book_at

pub new-unit-requires-clause-log : goal.new-unit-requires-clause-log
new-unit-requires-clause-log g c =
    let i = c.loop-book.invariant in
    let u = length c.loop-book.yielded in
    let rest = c.next.new.self in
    let steps = c.in-Some.ensures.steps in
    let b = c.in-Some.book in
    let rows = zip_first (zip_first (zip_second rest)) in
    let book_at = drop_get u c.args.books.items (into_iter_items (zip_first rest)) b (sym i.books ∙ steps.0.0) in
    let back_at = drop_get u c.args.ends.back.items (into_iter_items (zip_second rows)) c.in-Some.back (sym i.backs ∙ steps.1.0.0.1.0) in
    let log_at = drop_get u c.args.ends.logs.items (into_iter_items (zip_second (zip_second rest))) c.in-Some.log
    (sym i.logs ∙ steps.1.1.0) in
    let number : c.number.result ≡ u =
    c.number.ensures ∙ ap (λ (f : FanState _). f.number) (c.args.ends.back_are.each u c.in-Some.back back_at) in
    log_begins g.S.Site.rows g.S.Site.own_calls g.S.Opened.opened u c.number.result c.in-Some.log b number (c.args.ends.logs_are.each u c.in-Some.log log_at)
    ((λ j. slice_get (c.requires.opened j) (number j)) ∙ book_at)

pub push_reserved-requires : goal.push_reserved-requires
push_reserved-requires g c =
    let i = c.loop-book.invariant in
    let u = length c.loop-book.yielded in
    let left = ap length (sym i.books ∙ c.in-Some.ensures.steps.0.0) in
    omega (arith, i.here, i.room, left, length-drop u c.args.books.items, c.requires.books.count_is)

pub loop-book-preserved : goal.loop-book-preserved
loop-book-preserved g c =
    let i = c.loop-book.invariant in
    let b = c.in-Some.book in
    let yielded = c.loop-book.yielded in
    let u = length yielded in
    let ends = c.args.ends in
    let steps = c.in-Some.ensures.steps in
    let rest = c.next.new.self in
    let rows = zip_first (zip_first (zip_second rest)) in
    let came = sym i.books ∙ steps.0.0 in
    let one : length (yielded ++ (b, (((c.in-Some.intake, c.in-Some.back), c.in-Some.notice), c.in-Some.log)) ∷ []) ≡ u + 1 =
    length-append yielded ((b, (((c.in-Some.intake, c.in-Some.back), c.in-Some.notice), c.in-Some.log)) ∷ []) in
    record {
      here = omega (arith, i.here, one, c.push_reserved.ensures.len);
      few = omega (arith, one, ap length came, length-drop u c.args.books.items, c.requires.books.count_is);
      room = omega (arith, i.room, c.push_reserved.ensures.capacity);
      books = drop_next u c.args.books.items (into_iter_items (zip_first rest)) b came ∙ ap (λ n. drop n c.args.books.items) (sym one);
      intakes = drop_next u ends.intake.items (into_iter_items (zip_first rows)) c.in-Some.intake (sym i.intakes ∙ steps.1.0.0.0.0)
          ∙ ap (λ n. drop n ends.intake.items) (sym one);
      backs = drop_next u ends.back.items (into_iter_items (zip_second rows)) c.in-Some.back (sym i.backs ∙ steps.1.0.0.1.0)
          ∙ ap (λ n. drop n ends.back.items) (sym one);
      notices = drop_next u ends.notice.items (into_iter_items (zip_second (zip_first (zip_second rest)))) c.in-Some.notice
          (sym i.notices ∙ steps.1.0.1.0)
          ∙ ap (λ n. drop n ends.notice.items) (sym one);
      logs = drop_next u ends.logs.items (into_iter_items (zip_second (zip_second rest))) c.in-Some.log (sym i.logs ∙ steps.1.1.0)
          ∙ ap (λ n. drop n ends.logs.items) (sym one);
    }

-- as many ends of each kind are left as books, and one kind has ended
pub returns : goal.returns
returns g c =
    let i = c.loop-book.invariant in
    let it = c.loop-book.book-iterator in
    let u = length c.loop-book.yielded in
    let ends = c.args.ends in
    elim c.in-None.ensures.steps [
      | inl e ↦ omega (
        arith,
        i.here,
        i.few,
        ap length i.books,
        length-drop u c.args.books.items,
        c.requires.books.count_is,
        e.1.0,
        it.a.rest.ok,
      )
      | inr e ↦ elim e.1 [
        | inl f ↦ elim f.1 [
          | inl h ↦ elim h.1 [
            | inl k ↦ omega (
              arith,
              i.here,
              i.few,
              ap length i.intakes,
              length-drop u ends.intake.items,
              ends.intake_are.count_is,
              k.1.0,
              it.b.a.a.a.rest.ok,
            )
            | inr k ↦ omega (
              arith,
              i.here,
              i.few,
              ap length i.backs,
              length-drop u ends.back.items,
              ends.back_are.count_is,
              k.1.0,
              it.b.a.a.b.rest.ok,
            )
          ]
          | inr h ↦ omega (
            arith,
            i.here,
            i.few,
            ap length i.notices,
            length-drop u ends.notice.items,
            ends.notice_are.count_is,
            h.1.0,
            it.b.a.b.rest.ok,
          )
        ]
        | inr f ↦ omega (
          arith,
          i.here,
          i.few,
          ap length i.logs,
          length-drop u ends.logs.items,
          ends.logs_are.count_is,
          f.1.0,
          it.b.b.rest.ok,
        )
      ]
    ]
