use Rattle.std.proofs.Common.{◌≡◌, ◌<◌, ◌++◌, ◌+◌, [], ◌∷◌, length, sym, ap, ◌∙◌, subst, arith, rules}
use Rattle.std.proofs.lemmas.Grind.{common_steps}
use Rattle.request_piece.specs.declared.piece.Piece.{Piece}
use Rattle.unit_book.specs.Book.{Book}
use Rattle.unit_book.specs.Trace.{arrived_of}
use Rattle.unit_book.proofs.Kept.{keeps-then, sound-kept}
use Rattle.unit_book.proofs.WorldBooks.{Keeps, Sound, keeps-arrive, keeps-again}
use Rattle.fifo_row.specs.Ends.{IsNextItem, Taking}
use Rattle.fifo_row.specs.Lists.{of_sender}
use Rattle.excp_system.specs.Sites.{RequestFact, task_of}
use Rattle.unit_book.specs.declared.entry.Entry.TheVariants.{Arrive}
use Rattle.excp_system.proofs.Begins.{began_then, continues_again, continues_dooms, continues_then}
use Rattle.excp_system.proofs.Logs.{log_quietly, quietly_again, quietly_arrives}
use Rattle.excp_system.proofs.Units.{unit-takes}
use Rattle.excp_system.proofs.unit.UnitState.take.Goals as goal

pub invariant_of-self-in-Some : goal.invariant_of-self-in-Some
invariant_of-self-in-Some g c =
    let meaning = g.D.Device.meaning in
    let s = g.S.Site.rows in
    let old = c.self.inside.book in
    let mid = c.reserve.new.self in
    let new = c.arrive_reserved.new.self in
    let taker = c.self.inside.intake in
    let is = c.self.invariant.0.intake_is in
    let r = c.into_request-request.result in
    let same : r ≡ c.in-Some.sent = c.into_request-request.ensures in
    let next : IsNextItem task_of RequestFact taker r = subst (IsNextItem task_of RequestFact taker) (sym same) c.in-Some.ensures.next in
    let sound : Sound meaning old = record { legal = c.holds.ensures.legal; settled = c.holds.ensures.settled } in
    let reserved : Keeps meaning old [] mid = keeps-again meaning old.awaits sound c.in_ok-reserve.ensures.book in
    let counted : length (of_sender task_of r.name.task taker.taken) ≡ arrived_of r.name.task mid.trace =
    ap (λ (t : Taking Piece). length (of_sender task_of r.name.task t.taken)) is
    ∙ ap (λ (b : Book _). arrived_of r.name.task b.trace) (sym c.in_ok-reserve.ensures.book) in
    let number : r.name.seq ≡ arrived_of r.name.task mid.trace + 1 = omega (arith, next.lawful.0, counted) in
    let kept : Keeps meaning old (r ∷ []) new = keeps-then meaning reserved
    (keeps-arrive meaning (sound-kept meaning reserved) number c.arrive_reserved.ensures.book) in (
      unit-takes meaning s c.self.inside.unit old taker c.self.inside.back c.self.inside.notice c.self.inside.owes c.self.invariant.0
          c.holds.ensures.given new r c.take.new.self kept
          (subst (λ n. r.name.task < n) (ap (λ (t : Taking Piece). t.senders) is) next.of_row)
          (next.lawful.1 ∙ ap (λ (t : Taking Piece). t.tag) is)
          (c.in-Some.ensures.taken ∙ ap (λ (x : Piece). record taker { taken = taker.taken ++ x ∷ [] }) (sym same)),
      began_then c.self.invariant.1 (continues_then (continues_again old.awaits c.in_ok-reserve.ensures.book)
          (continues_dooms meaning (Arrive r) c.arrive_reserved.ensures.book)),
      log_quietly (log_quietly c.self.invariant.2 (quietly_again old mid old.awaits c.in_ok-reserve.ensures.book))
          (quietly_arrives meaning mid new r c.arrive_reserved.ensures.book),
    )

pub invariant_of-self-in-None : goal.invariant_of-self-in-None
invariant_of-self-in-None g c = (
  first_of (search rules, grind (arith, common_steps)),
  began_then c.self.invariant.1 (continues_again c.self.inside.book.awaits c.reserve.ensures.book),
  log_quietly c.self.invariant.2 (quietly_again c.self.inside.book c.reserve.new.self c.self.inside.book.awaits c.reserve.ensures.book),
)
