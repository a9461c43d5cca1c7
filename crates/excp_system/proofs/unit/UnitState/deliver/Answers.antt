use Rattle.std.proofs.Common.{◌≡◌, ℕ, List, [], ◌∷◌, ◌++◌, drop, sym, ap, ◌∙◌, subst, arith, rules}
use Rattle.std.specs.Prelude.{slice_set}
use Rattle.std.proofs.lemmas.Grind.{common_steps}
use Rattle.request_piece.specs.PostedState.{PostedState}
use Rattle.request_piece.specs.declared.piece.Name.{Name}
use Rattle.unit_book.specs.Book.{given}
use Rattle.fifo_row.specs.Lists.{of_sender}
use Rattle.fifo_row.specs.Steps.{WasFull}
use Rattle.excp_system.specs.Sites.{NoFact, post_rows, unit_of, for_task, end_of}
use Rattle.excp_system.specs.Fans.{sent_to}
use Rattle.excp_system.specs.RowCalls.{IsFirst}
use Rattle.excp_system.specs.States.{Locked}
use Rattle.excp_system.proofs.Begins.{began_then, continues_out}
use Rattle.excp_system.proofs.Logs.{log_quietly, quietly_out}
use Rattle.excp_system.proofs.Units.{first-is, unit-delivers}
use Rattle.excp_system.proofs.unit.UnitState.deliver.Goals as goal

pub send-requires-clause-row : goal.send-requires-clause-row
send-requires-clause-row g c =
    let f = first-is g.D.Device.meaning g.S.Site.rows c.self.inside.unit c.self.inside.book c.self.inside.intake c.self.inside.back
    c.self.inside.notice c.self.inside.owes c.self.invariant.0 c.holds.ensures.given
    c.in-Some.value c.holds.ensures.legal c.in-Some.ensures.first in
    omega (arith, f.0, c.self.invariant.0.count, ap (λ (n : Name). n.task) c.name-name.ensures)

pub send-requires-clause-number : goal.send-requires-clause-number
send-requires-clause-number g c =
    let f = first-is g.D.Device.meaning g.S.Site.rows c.self.inside.unit c.self.inside.book c.self.inside.intake c.self.inside.back
    c.self.inside.notice c.self.inside.owes c.self.invariant.0 c.holds.ensures.given
    c.in-Some.value c.holds.ensures.legal c.in-Some.ensures.first in
    ap (λ (v : PostedState). v.unit) c.new.ensures ∙ f.1 ∙ sym c.self.invariant.0.back_is

pub invariant_of-self-in-Ok : goal.invariant_of-self-in-Ok
invariant_of-self-in-Ok g c =
    let f = first-is g.D.Device.meaning g.S.Site.rows c.self.inside.unit c.self.inside.book c.self.inside.intake c.self.inside.back
    c.self.inside.notice c.self.inside.owes c.self.invariant.0 c.holds.ensures.given
    c.in-Some.value c.holds.ensures.legal c.in-Some.ensures.first in
    let back = c.self.inside.back in
    let sends : c.send.new.self ≡ record {
      number = back.number;
      sent = slice_set back.sent c.in-Some.value.name.task (sent_to back c.in-Some.value.name.task ++ c.in-Some.value ∷ []);
    } =
    c.in-Ok.ensures.sent
    ∙ ap (λ (n : Name). record { number = back.number; sent = slice_set back.sent n.task (sent_to back n.task ++ c.new.result ∷ []) })
    c.name-name.ensures
    ∙ ap (λ (v : PostedState). record {
      number = back.number;
      sent = slice_set back.sent c.in-Some.value.name.task (sent_to back c.in-Some.value.name.task ++ v ∷ []);
    }) c.new.ensures in (
      unit-delivers g.D.Device.meaning g.S.Site.rows c.self.inside.unit c.self.inside.book c.self.inside.intake c.self.inside.back
          c.self.inside.notice c.self.inside.owes c.self.invariant.0 c.holds.ensures.given
          c.take_out.new.self c.in-Some.value c.send.new.self c.in-Some.ensures.book c.in-Some.ensures.given f.0 sends,
      began_then c.self.invariant.1 (continues_out _ c.in-Some.ensures.book),
      log_quietly c.self.invariant.2 (quietly_out c.self.inside.book c.take_out.new.self _ c.in-Some.ensures.book),
    )

pub returns-in-Ok : goal.returns-in-Ok
returns-in-Ok g c =
    let meaning = g.D.Device.meaning in
    let s = g.S.Site.rows in
    let value = c.in-Some.value in
    let is = c.self.view_is in
    let f = first-is meaning s c.self.inside.unit c.self.inside.book c.self.inside.intake c.self.inside.back c.self.inside.notice
    c.self.inside.owes c.self.invariant.0 c.holds.ensures.given
    value c.holds.ensures.legal c.in-Some.ensures.first in
    let first : IsFirst meaning s c.self.inside.book c.name-name.result value =
    record { first = sym c.in-Some.ensures.first; named = sym c.name-name.ensures; of_task = f.0 } in (
      value,
      subst (λ (v : Locked _). IsFirst meaning s v.book c.name-name.result value) is first,
      (λ i. record {
        unit = c.self.inside.unit;
        book = c.in-Some.ensures.book i;
        notified = c.self.inside.notice.sent;
        owes = c.self.inside.owes;
      }) ∙ ap (λ (v : Locked _). record v { book = record v.book { out = drop 1 v.book.out } }) is,
      c.in-Some.ensures.given ∙ ap (λ (v : Locked _). given meaning v.book ++ value ∷ []) is,
    )

pub returns-in-Err : goal.returns-in-Err
returns-in-Err g c =
    let meaning = g.D.Device.meaning in
    let s = g.S.Site.rows in
    let value = c.in-Some.value in
    let is = c.self.view_is in
    let inv = c.self.invariant.0 in
    let f = first-is meaning s c.self.inside.unit c.self.inside.book c.self.inside.intake c.self.inside.back c.self.inside.notice
    c.self.inside.owes inv c.holds.ensures.given
    value c.holds.ensures.legal c.in-Some.ensures.first in
    let first : IsFirst meaning s c.self.inside.book c.name-name.result value =
    record { first = sym c.in-Some.ensures.first; named = sym c.name-name.ensures; of_task = f.0 } in
    let full : WasFull unit_of NoFact
    (end_of (post_rows s) c.self.inside.unit value.name.task (of_sender for_task value.name.task (given meaning c.self.inside.book))) =
    subst (λ (q : ℕ × List PostedState). WasFull unit_of NoFact (end_of (post_rows s) q.0 value.name.task q.1))
    (λ j. (inv.back_is j, inv.sent value.name.task f.0 j))
    (subst (λ (n : Name). WasFull unit_of NoFact
    (end_of (post_rows s) c.self.inside.back.number n.task (sent_to c.self.inside.back n.task))) c.name-name.ensures
    c.in-Err.ensures.was_full) in (
      value,
      subst (λ (v : Locked _). IsFirst meaning s v.book c.name-name.result value) is first,
      (search rules),
      subst (λ (v : Locked _). WasFull unit_of NoFact
          (end_of (post_rows s) v.unit value.name.task (of_sender for_task value.name.task (given meaning v.book)))) is full,
    )

pub invariant_of-self : goal.invariant_of-self
invariant_of-self g c = (
  first_of (search rules, grind (arith, common_steps)),
  began_then c.self.invariant.1 (continues_out _ c.take_out.ensures.book),
  log_quietly c.self.invariant.2 (quietly_out c.self.inside.book c.take_out.new.self _ c.take_out.ensures.book),
)

pub invariant_of-self-in-Err : goal.invariant_of-self-in-Err
invariant_of-self-in-Err g c = (
  first_of (search rules, grind (arith, common_steps)),
  began_then (began_then c.self.invariant.1 (continues_out _ c.take_out.ensures.book)) (continues_out _ c.return_out.ensures),
  log_quietly (log_quietly c.self.invariant.2 (quietly_out c.self.inside.book c.take_out.new.self _ c.take_out.ensures.book)) (quietly_out c.take_out.new.self c.return_out.new.self _ c.return_out.ensures),
)
