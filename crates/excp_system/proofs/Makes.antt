-- Tasks, handlers and units are made of their ends.
use Rattle.std.proofs.Common.{false, ◌≡◌, ◌<◌, ◌≤◌, ◌^◌, ⊎_elim, ℕ, zero, suc, ◌+◌, ◌-◌, true, List, [], ◌∷◌, ◌++◌, length}
use Rattle.std.proofs.Common.{set, take, replicate, Some, refl, sym, ap, ◌∙◌, subst, arith, length-append}
use Rattle.std.specs.Prelude.{Err, Ok, OnErr, OnOk, slice_get, slice_set}
use Rattle.std.specs.declared.result.Result.{Result}
use Rattle.std.specs.List.{list_all}
use Rattle.std.proofs.lemmas.List.{length-replicate}
use Rattle.std.proofs.lemmas.List.Elements.{All-replicate, All-same, All-set}
use Rattle.std.proofs.Math.ListN.{length-set}
use Rattle.device_port.specs.Meaning.{Meaning}
use Rattle.request_piece.specs.PostedState.{PostedState}
use Rattle.request_piece.specs.declared.piece.Piece.{Piece}
use Rattle.unit_book.specs.Book.{Book, given}
use Rattle.unit_book.specs.Posts.{posted}
use Rattle.unit_book.specs.Trace.{arrivals, is_opening}
use Rattle.unit_book.proofs.WorldTraces.{opened-only}
use Rattle.fifo_row.specs.Ends.{Sending, Taking}
use Rattle.fifo_row.specs.Lists.{of_sender}
use Rattle.excp_system.specs.declared.item.Notice.{Notice}
use Rattle.excp_system.specs.Sites.{SiteRows, intake_rows, post_rows, notice_rows, for_task, taker_of, end_of}
use Rattle.unit_book.specs.declared.control.Control.{Control}
use Rattle.excp_system.specs.Controls.{PensState}
use Rattle.excp_system.specs.Fans.{FanState, sent_to}
use Rattle.excp_system.specs.States.{TaskState, HandlerState, IsUnit, IsTask, IsHandler, AreOf}
use Rattle.excp_system.specs.Opening.{AreTasks}
use Rattle.excp_system.proofs.Places.{get_snoc, index_replicate}

-- what is put behind the others stands at the next place
each_next : {A : Type 0} (made : ℕ → A) (k : ℕ) (xs : List A) (x : A) → length xs ≡ k →
    ((j : ℕ) (y : A) → slice_get xs j ≡ Some y → y ≡ made j) → x ≡ made k →
    (j : ℕ) (y : A) → slice_get (xs ++ x ∷ []) j ≡ Some y → y ≡ made j
each_next made k xs x here old is j y e =
    ⊎_elim (λ o. old j y o) (λ (p : (j ≡ length xs) × (x ≡ y)). sym p.1 ∙ (is ∙ ap made (sym (p.0 ∙ here)))) (get_snoc xs x y j e)

pub is_task : (s : SiteRows) (t number : ℕ) (out : FanState Piece) (end : Taking PostedState) (pens : PensState) → number ≡ out.number →
    t < s.tasks → s.units < 2 ^ 16 →
    out ≡ record { number = t; sent = replicate s.units [] } → end ≡ taker_of (post_rows s) s.units t [] →
    pens ≡ record { number = t; asked = replicate s.units [] } →
    IsTask s (record { number = number; sent = out.sent; got = end.taken; asked = pens.asked }) out end pens
is_task s t number out end pens same of_site few is is' are =
    let n : number ≡ t = same ∙ ap (λ (f : FanState Piece). f.number) is in
    record {
      of_site = omega (arith, of_site, n);
      out_is = λ i. record { number = sym same i; sent = out.sent };
      collected_is = is' ∙ (λ i. taker_of (post_rows s) s.units (sym n i) (sym (ap (λ (e : Taking PostedState). e.taken) is') i));
      pens_are = λ i. record { number = (ap (λ (p : PensState). p.number) are ∙ sym n) i; asked = pens.asked };
      count = ap (λ (f : FanState Piece). length f.sent) is ∙ length-replicate s.units [];
      pen_count = ap (λ (p : PensState). length p.asked) are ∙ length-replicate s.units [];
      few_units = few;
      few = All-same (λ (l : List Piece). length l ≤ 2 ^ 32 - 1) out.sent (replicate s.units []) (ap (λ (f : FanState Piece). f.sent) is)
          (All-replicate (λ (l : List Piece). length l ≤ 2 ^ 32 - 1) s.units [] (omega arith));
    }

-- a task that has sent one more request, or whose row was full
pub task_sends : {A E : Type 0} (s : SiteRows) (number k : ℕ) (out new : FanState Piece) (end : Taking PostedState) (pens : PensState)
    (more : List Piece)
    (r : Result A E) → IsTask s (record { number = number; sent = out.sent; got = end.taken; asked = pens.asked }) out end pens →
    OnOk r (new ≡ record { number = out.number; sent = slice_set out.sent k more }) → OnErr r (new ≡ out) → length more ≤ 2 ^ 32 - 1 →
    IsTask s (record { number = number; sent = new.sent; got = end.taken; asked = pens.asked }) new end pens
task_sends s number k out new end pens more (Ok a) is sent same few = record {
  of_site = is.of_site;
  out_is = sent ∙ (λ i. record { number = (is.out_is i).number; sent = (sym sent i).sent });
  collected_is = is.collected_is;
  pens_are = is.pens_are;
  pen_count = is.pen_count;
  count = ap (λ (f : FanState Piece). length f.sent) sent ∙ length-set out.sent k more ∙ is.count;
  few_units = is.few_units;
  few = All-same (λ (l : List Piece). length l ≤ 2 ^ 32 - 1) new.sent (set out.sent k more) (ap (λ (f : FanState Piece). f.sent) sent)
      (All-set (λ (l : List Piece). length l ≤ 2 ^ 32 - 1) out.sent k more few is.few);
}
task_sends s number k out new end pens more (Err e) is sent same few =
    subst (λ (f : FanState Piece). IsTask s (record { number = number; sent = f.sent; got = end.taken; asked = pens.asked }) f end pens) (sym same)
    is

pub is_handler : (s : SiteRows) (k isc : ℕ) (end : Taking Notice) → isc ≡ k → k ≤ 7 → end ≡ taker_of (notice_rows s) s.units k [] →
    IsHandler s (record { isc = isc; taken = end.taken }) end
is_handler s k isc end turn fits is = record {
  isc_fits = omega (arith, turn, fits);
  end_is = is ∙ (λ i. taker_of (notice_rows s) s.units (sym turn i) (sym (ap (λ (e : Taking Notice). e.taken) is) i));
}

pub tasks_next : (units t : ℕ) (tasks : List TaskState) (w : TaskState) (number : ℕ) (out : FanState Piece) (got : List PostedState)
    (asked : List (List Control)) →
    length tasks ≡ t → AreTasks t units tasks →
    w ≡ record { number = number; sent = out.sent; got = got; asked = asked } → number ≡ out.number →
    out ≡ record { number = t; sent = replicate units [] } → got ≡ [] → asked ≡ replicate units [] → AreTasks (t + 1) units (tasks ++ w ∷ [])
tasks_next units t tasks w number out got asked here old is same out_is none no_controls = record {
  count_is = omega (arith, length-append tasks (w ∷ []), here);
  each = each_next (λ n. record { number = n; sent = replicate units []; got = []; asked = replicate units [] }) t tasks w here old.each
      (is ∙ (λ i. record {
        number = (same ∙ ap (λ (f : FanState Piece). f.number) out_is) i;
        sent = (out_is i).sent;
        got = none i;
        asked = no_controls i;
      }));
}

pub handlers_next : (k : ℕ) (handlers : List HandlerState) (h : HandlerState) → length handlers ≡ k →
    ((isc : ℕ) (x : HandlerState) → slice_get handlers isc ≡ Some x → x ≡ record { isc = isc; taken = [] }) →
    h ≡ record { isc = k; taken = [] } → (isc : ℕ) (x : HandlerState) → slice_get (handlers ++ h ∷ []) isc ≡ Some x →
    x ≡ record { isc = isc; taken = [] }
handlers_next k handlers h here old is = each_next (λ isc. record { isc = isc; taken = [] }) k handlers h here old is

take_none : {A : Type 0} (k : ℕ) (xs : List A) → xs ≡ [] → take k xs ≡ []
take_none zero xs e = refl
take_none (suc k) xs e = ap (take (suc k)) e

module _ {D : Type 0} (meaning : Meaning D) (s : SiteRows) (unit number : ℕ) (b : Book D) (intake : Taking Piece)
    (back : FanState PostedState) (ends : FanState Notice) (notice : Sending Notice) where
  pub is_unit : number ≡ back.number → unit < s.units → list_all is_opening b.trace ≡ true → intake ≡ taker_of (intake_rows s) s.tasks unit [] →
      back ≡ record { number = unit; sent = replicate s.tasks [] } →
      ends ≡ record { number = unit; sent = replicate 8 [] } → notice ≡ end_of (notice_rows s) ends.number b.isc (sent_to ends b.isc) →
      IsUnit meaning s (record { unit = number; book = b; notified = notice.sent; owes = false }) intake back notice
  is_unit same of_site opened intake_is back_is ends_are notice_is =
      let n : number ≡ unit = same ∙ ap (λ (f : FanState PostedState). f.number) back_is in
      let m : ends.number ≡ number = ap (λ (f : FanState Notice). f.number) ends_are ∙ sym n in
      let quiet = opened-only meaning b.mounted b.trace opened in
      let none : arrivals b.trace ≡ [] = quiet.0 in
      let gave : given meaning b ≡ [] = take_none (length (posted meaning b.mounted b.trace) - length b.out)
      (posted meaning b.mounted b.trace) quiet.1 in
      record {
        of_site = omega (arith, of_site, n);
        intake_is = intake_is ∙ (λ i. taker_of (intake_rows s) s.tasks (sym n i) (sym none i));
        back_is = sym same;
        count = ap (λ (f : FanState PostedState). length f.sent) back_is ∙ length-replicate s.tasks [];
        sent = λ t lt. ap (λ (f : FanState PostedState). sent_to f t) back_is
            ∙ (index_replicate s.tasks t [] ∙ ap (of_sender for_task t) (sym gave));
        notice_is = notice_is ∙ (λ i. end_of (notice_rows s) (m i) b.isc (sym (ap (λ (e : Sending Notice). e.sent) notice_is) i));
        of_unit = subst (AreOf s number) (sym none) tt;
      }
