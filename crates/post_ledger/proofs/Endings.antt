-- What a report of units and tasks that have gone on tells of them as they were.
use Rattle.std.proofs.Common.{◌≡◌, ◌<◌, ℕ, Bool, List, ◌++◌, length, map, Some, sym, ap, ◌∙◌, subst, arith, append_assoc}
use Rattle.std.specs.Prelude.{slice_get}
use Rattle.std.proofs.lemmas.List.{length-map}
use Rattle.std.proofs.lemmas.Option.{slice_get_within}
use Rattle.device_port.specs.Meaning.{Meaning}
use Rattle.request_piece.specs.PostedState.{PostedState}
use Rattle.unit_book.specs.Book.{Book}
use Rattle.unit_book.specs.Lists.{Each}
use Rattle.unit_book.specs.WorldLaws.{posts_of}
use Rattle.fifo_row.specs.Lists.{of_sender}
use Rattle.fifo_row.proofs.Filters.{of-append}
use Rattle.signed_list.specs.Signed.{signed_by}
use Rattle.excp_system.specs.Controls.{asked_of}
use Rattle.excp_system.specs.Sites.{unit_of}
use Rattle.excp_system.specs.States.{Locked, TaskState, sent_by}
use Rattle.post_ledger.specs.Parting.{Paired, book_of}
use Rattle.post_ledger.specs.Report.{Controls, PostedOnce, Received, ReportState, ReturnedRest}
use Rattle.post_ledger.specs.Work.{CollectsAll, Gathers, Grew, Works, list_of, lists_of}
use Rattle.post_ledger.proofs.Pairs.{get_map, get_there}

-- a task that has collected has sent what it had sent
module _ {D : Type 0} (units : ℕ) (first tasks : List TaskState) (before after : List (List (List PostedState)))
    (c : CollectsAll units first tasks before after) (report : ReportState D) where
  later : (t : ℕ) (w : TaskState) → slice_get first t ≡ Some w → (v : TaskState) × (slice_get tasks t ≡ Some v)
      × Gathers units w v (lists_of before t) (lists_of after t)
  later t w e = let v = get_there tasks first t w (sym c.count) e in (v.0, v.1, c.each t w v.0 e v.1)

  pub received_first : Received report tasks → Received report first
  received_first r u t b w e e' = let v = later t w e' in r u t b v.0 e v.1 ∙ ap (λ (x : TaskState). sent_by x u) v.2.task

  pub controls_first : (own_calls : Bool) (opened : List (Book D)) → Controls own_calls opened report tasks → Controls own_calls opened report first
  controls_first own_calls opened r u b e =
      let known = r u b e in
      record {
        first = known.first;
        is = known.is;
        asked = known.asked;
        controlled = known.controlled;
        of_tasks = λ t w e'. let v = later t w e' in known.of_tasks t v.0 v.1 ∙ ap (λ (x : TaskState). asked_of x.asked u) v.2.task;
        no_other = λ k lt. known.no_other k (omega (arith, lt, c.count));
        no_own = λ alone. ap (λ n. signed_by n known.asked) (sym c.count) ∙ known.no_own alone;
      }

  pub posted_first : PostedOnce report tasks → PostedOnce report first
  posted_first p u t b w e e' = let v = later t w e' in subst (λ (x : TaskState). Each (λ r. posts_of r.name b.trace ≡ 1) (sent_by x u))
      v.2.task (p u t b v.0 e v.1)

  -- what was collected stands in its lists
  pub returned_first : (meaning : Meaning D) → length report.books ≡ units → ReturnedRest meaning after report tasks →
      ReturnedRest meaning before report first
  returned_first meaning count r u t b w e e' front got =
      let v = later t w e' in
      let lt : u < units = omega (arith, slice_get_within report.books u b e, count) in
      let more = of_sender unit_of u v.2.values in
      r u t b v.0 e v.1 front
      (ap (λ (x : TaskState). of_sender unit_of u x.got) v.2.task
      ∙ (of-append unit_of u w.got v.2.values
      ∙ (ap (λ l. l ++ more) got
      ∙ (append_assoc front (list_of (lists_of before t) u) more
      ∙ ap (λ l. front ++ l) (sym (v.2.lists u lt))))))

pub grew_into : {D : Type 0} (first units : List (Locked D)) (books : List (Book D)) → books ≡ map book_of units →
    Paired Works first units → Paired (λ (v : Locked D) b. Grew v.book b) first books
grew_into first units books are works = record {
  count = ap length are ∙ (length-map units book_of ∙ works.count);
  each = λ k v b e e'.
      let m = get_map book_of units k b (ap (λ l. slice_get l k) (sym are) ∙ e') in
      subst (Grew v.book) (sym m.2) (works.each k v m.0 e m.1).book;
}
