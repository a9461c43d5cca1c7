-- What the joined rows tell of a report.
use Rattle.std.proofs.Common.{Bool, ◌≡◌, ◌<◌, ◌==◌, ℕ, List, [], ◌++◌, map, Some, sym, ap, ◌∙◌, subst}
use Rattle.std.specs.Prelude.{slice_get}
use Rattle.std.specs.List.{All}
use Rattle.std.proofs.lemmas.List.{append-nil}
use Rattle.device_port.specs.Meaning.{Meaning}
use Rattle.request_piece.specs.PostedState.{PostedState}
use Rattle.request_piece.specs.declared.piece.Piece.{Piece}
use Rattle.unit_book.specs.Book.{Book, given}
use Rattle.unit_book.specs.Legal.{Legal}
use Rattle.unit_book.specs.Lists.{Each}
use Rattle.unit_book.specs.Posts.{posted}
use Rattle.unit_book.specs.Settle.{IsIdle}
use Rattle.unit_book.specs.Trace.{arrivals}
use Rattle.unit_book.specs.WorldLaws.{FinishedOnce, posts_of}
use Rattle.unit_book.proofs.Facts.{Each-filter, Each-weaker}
use Rattle.fifo_row.specs.Lists.{of_sender}
use Rattle.excp_system.specs.Begun.{AreBegun, Began}
use Rattle.excp_system.specs.Drained.{ArePlaced, Drained, IsDrained}
use Rattle.excp_system.specs.Sites.{SiteRows, task_of, for_task}
use Rattle.excp_system.specs.States.{AreOf, Locked, TaskState}
use Rattle.post_ledger.specs.Parting.{AreControlled, AreSettled, BookKeeps, ControlledBy, book_of}
use Rattle.post_ledger.specs.Report.{AreIdle, AreLegal, AreOfTasks, Controls, PostedOnce, Received, ReportState, ReturnedRest}
use Rattle.post_ledger.specs.Work.{list_of, lists_of}
use Rattle.post_ledger.proofs.Pairs.{all_get, all_map, all_weaker, get_map}

module _ {D : Type 0} (meaning : Meaning D) (units : List (Locked D)) (tasks : List TaskState) (report : ReportState D)
    (are : report.books ≡ map book_of units) where
  -- the unit that a book of the report is of
  unit_at : (u : ℕ) (b : Book D) → slice_get report.books u ≡ Some b → (v : Locked D) × (slice_get units u ≡ Some v) × (b ≡ v.book)
  unit_at u b e = get_map book_of units u b (ap (λ l. slice_get l u) (sym are) ∙ e)

  -- each book is that of the unit at its place
  pub are_begun : {opened : List (Book D)} {count : ℕ} → ArePlaced (λ (v : Locked D). v.unit) count units →
      All (λ (v : Locked D). Began opened v.unit v.book) units → AreBegun opened report.books
  are_begun {opened = opened} placed began u b e =
      let v = unit_at u b e in
      subst (λ (q : ℕ × Book D). Began opened q.0 q.1) (λ j. (placed.each u v.0 v.1 j, sym v.2 j))
      (all_get (λ (x : Locked D). Began opened x.unit x.book) units u v.0 began v.1)

  pub are_legal : All (λ (v : Locked D). BookKeeps meaning v.book) units → AreLegal meaning report
  are_legal sound =
      subst (All (λ (b : Book D). Legal meaning b.mounted b.trace)) (sym are)
      (all_map book_of (λ (b : Book D). Legal meaning b.mounted b.trace) units
      (all_weaker (λ (v : Locked D). BookKeeps meaning v.book) (λ (v : Locked D). Legal meaning v.book.mounted v.book.trace) units
      (λ v s. s.legal) sound))

  pub are_idle : All (λ (v : Locked D). IsIdle v.book.trace) units → AreIdle report
  are_idle idle = subst (All (λ (b : Book D). IsIdle b.trace)) (sym are) (all_map book_of (λ (b : Book D). IsIdle b.trace) units idle)

  pub are_of_tasks : (s : SiteRows) → All (λ (v : Locked D). AreOf s v.unit (arrivals v.book.trace)) units → AreOfTasks s.tasks report
  are_of_tasks s all =
      let Of = λ (b : Book D). Each (λ (r : Piece). task_of r < s.tasks) (arrivals b.trace) in
      subst (All Of) (sym are)
      (all_map book_of Of units
      (all_weaker (λ (v : Locked D). AreOf s v.unit (arrivals v.book.trace)) (λ (v : Locked D). Of v.book) units
      (λ v of_sender. Each-weaker (λ (r : Piece). (r.name.task < s.tasks) × (r.unit ≡ v.unit)) (λ (r : Piece). task_of r < s.tasks)
      (λ r is. is.0) (arrivals v.book.trace) of_sender) all))

  pub controls : (own_calls : Bool) (opened : List (Book D)) → AreControlled own_calls opened units tasks →
      Controls own_calls opened report tasks
  controls own_calls opened controlled u b e =
      let v = unit_at u b e in
      subst (λ (x : Book D). ControlledBy own_calls opened u x.trace tasks) (sym v.2) (controlled u v.0 v.1)

  module _ (settled : AreSettled meaning units tasks) where
    pub received : Received report tasks
    received u t b w e e' = let v = unit_at u b e in ap (λ (x : Book D). of_sender task_of t (arrivals x.trace)) v.2 ∙ (settled u t v.0 w v.1 e').0

    pub posted_once : FinishedOnce meaning → AreLegal meaning report → AreIdle report → PostedOnce report tasks
    posted_once law legal idle u t b w e e' =
        let i = all_get (λ (x : Book D). IsIdle x.trace) report.books u b idle e in
        let l = all_get (λ (x : Book D). Legal meaning x.mounted x.trace) report.books u b legal e in
        subst (Each (λ r. posts_of r.name b.trace ≡ 1)) (received u t b w e e')
        (Each-filter (λ r. posts_of r.name b.trace ≡ 1) (λ (r : Piece). r.name.task == t) (arrivals b.trace)
        (law b.mounted b.trace l i.none_waits i.none_active))

    -- nothing is out, so that all that was posted was given
    all_given : (v : Locked D) → BookKeeps meaning v.book → v.book.out ≡ [] →
        given meaning v.book ≡ posted meaning v.book.mounted v.book.trace
    all_given v sound none = sym (append-nil (given meaning v.book)) ∙ (ap (λ l. given meaning v.book ++ l) (sym none) ∙ sound.given)

    pub returned_rest : (lists : List (List (List PostedState))) → report.lists ≡ lists →
        All (λ (v : Locked D). BookKeeps meaning v.book) units → Drained meaning units tasks → ReturnedRest meaning lists report tasks
    returned_rest lists same sound drained u t b w e e' before got =
        let v = unit_at u b e in
        let s = all_get (λ (x : Locked D). BookKeeps meaning x.book) units u v.0 sound v.1 in
        let d = all_get (IsDrained meaning tasks) units u v.0 drained v.1 in
        ap (λ l. before ++ list_of (lists_of l t) u) same
        ∙ (sym got
        ∙ ((settled u t v.0 w v.1 e').1
        ∙ (ap (of_sender for_task t) (all_given v.0 s d.out)
        ∙ ap (λ (x : Book D). of_sender for_task t (posted meaning x.mounted x.trace)) (sym v.2))))
