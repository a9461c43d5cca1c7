-- Units and tasks taken apart, and what the joined rows tell.
use Rattle.std.proofs.Common.{◌≡◌, ℕ, ◌<◌, List, length, map, Some, sym, ap, ◌∙◌, arith}
use Rattle.std.specs.Prelude.{slice_get}
use Rattle.std.specs.List.{All}
use Rattle.std.proofs.lemmas.List.{length-map}
use Rattle.std.proofs.lemmas.Option.{slice_get_within}
use Rattle.device_port.specs.Meaning.{Meaning}
use Rattle.request_piece.specs.PostedState.{PostedState}
use Rattle.request_piece.specs.declared.piece.Piece.{Piece}
use Rattle.unit_book.specs.Book.{given}
use Rattle.unit_book.specs.Trace.{arrivals}
use Rattle.fifo_row.specs.Ends.{Taking}
use Rattle.fifo_row.specs.Lists.{of_sender}
use Rattle.excp_system.specs.Drained.{ArePlaced, Drained, IsDrained, IsTaken}
use Rattle.excp_system.specs.Fans.{FanState, sent_to}
use Rattle.excp_system.specs.Sites.{SiteRows, intake_rows, post_rows, task_of, unit_of, for_task}
use Rattle.excp_system.specs.States.{Locked, TaskState, sent_by}
use Rattle.post_ledger.proofs.Pairs.{all_get, get_map, get_there, map_get}
use Rattle.post_ledger.specs.Rows.{AreEnds, AllTaken}
use Rattle.post_ledger.specs.Parting.{IsBack, Paired, intake_end, out_of, post_end}

module _ {D : Type 0} (meaning : Meaning D) (s : SiteRows) (units : List (Locked D)) (tasks : List TaskState)
    (here : ArePlaced (λ (v : Locked D). v.unit) s.units units) (there : ArePlaced (λ (w : TaskState). w.number) s.tasks tasks)
    (done : Drained meaning units tasks) where
  taken : (u t : ℕ) (v : Locked D) (w : TaskState) → slice_get units u ≡ Some v → slice_get tasks t ≡ Some w → IsTaken meaning v w
  taken u t v w e e' = all_get (IsTaken meaning v) tasks t w (all_get (IsDrained meaning tasks) units u v done e).taken e'

  requests : (u t : ℕ) (v : Locked D) (w : TaskState) → slice_get units u ≡ Some v → slice_get tasks t ≡ Some w →
      length (sent_by w u) ≡ length (of_sender task_of t (arrivals v.book.trace))
  requests u t v w e e' =
      ap (λ n. length (sent_by w n)) (sym (here.each u v e))
      ∙ (sym (taken u t v w e e').requests ∙ ap (λ n. length (of_sender task_of n (arrivals v.book.trace))) (there.each t w e'))

  values : (u t : ℕ) (v : Locked D) (w : TaskState) → slice_get units u ≡ Some v → slice_get tasks t ≡ Some w →
      length (of_sender for_task t (given meaning v.book)) ≡ length (of_sender unit_of u w.got)
  values u t v w e e' =
      ap (λ n. length (of_sender for_task n (given meaning v.book))) (sym (there.each t w e'))
      ∙ (sym (taken u t v w e e').values ∙ ap (λ n. length (of_sender unit_of n w.got)) (here.each u v e))

  -- the intake rows
  pub intake_ends : All (λ (w : TaskState). length w.sent ≡ s.units) tasks →
      AreEnds task_of (intake_rows s) (map (intake_end s) units) (map out_of tasks)
  intake_ends counts = record {
    rows = λ k w e. let m = get_map (intake_end s) units k w e in ap (λ (x : Taking Piece). x.row) m.2 ∙ ap s.intake (here.each k m.0 m.1);
    numbers = λ t f e.
        let m = get_map out_of tasks t f e in (
          ap (λ (x : FanState Piece). x.number) m.2 ∙ there.each t m.0 m.1,
          ap (λ (x : FanState Piece). length x.sent) m.2
              ∙ (all_get (λ (w : TaskState). length w.sent ≡ s.units) tasks t m.0 counts m.1
              ∙ (sym here.count_is ∙ sym (length-map units (intake_end s)))),
        );
    drained = λ k t w f e e'.
        let m = get_map (intake_end s) units k w e in
        let n = get_map out_of tasks t f e' in
        ap (λ (x : FanState Piece). length (sent_to x k)) n.2
        ∙ (requests k t m.0 n.0 m.1 n.1 ∙ ap (λ (x : Taking Piece). length (of_sender task_of t x.taken)) (sym m.2));
  }

  pub requests_settled : AllTaken task_of (map (intake_end s) units) (map out_of tasks) → (u t : ℕ) (v : Locked D) (w : TaskState) →
      slice_get units u ≡ Some v → slice_get tasks t ≡ Some w → of_sender task_of t (arrivals v.book.trace) ≡ sent_by w u
  requests_settled all u t v w e e' = all u t (intake_end s v) (out_of w) (map_get (intake_end s) units u v e) (map_get out_of tasks t w e')

  module _ (fans : List (FanState PostedState)) (paired : Paired (IsBack meaning s) units fans) where
    -- the post rows
    pub post_ends : AreEnds unit_of (post_rows s) (map (post_end s) tasks) fans
    post_ends = record {
      rows = λ k w e. let m = get_map (post_end s) tasks k w e in ap (λ (x : Taking PostedState). x.row) m.2
          ∙ ap s.post (there.each k m.0 m.1);
      numbers = λ t f e.
          let v = get_there units fans t f paired.count e in
          let p = paired.each t v.0 f v.1 e in
          (p.number_is ∙ here.each t v.0 v.1, p.count ∙ (sym there.count_is ∙ sym (length-map tasks (post_end s))));
      drained = λ k t w f e e'.
          let m = get_map (post_end s) tasks k w e in
          let v = get_there units fans t f paired.count e' in
          let lt : k < s.tasks = omega (arith, slice_get_within tasks k m.0 m.1, there.count_is) in
          ap length ((paired.each t v.0 f v.1 e').sent k lt)
          ∙ (values t k v.0 m.0 v.1 m.1 ∙ ap (λ (x : Taking PostedState). length (of_sender unit_of t x.taken)) (sym m.2));
    }

    pub posts_settled : AllTaken unit_of (map (post_end s) tasks) fans → (u t : ℕ) (v : Locked D) (w : TaskState) →
        slice_get units u ≡ Some v → slice_get tasks t ≡ Some w → of_sender unit_of u w.got ≡ of_sender for_task t (given meaning v.book)
    posts_settled all u t v w e e' =
        let f = get_there fans units u v (sym paired.count) e in
        let lt : t < s.tasks = omega (arith, slice_get_within tasks t w e', there.count_is) in
        all t u (post_end s w) f.0 (map_get (post_end s) tasks t w e') f.1 ∙ (paired.each u v f.0 e f.1).sent t lt
