-- What the logs of units and the pens of tasks tell of each other.
use Rattle.std.proofs.Common.{◌≡◌, ℕ, Bool, List, length, map, Some, sym, ap, ◌∙◌, arith}
use Rattle.std.specs.Prelude.{slice_get}
use Rattle.std.specs.List.{All}
use Rattle.unit_book.specs.Book.{Book}
use Rattle.signed_list.specs.Signed.{signed_by}
use Rattle.excp_system.specs.Controls.{LogState, PensState}
use Rattle.excp_system.specs.Drained.{ArePlaced}
use Rattle.excp_system.specs.Sites.{SiteRows}
use Rattle.excp_system.specs.States.{Locked, TaskState}
use Rattle.post_ledger.specs.Audit.{AllAudited}
use Rattle.post_ledger.specs.Parting.{AreControlled, IsLogOf, Paired, hand_of}
use Rattle.post_ledger.proofs.Pairs.{all_get, get_map, get_there, map_get}

module _ {D : Type 0} (s : SiteRows) (own_calls : Bool) (opened : List (Book D)) (units : List (Locked D)) where
  pub log_registers : (logs : List LogState) → ArePlaced (λ (v : Locked D). v.unit) s.units units → Paired (IsLogOf s own_calls opened) units logs →
      (unit : ℕ) (l : LogState) → slice_get logs unit ≡ Some l → l.register ≡ s.register unit
  log_registers logs placed paired unit l e =
      let v = get_there units logs unit l paired.count e in
      (paired.each unit v.0 l v.1 e).register ∙ ap s.register (placed.each unit v.0 v.1)

  module _ (tasks : List TaskState) (logs : List LogState) (hands : List PensState) where
    pub hands_are : ArePlaced (λ (v : Locked D). v.unit) s.units units → ArePlaced (λ (w : TaskState). w.number) s.tasks tasks →
        Paired (IsLogOf s own_calls opened) units logs → hands ≡ map hand_of tasks → All (λ (w : TaskState). length w.asked ≡ s.units) tasks →
        (t : ℕ) (p : PensState) → slice_get hands t ≡ Some p → (p.number ≡ t) × (length p.asked ≡ length logs)
    hands_are placed placed' paired are counts t p e =
        let m = get_map hand_of tasks t p (ap (λ l. slice_get l t) (sym are) ∙ e) in (
          ap (λ (x : PensState). x.number) m.2 ∙ placed'.each t m.0 m.1,
          ap (λ (x : PensState). length x.asked) m.2 ∙ all_get (λ (w : TaskState). length w.asked ≡ s.units) tasks t m.0 counts m.1
              ∙ sym (paired.count ∙ placed.count_is),
        )

    pub controlled_by : ArePlaced (λ (v : Locked D). v.unit) s.units units →
        ArePlaced (λ (w : TaskState). w.number) s.tasks tasks → Paired (IsLogOf s own_calls opened) units logs → hands ≡ map hand_of tasks →
        AllAudited own_calls s.tasks logs hands → AreControlled own_calls opened units tasks
    controlled_by placed placed' paired are audited u v e =
        let l = get_there logs units u v (sym paired.count) e in
        let a = audited u l.0 l.1 in
        let keeps = paired.each u v l.0 e l.1 in
        record {
          first = keeps.first;
          is = ap (slice_get opened) (sym (placed.each u v e)) ∙ keeps.is;
          asked = l.0.asked;
          controlled = keeps.controlled;
          of_tasks = λ t w e'. a.of_tasks t (hand_of w) (ap (λ x. slice_get x t) are ∙ map_get hand_of tasks t w e');
          no_other = λ k lt. a.no_other k (omega (arith, lt, placed'.count_is));
          no_own = λ alone. ap (λ n. signed_by n l.0.asked) placed'.count_is ∙ a.no_own alone;
        }
