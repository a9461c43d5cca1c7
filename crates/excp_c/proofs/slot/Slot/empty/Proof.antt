-- `empty` puts a pointer and an allocator together.
use Rattle.std.proofs.Common.{◌≡◌, List, [], ◌∷◌, ◌++◌, refl, sym, subst}
use Rattle.std.specs.Prelude.{Option, None}
use mir.Val.{Val}
use base.Logic.{SProp, ent, emp, id⊢}
use prog.Wp.{WpFn}
use types.Kit.{‵, raw, ◌⊛◌, ◌$◌, ◌∵◌, !, qed, by, move, keep, split, fsplit, fjoin, feq_l, suffices, use0}
use types.Run.{no_more, and_then, returns, enter}
use types.ByLocal.{alloc_all, pass_all, free_all, look_at, get, sets}
use types.Part.{agg}
use contract.Monad.{fact, fact_i}
use contract.Running.{tables}
use denote.RattleType.{owns}
use denote.Signature.{types_at, plain}
use denote.Builtin.{RawPtr}
use denote.RawPtr.{ptr_val, rawptr_Lawful}
use denote.Steps.{nothing}
use denote.Triple.Entry.{alive}
use denote.Triple.Walked.{Stays, stay_dropped, Goes-dropped, walk_of}
use Rattle.core.proofs.alloc.Calls.{Goes-blank, handle_tells}
use Rattle.std.proofs.raw_atomic.Walks.{proved_at, leaves}
use Rattle.excp_c.proofs.Fields.{both, both_good, allocator}
use Rattle.excp_c.proofs.SlotValues.{Site, Heap, heap_lawful, empty_in}
use Rattle.std.specs.contracts.impls.GlobalAllocator.TheImpl.{ghosts}
use Rattle.excp_c.specs.contracts.slot.Slot.empty as f
use Rattle.excp_c.proofs.slot.Slot.empty.Statement.{statement}
use Rattle.excp_c.proofs.slot.Slot.empty.Code as code

abbrev stayed : Stays f.ended.signature.params f.ended.kept
stayed = (stay_dropped (plain (λ _. RawPtr)) f.ended.kept.0, (stay_dropped (plain (λ _. Heap)) f.ended.kept.1.0, tt))

pub empty_spec : {M : Type 1} → statement M
empty_spec 𝓤 𝓛 𝓜 𝓡 wired =
    let 𝓣 = tables 𝓤 𝓛.H 𝓜 𝓡 𝓡.env in let c = f.clauses 𝓛 𝓜.mem 𝓡.returns in let none : Option Site.Denot = None in
    proved_at 𝓛 f.ended stayed c 𝓜 𝓡
    (Goes-dropped 𝓛 0 (plain (λ _. RawPtr)) f.ended.kept.0 (λ κs x w. refl), (Goes-blank 𝓛 0 (plain (λ _. Heap)) f.ended.kept.1.0 (λ κs x w. tt), tt))
    f.Key.name code.function (code.unfolded 𝓤 𝓛.H 𝓜 𝓡 wired) (λ y are.
    let p = y.0.3.0 in let a = y.0.3.1.0 in let Post : Val → SProp 𝓤 = (walk_of 𝓛 f.ended stayed c).post y in
    let Run : List Val → SProp 𝓤 = λ vs. WpFn 𝓤 𝓛.H 𝓣.C 𝓣.Λ code.function vs Post in
    qed 𝓛 ((raw (alive 𝓛 f.ended.signature y.0.0 y.0.1) ⊛ ‵ (owns (types_at f.ended.signature.params y.0.0) y.0.3 y.0.4)) ∷
    raw ((c y.0.0 y.0.3).requires y.1) ∷ []) ∵
    split ! $ move ! (1 ∷ []) $ fsplit ! $ feq_l ! (λ at. fsplit ! $ handle_tells (allocator Heap heap_lawful ghosts) ! a y.0.4.1.0 (λ h handle good.
    suffices ! (Run (ptr_val p ∷ h ∷ []))
    (subst (λ (vs : List Val). ent 𝓤 (Run (ptr_val p ∷ h ∷ [])) (Run vs)) (sym (λ i. at i ++ (handle i ++ []))) (id⊢ 𝓤 (Run (ptr_val p ∷ h ∷ [])))) $
    enter ! 𝓣.C 𝓣.Λ code.function (ptr_val p ∷ h ∷ []) Post $
    alloc_all ! (λ l. pass_all ! refl (((rawptr_Lawful 𝓛).typed p (ptr_val p ∷ []) refl).0, (good, tt)) $
    sets ! (agg ! (and_then ! (get ! refl) (and_then ! (get ! refl) (no_more !)))) refl (both_good Heap p h good) $
    empty_in ! p h a $
    use0 𝓛 (raw (fact 𝓤 (none ≡ none))) (fact_i 𝓤 (none ≡ none) (emp 𝓤) refl) $ nothing ! $ nothing ! $ fjoin ! $ nothing ! $ fjoin ! $
    returns ! (look_at ! 0 refl) $ free_all ! refl $ keep ! (4 ∷ 0 ∷ 2 ∷ 1 ∷ []) $
    by ! (leaves 𝓛 f.ended stayed c y (both (ptr_val p) h) (record { at = p; alloc = a; value = none }) (tt, (tt, tt)) (tt, (tt, tt)))))))
