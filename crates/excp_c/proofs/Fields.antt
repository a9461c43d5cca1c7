-- A pointer beside an allocator's handle, as machine values: the fields of a `Loose` and of a `Slot`. Assumes `Logic`.
--     both_good              such a pair has its type
--     fields_out, fields_in  it is taken apart, and put together
--     in_block               what a box owns is in a block
use Rattle.std.proofs.Common.{◌≡◌, ◌∙◌, ℕ, List, [], ◌∷◌, ◌++◌, refl, lit<}
use mathlib.Core.Bool.{true, ◌&&◌}
use lib.Dec.{T}
use seplogic.Ra.Ura.{Ura}
use mir.Syntax.{ty_ptr, impl, tnil, dnil}
use mir.Raw.{raw as bare}
use mir.Val.{Val, vstruct, vcons, vnil, of_list, has_ty, WT}
use base.Logic.{never, fst∗}
use types.Logic.{Logic, sem}
use types.Kit.{Item, Goal, Seq, Step, step, ‵, ◌$◌, move, drop, fsplit, fjoin, fpick, fpack, feq_i, feq_l}
use denote.RattleType.{RattleType, Valss}
use denote.Builtin.{RawPtr}
use denote.Memory.{lone}
use denote.RawPtr.{Ptr, block_ptr, null_ptr, ptr_val, in_a_block}
use denote.Steps.{nothing}
use denote.Param.{layout}
use denote.Param.Laws.{Laws}
use denote.Struct.Struct.{Shape, Struct, within}
use Rattle.core.specs.declared.alloc.Allocator.{Ghosts}
use Rattle.core.proofs.alloc.Calls.{Al, handle_tells}
use Rattle.core.proofs.cell.Inside.{Good}
use Rattle.std_alloc.specs.Box.Ownership.{box_owns}
use Rattle.std_alloc.proofs.ResultValues.{and_tt}

abbrev pub both : Val → Val → Val
both p h = vstruct (vcons p (vcons h vnil))

module _ (Z : RattleType) where
  abbrev shape : Shape
  shape = record { name = []; args = []; types = []; fields = RawPtr ∷ Z ∷ [] }

  abbrev pub Fields : RattleType
  Fields = Struct shape

  pub both_good : (p : Ptr) (h : Val) → Good (layout Z) h
      → T (has_ty ty_ptr (ptr_val p) && (has_ty (layout Z) h && true)) × WT (both (ptr_val p) h)
  both_good (block_ptr b o) h good = (and_tt (has_ty (layout Z) h) good.0, (tt, (good.1, tt)))
  both_good null_ptr h good = (and_tt (has_ty (layout Z) h) good.0, (record { fits = lit< tt }, (good.1, tt)))

  abbrev pub allocator : Laws Z → Ghosts Z.Denot → Al
  allocator L g = record { row = Z; laws = L; g = g; d = impl [] tnil dnil; drops = impl [] tnil dnil }

  module _ (L : Laws Z) (g : Ghosts Z.Denot) {M : Type 1} {𝓤 : Ura M} {𝓛 : Logic 𝓤} {K : Type 0} {Γ : List (Item 𝓤)} {G : Goal 𝓤 𝓛.H} where
    pub fields_out : K → (p : Ptr) (a : Z.Denot) (vs : List Val)
        → ((h : Val) → vs ≡ both (ptr_val p) h ∷ [] → Good (layout Z) h → Seq K 𝓛 (‵ (Z.own_val a (h ∷ [])) ∷ Γ) G)
        → Seq K 𝓛 (‵ (Fields.own_val (p, (a, tt)) vs) ∷ Γ) G
    fields_out t p a vs k =
        fpick t (λ each. fsplit t $ feq_l t (λ whole. fsplit t $ feq_l t (λ first. fsplit t $
        handle_tells (allocator L g) t a each.1.0 (λ h second good. move t (1 ∷ []) $ drop t $
        k h (whole ∙ (λ i. vstruct (of_list (first i ++ (second i ++ []))) ∷ [])) good))))

    pub fields_in : K → (p : Ptr) (a : Z.Denot) (h : Val)
        → Step K 𝓛 (‵ (Fields.own_val (p, (a, tt)) (both (ptr_val p) h ∷ [])) ∷ Γ) G (‵ (Z.own_val a (h ∷ [])) ∷ Γ) G
    fields_in t p a h = step (λ s. let v : Val = both (ptr_val p) h in
        nothing t $ move t (1 ∷ 0 ∷ []) $ fjoin t $ feq_i t (List Val) (ptr_val p ∷ []) (ptr_val p ∷ []) refl $ fjoin t $
        feq_i t (List Val) (v ∷ []) (v ∷ []) refl $ fjoin t $
        fpack t (Valss (RawPtr ∷ Z ∷ [])) (within shape (p, (a, tt)) (v ∷ [])) (ptr_val p ∷ [], (h ∷ [], tt)) $ s)

    pub in_block : K → (R : RattleType) (p : Ptr) (a : Z.Denot) (x : R.Denot)
        → ((b o : ℕ) → p ≡ block_ptr b o → Seq K 𝓛 (‵ (box_owns (g.dealloc_token a) R (block_ptr b o) x) ∷ Γ) G)
        → Seq K 𝓛 (‵ (box_owns (g.dealloc_token a) R p x) ∷ Γ) G
    in_block t R p a x k =
        in_a_block t p (λ q. box_owns (g.dealloc_token a) R q x)
        (fst∗ 𝓤 (never 𝓤) (sem 𝓛 (g.dealloc_token a (bare (lone R.mir)) null_ptr))) k
