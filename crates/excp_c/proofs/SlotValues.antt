-- A `Slot` by value. Assumes `Logic`.
--     site_of             the site of a slot that has one
--     slot_out, slot_in   a slot with a site is taken apart, and put together
--     empty_in            one without is put together
use Rattle.std.proofs.Common.{◌≡◌, ◌∙◌, ℕ, List, [], ◌∷◌, refl, ap}
use seplogic.Ra.Ura.{Ura}
use mir.Val.{Val, vptr}
use types.Logic.{Logic}
use types.Kit.{Item, Goal, Seq, Step, step, ‵, ◌$◌, move, fsplit, fjoin, rewrite}
use denote.RattleType.{RattleType}
use denote.RawPtr.{Ptr, block_ptr, ptr_val}
use denote.Steps.{nothing}
use denote.Param.{layout}
use denote.Param.Laws.{Laws}
use Rattle.core.proofs.cell.Inside.{Good}
use Rattle.std_alloc.specs.Box.Ownership.{box_owns}
use Rattle.std.specs.Prelude.{Option, Some, None, IsSome}
use Rattle.std.specs.contracts.alloc.Global as heap
use Rattle.std.proofs.alloc.Global.TheLaws as heap_laws
use Rattle.std.specs.contracts.impls.GlobalAllocator.TheImpl.{ghosts}
use Rattle.excp_c.specs.Owned.{slot_owns}
use Rattle.excp_site.specs.contracts.site.Site as site
use Rattle.excp_c.specs.contracts.slot.Slot as slot
use Rattle.excp_c.proofs.Fields.{both, fields_out, fields_in, in_block}

abbrev pub Site : RattleType
Site = site.the_row

abbrev pub Heap : RattleType
Heap = heap.the_row

abbrev pub heap_lawful : Laws Heap
heap_lawful = heap_laws.the_row_laws

abbrev pub Slot : RattleType
Slot = slot.the_row

pub site_of : (o : Option Site.Denot) → IsSome o → (x : Site.Denot) × (o ≡ Some x)
site_of (Some x) is = (x, refl)
site_of None is = absurd cc

module _ {M : Type 1} {𝓤 : Ura M} {𝓛 : Logic 𝓤} {K : Type 0} {Γ : List (Item 𝓤)} {G : Goal 𝓤 𝓛.H} where
  pub slot_out : K → (d : Slot.Denot) (x : Site.Denot) → d.value ≡ Some x → (vs : List Val)
      → ((b o : ℕ) (h : Val) → d.at ≡ block_ptr b o → vs ≡ both (vptr b o) h ∷ [] → Good (layout Heap) h
      → Seq K 𝓛 (‵ (box_owns (ghosts.dealloc_token d.alloc) Site (block_ptr b o) x) ∷ ‵ (Heap.own_val d.alloc (h ∷ [])) ∷ Γ) G)
      → Seq K 𝓛 (‵ (Slot.own_val d vs) ∷ Γ) G
  slot_out t d x has vs k =
      fsplit t $ fields_out Heap heap_lawful ghosts t d.at d.alloc vs (λ h word good. move t (1 ∷ []) $
      rewrite t 0 (λ (o : Option Site.Denot). ‵ (slot_owns (ghosts.dealloc_token d.alloc) Site d.at o)) has refl $
      in_block Heap heap_lawful ghosts t Site d.at d.alloc x (λ b o at. k b o h at (word ∙ ap (λ (p : Ptr). both (ptr_val p) h ∷ []) at) good))

  pub slot_in : K → (b o : ℕ) (h : Val) (a : Heap.Denot) (x : Site.Denot)
      → Step K 𝓛 (‵ (Slot.own_val (record { at = block_ptr b o; alloc = a; value = Some x }) (both (vptr b o) h ∷ [])) ∷ Γ) G
      (‵ (box_owns (ghosts.dealloc_token a) Site (block_ptr b o) x) ∷ ‵ (Heap.own_val a (h ∷ [])) ∷ Γ) G
  slot_in t b o h a x = step (λ s. move t (1 ∷ []) $ fields_in Heap heap_lawful ghosts t (block_ptr b o) a h $ fjoin t $ s)

  pub empty_in : K → (p : Ptr) (h : Val) (a : Heap.Denot)
      → Step K 𝓛 (‵ (Slot.own_val (record { at = p; alloc = a; value = None }) (both (ptr_val p) h ∷ [])) ∷ Γ) G
      (‵ (Heap.own_val a (h ∷ [])) ∷ Γ) G
  empty_in t p h a = step (λ s. nothing t $ move t (1 ∷ []) $ fields_in Heap heap_lawful ghosts t p a h $ fjoin t $ s)
