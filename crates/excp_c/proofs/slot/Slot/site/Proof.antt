-- `site` lends what the slot's pointer leads to, and the slot follows it.
use Rattle.std.proofs.Common.{◌≡◌, ℕ, List, [], ◌∷◌, refl, sym, MutBor}
use Rattle.std.specs.Prelude.{Some, IsSome}
use seplogic.Ra.Ura.{Ura}
use mir.Syntax.{named}
use mir.Val.{Val, vptr}
use mir.Raw.{raw as bare}
use base.Fraction.{full_share}
use base.Logic.{ent, sep, id⊢}
use base.Fml.{Fml, GName, ftrue, fsep, flft}
use types.Logic.{Logic, sem}
use types.Kit.{‵, raw, ◌⊛◌, some, later, at_ret, ◌$◌, ◌∵◌, !, qed, done, move, keep, split, join, fsplit, fsplit3, fjoin, fpack, pick, suffices, use1, await, rewrite, frame, group}
use types.Part.{whole, sub, look_in}
use types.Run.{enter, of_opd, addr, load, stop, fld, first, blocks, exec, returns}
use types.ByLocal.{alloc_all, pass_all, free_all, look_at, get, through, sets, sets_last, env}
use contract.Monad.{fact}
use contract.Running.{tables}
use denote.Follow.{follows, Part, lends_Part}
use denote.Memory.{lone, part_at, part_of, mem, cell_at}
use denote.RawPtr.{Ptr, block_ptr}
use denote.Ref.{MutRef, mut_vals, mut_Tells}
use denote.Signature.{plain, mut_ref_to}
use denote.Steps.{nothing, heard, opens}
use denote.Triple.Walked.{Stays, walk_of, says, stay_dropped, Goes-spent_ref, ends_at}
use Rattle.std.proofs.raw_atomic.Walks.{proved}
use Rattle.std.proofs.VecSteps.Shapes.{after}
use Rattle.std.specs.contracts.impls.GlobalAllocator.TheImpl.{ghosts}
use Rattle.excp_c.specs.Lending.{with_site}
use Rattle.excp_c.proofs.Fields.{both}
use Rattle.excp_c.proofs.SlotValues.{Site, Heap, Slot, site_of, slot_out, slot_in}
use Rattle.excp_c.specs.contracts.slot.Slot.site as f
use Rattle.excp_c.proofs.slot.Slot.site.Statement.{statement}
use Rattle.excp_c.proofs.slot.Slot.site.Code as code

abbrev stayed : Stays f.ended.signature.params f.ended.kept
stayed = (stay_dropped (mut_ref_to (0 ∷ []) tt (plain (λ _. Slot))) f.ended.kept.0, tt)

-- the slot at (b, o) but its site, which is at (b', o')
abbrev Rest : Slot.Denot → (b o b' o' : ℕ) → Val → Fml
Rest d b o b' o' h =
    fsep (fsep (ghosts.dealloc_token d.alloc (bare (lone Site.mir)) (block_ptr b' o')) (Heap.own_val d.alloc (h ∷ [])))
    (cell_at full_share Slot.mir (both (vptr b' o') h ∷ []) b o)

back : {M : Type 1} {𝓤 : Ura M} (𝓛 : Logic 𝓤) (d : Slot.Denot) (b o b' o' : ℕ) (h : Val) → d.at ≡ block_ptr b' o' → (w : Site.Denot)
    → ent 𝓤 (sep 𝓤 (sem 𝓛 ((mem Site).own_at w b' o')) (sem 𝓛 (Rest d b o b' o' h))) (sem 𝓛 ((mem Slot).own_at (with_site d w) b o))
unfolding part_of
back 𝓛 d b o b' o' h at w =
    qed 𝓛 (‵ (part_at Site full_share w b' o') ∷ ‵ (Rest d b o b' o' h) ∷ []) ∵ move ! (1 ∷ []) $ fsplit ! $ fsplit ! $
    move ! (3 ∷ 0 ∷ []) $ fjoin ! $ slot_in ! b' o' h d.alloc w $
    rewrite ! 0 (λ (p : Ptr). ‵ (Slot.own_val (record { at = p; alloc = d.alloc; value = Some w }) (both (vptr b' o') h ∷ []))) (sym at) refl $
    move ! (1 ∷ 0 ∷ []) $ fjoin ! $
    fpack ! (List Val) (λ us. fsep (cell_at full_share Slot.mir us b o) (Slot.own_val (with_site d w) us)) (both (vptr b' o') h ∷ []) $ done !

pub site_spec : {M : Type 1} → statement M
site_spec 𝓤 𝓛 𝓜 𝓡 wired =
    let c = f.clauses 𝓛 𝓜.mem 𝓡.returns in let W = walk_of 𝓛 f.ended stayed c in let 𝓣 = tables 𝓤 𝓛.H 𝓜 𝓡 𝓡.env in
    proved 𝓛 f.ended stayed c 𝓜 𝓡 (Goes-spent_ref 𝓛 1 (0 ∷ []) tt (plain (λ _. Slot)), tt)
    f.Key.name code.function (code.unfolded 𝓤 𝓛.H 𝓜 𝓡 wired)
    (λ κs. (mut_vals, tt)) (λ κs. (mut_Tells (named 0) κs.0 Slot, tt)) (λ κs qs bounds a n are.
    let κ = κs.0 in let q = qs.0 in let γ = a.0.ghost_name in let b = a.0.ref_ptr.0 in let o = a.0.ref_ptr.1 in let d = a.0.now in
    let vs = mut_vals a.0 in let y : W.Ghost = ((κs, qs, bounds, a, (vs, tt)), tt) in
    qed 𝓛 (((‵ (flft κ q) ⊛ ‵ ftrue) ⊛ ‵ ((MutRef (named 0) κ Slot).own_val a.0 vs) ⊛ ‵ ftrue) ∷ raw (fact 𝓤 (IsSome d.value)) ∷ []) ∵
    move ! (1 ∷ []) $ heard ! (IsSome d.value) (λ is. let site = site_of d.value is in let x = site.0 in
    split ! $ split ! $ move ! (2 ∷ []) $ split ! $ keep ! (0 ∷ 2 ∷ []) $
    enter ! _ _ _ _ _ $ alloc_all ! (λ l. pass_all ! refl ((tt, tt), tt) $
    fsplit3 ! $ move ! (1 ∷ 2 ∷ 3 ∷ []) $ opens ! tt Slot b o (λ us. move ! (1 ∷ []) $ slot_out ! d x site.1 us (λ b' o' h at word good.
    rewrite ! 2 (λ (ws : List Val). ‵ (cell_at full_share Slot.mir ws b o)) word refl $ fsplit ! $
    -- [the site; the right to free it; the allocator; the slot's cell; the open borrow, in three entries]
    first ! $ blocks ! $
    sets ! (of_opd ! (load ! (through ! refl (fld ! refl (stop !))) (look_in ! 3 (sub ! 0 refl (whole !))))) refl (tt, tt) $
    sets ! (of_opd ! (get ! refl)) refl (tt, tt) $
    sets_last ! (addr ! (through ! refl (stop !))) refl (tt, tt) $
    exec ! 𝓣.C 𝓣.Λ (env code.Mir.locals l) (after 1 code.function.body) (at_ret _ (W.post y)) $
    sets ! (of_opd ! (get ! refl)) refl (tt, tt) $
    move ! (1 ∷ 2 ∷ []) $ fjoin ! $ move ! (0 ∷ 2 ∷ []) $ fjoin ! $ move ! (2 ∷ 3 ∷ 4 ∷ 1 ∷ 0 ∷ []) $ group ! 5 $
    use1 𝓛 (later (some (λ (γ' : GName).
    raw (Part 𝓛 Slot Site (with_site d) (named 0) κ q b o b' o' γ (sem 𝓛 (Rest d b o b' o' h)) (back 𝓛 d b o b' o' h at) x γ'))))
    (lends_Part 𝓛 Slot Site (with_site d) (named 0) κ q b o b' o' γ (sem 𝓛 (Rest d b o b' o' h)) (back 𝓛 d b o b' o' h at)
    (Slot.coded.code d) (Slot.coded.code d) x) $ await ! tt $ pick ! (λ γ'.
    let lent : MutBor Site.Denot = record { ref_ptr = (b', o'); ghost_name = γ'; now = x } in
    returns ! (look_at ! 0 refl) $ free_all ! refl $ keep ! (0 ∷ []) $
    use1 𝓛 (‵ ((MutRef (named 0) κ Site).own_val lent (vptr b' o' ∷ [])) ⊛ ‵ (flft κ q) ⊛ ‵ (follows Slot Site γ γ' (with_site d))) (id⊢ 𝓤 _) $
    split ! $ move ! (1 ∷ []) $ split ! $ move ! (2 ∷ 0 ∷ 1 ∷ []) $
    -- [the loan; the token; what the slot follows]
    suffices ! _ (ends_at 𝓛 f.ended stayed c y (vptr b' o') lent (tt, tt) (tt, tt)) $
    nothing ! $ nothing ! $ fjoin ! $ join ! $ nothing ! $ move ! (2 ∷ 0 ∷ []) $ join ! $ join ! $ frame ! $ says ! site.1 $ done !))))))
