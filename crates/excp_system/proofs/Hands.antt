-- Tasks that get their pens.
use Rattle.std.proofs.Common.{Bool, ◌≡◌, ◌≢◌, ⊎_elim, ℕ, ◌+◌, ◌<◌, ◌≤◌, List, [], ◌∷◌, ◌++◌, length, map, set, get_or, replicate, Some, refl, sym, ap}
use Rattle.std.proofs.Common.{◌∙◌, arith, length-append}
use Rattle.std.specs.Prelude.{slice_get, slice_index_or, true}
use Rattle.std.proofs.lemmas.Option.{slice_get-get_or, slice_get_within}
use Rattle.std.proofs.lemmas.List.{get_or-map, length-set, length-replicate, map-set, set-get_or}
use mathlib.Core.Logic.{dite}
use native.Mathlib.Decide.{ℕ_discrete}
use Rattle.signed_list.specs.Signed.{Blank, RegisterEnds, ListState, Signing, fresh_pen, no_name, signed_by}
use Rattle.unit_book.specs.declared.control.Control.{Control}
use Rattle.excp_system.specs.Controls.{ArePens, IsLog, LogState, PensState, asked_of, asks, pen_of}
use Rattle.excp_system.specs.Opening.{AreBlank, AreHands, AreLogs, AreRegisters, RowsState, register_at, site_of}
use Rattle.excp_system.specs.Sites.{SiteRows}
use Rattle.excp_system.proofs.Places.{get_front, get_seam, get_set_same, get_set_other, get_snoc, replicate_more, some_is}

-- the first `handed` tasks have got their pen of the register at this place
pub record Handed (count place handed : ℕ) (hands : List PensState) : Type 0 where
  pub count_is : length hands ≡ count
  pub before : (j : ℕ) (p : PensState) → j < handed → slice_get hands j ≡ Some p → p ≡ record { number = j; asked = replicate (place + 1) [] }
  pub after : (j : ℕ) (p : PensState) → handed ≤ j → slice_get hands j ≡ Some p → p ≡ record { number = j; asked = replicate place [] }

module _ (count place handed : ℕ) (hands : List PensState) (d : Handed count place handed hands) where
  pub handed_end : count ≤ handed → AreHands count (place + 1) hands
  handed_end le = record { count_is = d.count_is; each = λ j p e. d.before j p (omega (arith, slice_get_within hands j p e, d.count_is)) e }

  module _ (p : PensState) (lt : handed < length hands) (at : p ≡ get_or hands handed p) where
    pens_are : p ≡ record { number = handed; asked = replicate place [] }
    pens_are = d.after handed p (omega arith) (slice_get-get_or hands handed p lt ∙ ap Some (sym at))

    pub handed_next : (s : List Control) (new : PensState) → s ≡ [] → new ≡ record { number = p.number; asked = p.asked ++ s ∷ [] } →
        Handed count place (handed + 1) (set hands handed new)
    handed_next s new none is =
        let new_is : new ≡ record { number = handed; asked = replicate (place + 1) [] } =
        is ∙ (λ i. record { number = (pens_are i).number; asked = (pens_are i).asked ++ none i ∷ [] })
        ∙ (λ i. record { number = handed; asked = replicate_more place [] i }) in
        record {
          count_is = length-set hands handed new ∙ d.count_is;
          before = λ j q below e. dite (ℕ_discrete j handed)
              (λ same. some_is q new (sym e ∙ (ap (slice_get (set hands handed new)) same ∙ get_set_same hands handed new lt))
              ∙ (new_is ∙ λ i. record { number = sym same i; asked = replicate (place + 1) [] }))
              (λ ne. d.before j q (omega (arith, ne)) (sym (get_set_other hands handed j new ne) ∙ e));
          after = λ j q above e. let ne : j ≢ handed = λ same. absurd (omega (arith, same)) in d.after j q (omega arith)
              (sym (get_set_other hands handed j new ne) ∙ e);
        }

    pub pen_fits : (s : SiteRows) (q : Signing Control) → q ≡ pen_of s handed place [] → q ≡ pen_of s p.number (length p.asked) q.signed
    pen_fits s q is =
        let number : handed ≡ p.number = sym (ap (λ (x : PensState). x.number) pens_are) in
        let reached : place ≡ length p.asked = sym (ap (λ (x : PensState). length x.asked) pens_are ∙ length-replicate place []) in
        is ∙ (λ i. pen_of s (number i) (reached i) (sym (ap (λ (x : Signing Control). x.signed) is) i))

-- the registers of rows that were just made are those of their site
pub are_registers : (s : SiteRows) (v : RowsState) → s ≡ site_of v → AreBlank v.units v.tasks v.registers → AreRegisters s v.tasks v.registers
are_registers s v is blank unit r e =
    let known = blank.each unit r e in
    let lt = slice_get_within v.registers unit r e in
    let here : register_at v.registers unit ≡ r = some_is (register_at v.registers unit) r
    (sym (slice_get-get_or v.registers unit (record { register = no_name; pens = 0; seated = true }) lt) ∙ e) in
    (sym (ap (λ (t : SiteRows). t.register unit) is ∙ ap (λ (x : Blank). x.register) here), known.0, known.1)

-- the pens that a register gives, less the last one, which is the unit's own
module _ (s : SiteRows) (tasks place : ℕ) (r : Blank) (is : r.register ≡ s.register place) (many : r.pens ≡ tasks + 1)
    (all pens : List (Signing Control)) (list : ListState Control) (ends : RegisterEnds all list r) (own : Signing Control)
    (last : all ≡ pens ++ own ∷ []) where
  pub pen_count : length pens ≡ tasks
  pen_count = omega (arith, ap length last, length-append pens (own ∷ []), ends.count, many)

  own_is : own ≡ fresh_pen r tasks
  own_is = some_is own (fresh_pen r tasks)
      (sym (get_seam pens [] own) ∙ (ap (λ l. slice_get l (length pens)) (sym last) ∙ (ap (slice_get all) pen_count
      ∙ ends.each tasks (omega (arith, many)))))

  pub is_log : (own_calls : Bool) → tasks ≡ s.tasks → IsLog own_calls s.tasks list own
  is_log own_calls same = record {
    pens = ap (λ (l : ListState Control). l.pens) ends.list_is ∙ many ∙ ap (λ n. n + 1) same;
    number = ap (λ (p : Signing Control). p.number) own_is ∙ same;
    register = ap (λ (p : Signing Control). p.register) own_is ∙ sym (ap (λ (l : ListState Control). l.register) ends.list_is);
    unsigned = λ _. ap (λ (p : Signing Control). p.signed) own_is;
  }

  pub pens_fit : (t : ℕ) (p : Signing Control) → slice_get pens t ≡ Some p → p ≡ pen_of s t place []
  pens_fit t p e =
      let lt : t < tasks = omega (arith, slice_get_within pens t p e, pen_count) in
      let front : slice_get all t ≡ Some p = ap (λ l. slice_get l t) last ∙ get_front pens own p t e in
      some_is p (fresh_pen r t) (sym front ∙ ends.each t (omega (arith, lt, many)))
      ∙ (λ i. record { register = is i; number = t; signed = [] })

  pub logs_next : (logs : List LogState) (l : LogState) → length logs ≡ place → AreLogs s (length logs) logs →
      l ≡ record { register = list.register; asked = list.all } →
      AreLogs s (length (logs ++ l ∷ [])) (logs ++ l ∷ [])
  logs_next logs l here old l_is = record {
    count_is = refl;
    each = λ j w e. ⊎_elim (λ t. old.each j w t)
        (λ (t : (j ≡ length logs) × (l ≡ w)).
        sym t.1 ∙ (l_is ∙ ((λ i. record { register = (ends.list_is i).register; asked = (ends.list_is i).all })
        ∙ (λ i. record { register = (is ∙ ap s.register (sym (t.0 ∙ here))) i; asked = [] }))))
        (get_snoc logs l w j e);
  }

-- a task that signs with one of its pens
module _ (s : SiteRows) (number : ℕ) (pens : List (Signing Control)) (are : ArePens s number pens) (i k : ℕ) (here : i ≡ k)
    (lt : k < length pens) (p : Signing Control) (is : p ≡ get_or pens i p) where
  old_asked : slice_index_or (map (λ q. q.signed) pens) k [] ≡ p.signed
  old_asked = get_or-map (λ (q : Signing Control). q.signed) pens k p [] lt
      ∙ sym (ap (λ (q : Signing Control). q.signed) (is ∙ ap (λ j. get_or pens j p) here))

  pub signing_pen : p ≡ pen_of s number k p.signed
  signing_pen = are k p (slice_get-get_or pens k p lt ∙ ap Some (sym (is ∙ ap (λ j. get_or pens j p) here)))

  -- what the log has of the task is what the task has
  pub audits_one : (all : List (ℕ × Control)) → signed_by p.number all ≡ p.signed →
      signed_by number all ≡ asked_of (map (λ q. q.signed) pens) k
  audits_one all agrees = ap (λ n. signed_by n all) (sym (ap (λ (q : Signing Control). q.number) signing_pen)) ∙ agrees ∙ sym old_asked

  -- and its pens are the same
  pub same_pens : (new : Signing Control) → new ≡ p → map (λ q. q.signed) (set pens i new) ≡ map (λ q. q.signed) pens
  same_pens new same = ap (map (λ (q : Signing Control). q.signed)) (ap (set pens i) (same ∙ is) ∙ set-get_or pens i p)

  pub signs_one : (new : Signing Control) (c : Control) → new ≡ record p { signed = p.signed ++ c ∷ [] } →
      map (λ q. q.signed) (set pens i new) ≡ asks true k c (map (λ q. q.signed) pens)
  signs_one new c same =
      map-set (λ (q : Signing Control). q.signed) pens i new
      ∙ (ap (λ j. set (map (λ (q : Signing Control). q.signed) pens) j new.signed) here
      ∙ ap (set (map (λ (q : Signing Control). q.signed) pens) k) (ap (λ (q : Signing Control). q.signed) same ∙ ap (λ l. l ++ c ∷ []) (sym old_asked)))
