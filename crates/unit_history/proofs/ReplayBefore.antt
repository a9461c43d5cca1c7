-- The entries before a place of a trace, newest first.
use Rattle.std.proofs.Common.{◌≡◌, ℕ, suc, ◌+◌, true, Some, List, [], ◌∷◌, ◌++◌, refl, sym, ap, ◌∙◌, arith, eqb, inl, inr, subst}
use Rattle.std.proofs.Common.{take, drop, reverse}
use Rattle.std.proofs.lemmas.Bool.{cases_Bool, eqb-true}
use Rattle.std.proofs.lemmas.List.{reverse-append, take-append-drop}
use Rattle.std.proofs.lemmas.Option.{get_or_from_slice_get, slice_get_within}
use Rattle.std.proofs.Math.Seq.{take-suc}
use Rattle.std.specs.List.{list_any}
use Rattle.std.specs.Prelude.{slice_get}
use Rattle.device_port.specs.Meaning.{Meaning}
use Rattle.unit_book.specs.declared.entry.Entry.{Entry}
use Rattle.unit_book.specs.declared.entry.Entry.TheVariants.{Opened, Arrive, Start, Ran, Halted, Purge, Close, Reset, Post}
use Rattle.unit_book.specs.Trace.{opens_for_input}
use Rattle.unit_book.specs.Dcbs.{is_opened, mask_of}
use Rattle.unit_book.specs.Legal.{Legal}
use Rattle.unit_book.proofs.Facts.{fits-freely}
use Rattle.unit_book.proofs.LegalFacts.{legal-tail}
use Rattle.unit_book.proofs.Opens.{opened-few}

abbrev pub before : List Entry → ℕ → List Entry
before entries done = reverse (take done entries)

-- behind one more entry
pub before-next : (entries : List Entry) (done : ℕ) (e : Entry) → slice_get entries done ≡ Some e →
    before entries (done + 1) ≡ e ∷ before entries done
before-next entries done e h =
    let n : done + 1 ≡ suc done = omega arith in
    rw (n, take-suc entries done e (slice_get_within entries done e h), get_or_from_slice_get entries done e e h)
    (reverse-append (take done entries) (e ∷ []))

module _ {D : Type 0} (meaning : Meaning D) (mounted : D) where
  parted : (entries : List Entry) (done : ℕ) → reverse entries ≡ reverse (drop done entries) ++ before entries done
  parted entries done = ap reverse (sym (take-append-drop done entries)) ∙ reverse-append (take done entries) (drop done entries)

  pub legal-before : (entries : List Entry) (done : ℕ) → Legal meaning mounted (reverse entries) →
      Legal meaning mounted (before entries done)
  legal-before entries done l =
      legal-tail meaning mounted (reverse (drop done entries)) (before entries done) (subst (Legal meaning mounted) (parted entries done) l)

  -- a DCB is opened once, so its file mask stays
  input-stays : (d : ℕ) (later earlier : List Entry) → Legal meaning mounted (later ++ earlier) → is_opened d earlier ≡ true →
      (is_opened d (later ++ earlier) ≡ true) × (list_any (opens_for_input d) (later ++ earlier) ≡ list_any (opens_for_input d) earlier)
  unfolding Legal
  input-stays d [] H l o = (o, refl)
  input-stays d (Opened c i x ∷ later) H l o =
      let ih = input-stays d later H l.1 o in
      let few = opened-few meaning mounted d (later ++ H) l.1 ih.0 in
      let next = (fits-freely meaning mounted (Opened c i x) (later ++ H) refl l.0).1.next in
      elim (cases_Bool (eqb c d)) [
        | inl e ↦ absurd (let k : c ≡ d = eqb-true c d e in omega (arith, k, few.1, next))
        | inr e ↦ rw e ih
      ]
  input-stays d (Arrive r ∷ later) H l o = input-stays d later H l.1 o
  input-stays d (Start n ∷ later) H l o = input-stays d later H l.1 o
  input-stays d (Ran n j ∷ later) H l o = input-stays d later H l.1 o
  input-stays d (Halted n ∷ later) H l o = input-stays d later H l.1 o
  input-stays d (Purge s m ∷ later) H l o = input-stays d later H l.1 o
  input-stays d (Close c ∷ later) H l o = input-stays d later H l.1 o
  input-stays d (Reset c ∷ later) H l o = input-stays d later H l.1 o
  input-stays d (Post n c s k ∷ later) H l o = input-stays d later H l.1 o

  pub mask-before : (d : ℕ) (entries : List Entry) (done : ℕ) → Legal meaning mounted (reverse entries) →
      is_opened d (before entries done) ≡ true →
      mask_of d (reverse entries) ≡ mask_of d (before entries done)
  mask-before d entries done l o =
      let p = parted entries done in
      let k = (input-stays d (reverse (drop done entries)) (before entries done) (subst (Legal meaning mounted) p l) o).1 in
      rw (p, k) refl
