-- What stands at the places of a list, and of two lists.
use Rattle.std.proofs.Common.{◌≡◌, ℕ, zero, suc, ◌+◌, ◌<◌, ◌≤◌, List, [], ◌∷◌, ◌++◌, length, map, set, Some, refl, sym, ap, ◌∙◌, subst}
use Rattle.std.proofs.Common.{⊎_elim, arith, length-append, get_or}
use Rattle.std.specs.Prelude.{slice_get}
use Rattle.std.specs.List.{All}
use Rattle.std.proofs.lemmas.List.{map-append}
use Rattle.std.proofs.lemmas.List.Elements.{All-get_or}
use Rattle.std.proofs.lemmas.Option.{slice_get-get_or, slice_get_within}
use Rattle.std.proofs.Math.ListN.{length-set}
use mathlib.Core.Logic.{dite}
use native.Mathlib.Decide.{ℕ_discrete}
use Rattle.excp_system.proofs.Places.{get_set_same, get_set_other, get_snoc, some_is}
use Rattle.post_ledger.specs.Parting.{Paired}

pub map_snoc : {A B : Type 0} (f : A → B) (xs : List A) (x : A) (ys : List B) (y : B) → ys ≡ map f xs → y ≡ f x →
    ys ++ y ∷ [] ≡ map f (xs ++ x ∷ [])
map_snoc f xs x ys y e e' = (λ i. e i ++ e' i ∷ []) ∙ sym (map-append f xs (x ∷ []))

pub paired_snoc : {A B : Type 0} (P : A → B → Type 0) (xs : List A) (ys : List B) (x : A) (y : B) → Paired P xs ys → P x y →
    Paired P (xs ++ x ∷ []) (ys ++ y ∷ [])
paired_snoc {A} {B} P xs ys x y p new = record {
  count = omega (arith, length-append xs (x ∷ []), length-append ys (y ∷ []), p.count);
  each = λ k a b e e'. ⊎_elim
      (λ old. ⊎_elim (λ old'. p.each k a b old old')
      (λ (t : (k ≡ length ys) × (y ≡ b)). absurd (omega (arith, t.0, p.count, slice_get_within xs k a old))) (get_snoc ys y b k e'))
      (λ (t : (k ≡ length xs) × (x ≡ a)). ⊎_elim (λ old'. absurd (omega (arith, t.0, p.count, slice_get_within ys k b old')))
      (λ (t' : (k ≡ length ys) × (y ≡ b)). subst (λ (q : A × B). P q.0 q.1) (λ i. (t.1 i, t'.1 i)) new) (get_snoc ys y b k e'))
      (get_snoc xs x a k e);
}

pub paired_none : {A B : Type 0} (P : A → B → Type 0) (ys : List B) → ys ≡ [] → Paired P [] ys
paired_none P ys none = record { count = ap length none; each = λ k x y e e'. absurd (cc e) }

-- an element of a mapped list comes from one
pub get_map : {A B : Type 0} (f : A → B) (xs : List A) (k : ℕ) (b : B) → slice_get (map f xs) k ≡ Some b →
    (a : A) × (slice_get xs k ≡ Some a) × (b ≡ f a)
get_map f [] k b e = absurd (cc e)
get_map f (x ∷ xs) zero b e = (x, refl, cc e)
get_map f (x ∷ xs) (suc k) b e = get_map f xs k b e

pub map_get : {A B : Type 0} (f : A → B) (xs : List A) (k : ℕ) (a : A) → slice_get xs k ≡ Some a → slice_get (map f xs) k ≡ Some (f a)
map_get f [] k a e = absurd (cc e)
map_get f (x ∷ xs) zero a e = cc e
map_get f (x ∷ xs) (suc k) a e = map_get f xs k a e

-- there is an element at each place of a list that is as long
pub get_there : {A B : Type 0} (xs : List A) (ys : List B) (k : ℕ) (b : B) → length ys ≡ length xs → slice_get ys k ≡ Some b →
    (a : A) × (slice_get xs k ≡ Some a)
get_there [] ys k b e at = absurd (omega (arith, slice_get_within ys k b at))
get_there (x ∷ xs) [] k b e at = absurd (cc at)
get_there (x ∷ xs) (y ∷ ys) zero b e at = (x, refl)
get_there (x ∷ xs) (y ∷ ys) (suc k) b e at = get_there xs ys k b (omega arith) at

-- what holds of all holds at each place
pub all_get : {A : Type 0} (P : A → Type 0) (xs : List A) (k : ℕ) (x : A) → All P xs → slice_get xs k ≡ Some x → P x
all_get P xs k x all e =
    let lt = slice_get_within xs k x e in
    subst P (some_is (get_or xs k x) x (sym (slice_get-get_or xs k x lt) ∙ e)) (All-get_or P xs k x lt all)

-- what holds at each place holds of all
pub all_at_places : {A : Type 0} (P : A → Type 0) (xs : List A) → ((k : ℕ) (x : A) → slice_get xs k ≡ Some x → P x) → All P xs
all_at_places P xs h k d lt = h k (get_or xs k d) (slice_get-get_or xs k d lt)

-- what follows from what holds of all holds of all
pub all_weaker : {A : Type 0} (P Q : A → Type 0) (xs : List A) → ((x : A) → P x → Q x) → All P xs → All Q xs
all_weaker P Q xs w all k d lt = w (get_or xs k d) (All-get_or P xs k d lt all)

pub all_map : {A B : Type 0} (f : A → B) (P : B → Type 0) (xs : List A) → All (λ x. P (f x)) xs → All P (map f xs)
all_map f P xs all = all_at_places P (map f xs)
    (λ k b e. let m = get_map f xs k b e in subst P (sym m.2) (all_get (λ x. P (f x)) xs k m.0 all m.1))

pub paired_same : {A : Type 0} (P : A → A → Type 0) (xs : List A) → ((x : A) → P x x) → Paired P xs xs
paired_same P xs same = record { count = refl; each = λ k x y e e'. subst (P x) (some_is x y (sym e ∙ e')) (same x) }

pub paired_more : {A : Type 0} (P : A → A → Type 0) → ((a b c : A) → P a b → P b c → P a c) → {xs ys zs : List A} → Paired P xs ys →
    Paired P ys zs → Paired P xs zs
paired_more P trans {xs = xs} {ys = ys} {zs = zs} p q = record {
  count = q.count ∙ p.count;
  each = λ k x z e e'. let y = get_there ys zs k z q.count e' in trans x y.0 z (p.each k x y.0 e y.1) (q.each k y.0 z y.1 e');
}

-- an element of a list is replaced
module _ {A : Type 0} (ys : List A) (i : ℕ) (old new : A) (lt : i < length ys) (at : old ≡ get_or ys i old) where
  pub there : slice_get ys i ≡ Some old
  there = slice_get-get_or ys i old lt ∙ ap Some (sym at)

  pub new_is : (k : ℕ) (y : A) → k ≡ i → slice_get (set ys i new) k ≡ Some y → new ≡ y
  new_is k y same e = some_is new y (sym (get_set_same ys i new lt) ∙ (ap (slice_get (set ys i new)) (sym same) ∙ e))

  -- by one that stands in a relation to it
  pub paired_set : (P : A → A → Type 0) → ((a b c : A) → P a b → P b c → P a c) → (xs : List A) → Paired P xs ys → P old new →
      Paired P xs (set ys i new)
  paired_set P trans xs p step = record {
    count = length-set ys i new ∙ p.count;
    each = λ k x y e e'. dite (ℕ_discrete k i)
        (λ same. subst (P x) (new_is k y same e') (trans x old new (p.each i x old (ap (slice_get xs) (sym same) ∙ e) there) step))
        (λ ne. p.each k x y e (sym (get_set_other ys i k new ne) ∙ e'));
  }

  -- what holds before a place holds up to it
  pub before_next : (P : A → Type 0) → ((k : ℕ) (y : A) → k < i → slice_get ys k ≡ Some y → P y) → P new → (k : ℕ) (y : A) → k < i + 1 →
      slice_get (set ys i new) k ≡ Some y → P y
  before_next P before here k y below e = dite (ℕ_discrete k i)
      (λ same. subst P (new_is k y same e) here)
      (λ ne. before k y (omega (arith, ne)) (sym (get_set_other ys i k new ne) ∙ e))

-- what holds of each place before one, and there, holds up to it
pub before_more : {A : Type 0} (P : ℕ → A → Type 0) (xs : List A) (i : ℕ) (x : A) → slice_get xs i ≡ Some x →
    ((k : ℕ) (y : A) → k < i → slice_get xs k ≡ Some y → P k y) → P i x →
    (k : ℕ) (y : A) → k < i + 1 → slice_get xs k ≡ Some y → P k y
before_more {A} P xs i x at before here k y below e = dite (ℕ_discrete k i)
    (λ same. subst (λ (q : ℕ × A). P q.0 q.1) (λ j. (sym same j, some_is x y (sym at ∙ (ap (slice_get xs) (sym same) ∙ e)) j)) here)
    (λ ne. before k y (omega (arith, ne)) e)

-- what holds before the end holds of all
pub before_end : {A : Type 0} (P : A → Type 0) (ys : List A) (i : ℕ) → length ys ≤ i →
    ((k : ℕ) (y : A) → k < i → slice_get ys k ≡ Some y → P y) → All P ys
before_end P ys i end before = all_at_places P ys (λ k y e. before k y (omega (arith, end, slice_get_within ys k y e)) e)
