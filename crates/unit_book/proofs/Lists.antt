-- Names, and filters of lists of requests and names.
use Rattle.unit_book.proofs.Names.{◌≡◌, ℕ, Bool, true, false, not, ◌&&◌, Some, None, List, [], ◌∷◌, ◌++◌, refl, sym, ap, ◌∙◌, eqb, inl, inr}
use Rattle.unit_book.proofs.Names.{eq-eqb, and_parts, and_from, cases_Bool, filter, list_any, list_all, Name}
use Rattle.unit_book.proofs.Names.{Piece, same, slice_get, drop, zero, suc, length, arith, ◌⊎◌}
use Rattle.std.specs.List.{find}
use Rattle.std.proofs.lemmas.List.Folds.{list_all-append}
use Rattle.std.proofs.lemmas.Grind.{common_steps}

pub name-is : (a b : Name) → a.task ≡ b.task → a.seq ≡ b.seq → a ≡ b
name-is a b t s = grind (arith, common_steps)

pub same-true : (a b : Name) → same a b ≡ true → a ≡ b
same-true a b h = grind (arith, common_steps)

pub same-refl : (a : Name) → same a a ≡ true
same-refl a = and_from (eqb a.task a.task) (eqb a.seq a.seq) (eq-eqb a.task a.task refl) (eq-eqb a.seq a.seq refl)

pub same-is : (a b : Name) → a ≡ b → same a b ≡ true
same-is a b e = rw e (same-refl b)

pub same-sym : (a b : Name) → same a b ≡ true → same b a ≡ true
same-sym a b h = same-is b a (sym (same-true a b h))

pub no_both : {C : Type 0} (b : Bool) → b ≡ true → b ≡ false → C
no_both b h k = grind (arith, common_steps)

-- what would follow is not so
pub not-so : (a b : Bool) → (a ≡ true → b ≡ true) → b ≡ false → a ≡ false
not-so v0 b f h = grind (arith, common_steps)

pub same-not-sym : (a b : Name) → same a b ≡ false → same b a ≡ false
same-not-sym a b h = elim (cases_Bool (same b a)) [ inl e ↦ no_both (same a b) (same-sym b a e) h | inr e ↦ e ]

module _ {X : Type 0} where
  -- a filter of a filter
  pub filter-filter : (p q r : X → Bool) → ((x : X) → r x ≡ (q x && p x)) → (xs : List X) → filter r xs ≡ filter q (filter p xs)
  filter-filter p q r h [] = refl
  filter-filter p q r h (x ∷ xs) = grind (arith, common_steps, filter-filter p q r h xs)

  pub filter-all : (p : X → Bool) (xs : List X) → list_all p xs ≡ true → filter p xs ≡ xs
  filter-all p [] h = refl
  filter-all p (x ∷ xs) h = let a = and_parts (p x) (list_all p xs) h in let e = a.0 in rw e (ap (λ t. x ∷ t) (filter-all p xs a.1))

  -- what passes a filter passes its test
  pub all-filter : (p : X → Bool) (xs : List X) → list_all p (filter p xs) ≡ true
  all-filter p [] = refl
  all-filter p (x ∷ xs) = grind (arith, common_steps, all-filter p xs)

  -- what holds of all holds of what passes
  pub all-kept : (q p : X → Bool) (xs : List X) → list_all q xs ≡ true → list_all q (filter p xs) ≡ true
  all-kept q p [] h = refl
  all-kept q p (x ∷ xs) h = grind (arith, common_steps, all-kept q p xs)

  pub all-weaker : (p q : X → Bool) → ((x : X) → p x ≡ true → q x ≡ true) → (xs : List X) → list_all p xs ≡ true → list_all q xs ≡ true
  all-weaker p q w [] h = refl
  all-weaker p q w (x ∷ xs) h = grind (arith, common_steps, all-weaker p q w xs)

  pub all-append : (p : X → Bool) (xs ys : List X) → list_all p xs ≡ true → list_all p ys ≡ true → list_all p (xs ++ ys) ≡ true
  all-append p xs ys h k = list_all-append p xs ys ∙ and_from (list_all p xs) (list_all p ys) h k

  -- the first that passes does
  pub find-passes : (p : X → Bool) (xs : List X) (x : X) → find p xs ≡ Some x → p x ≡ true
  find-passes p [] x h = absurd cc
  find-passes p (y ∷ ys) x h = grind (arith, common_steps, find-passes p ys x)

  pub find-any : (p q : X → Bool) (xs : List X) (x : X) → find p xs ≡ Some x → q x ≡ true → list_any q xs ≡ true
  find-any p q [] x h k = absurd cc
  find-any p q (y ∷ ys) x h k = grind (arith, common_steps, find-any p q ys x)

  -- tests that agree on the elements find the same
  pub find-agree : (p q m : X → Bool) → ((x : X) → m x ≡ true → p x ≡ q x) → (xs : List X) → list_all m xs ≡ true → find p xs ≡ find q xs
  find-agree p q m a [] h = refl
  find-agree p q m a (x ∷ xs) h = grind (arith, common_steps, find-agree p q m a xs)

  pub find-none : (p : X → Bool) (xs : List X) → list_all (λ x. not (p x)) xs ≡ true → find p xs ≡ None
  find-none p [] h = refl
  find-none p (x ∷ xs) h = grind (arith, common_steps, find-none p xs)

  -- all of a list pass, so the one at a place does
  pub all-at : (p : X → Bool) (xs : List X) (i : ℕ) (x : X) → list_all p xs ≡ true → slice_get xs i ≡ Some x → p x ≡ true
  all-at p [] i x h s = absurd cc
  all-at p (y ∷ ys) zero x h s = let e : y ≡ x = cc in rw (← e) (and_parts (p y) (list_all p ys) h).0
  all-at p (y ∷ ys) (suc i) x h s = all-at p ys i x (and_parts (p y) (list_all p ys) h).1 s

  -- what is at a place of a list with one more item
  pub at-push : (xs : List X) (x : X) (k : ℕ) → slice_get (xs ++ x ∷ []) k ≡ slice_get xs k
      ⊎ ((k ≡ length xs) × (slice_get (xs ++ x ∷ []) k ≡ Some x))
  at-push [] x zero = inr (refl, refl)
  at-push (y ∷ ys) x (suc k) = elim (at-push ys x k) [ inl e ↦ inl e | inr e ↦ inr (omega (arith, e.0), e.1) ]
  at-push _ x _ = inl refl

-- REQUESTS WITH NAMES APART
unfoldable pub without : Name → List Piece → List Piece
without n rs = filter (λ r. not (same n r.name)) rs

abbrev pub none_named : Name → List Piece → Bool
none_named n rs = list_all (λ r. not (same n r.name)) rs

unfoldable pub Apart : List Piece → Type 0
Apart [] = Unit {0}
Apart (r ∷ rs) = (none_named r.name rs ≡ true) × Apart rs

pub Apart-filter : (p : Piece → Bool) (rs : List Piece) → Apart rs → Apart (filter p rs)
unfolding Apart
Apart-filter p [] h = tt
Apart-filter p (r ∷ rs) h = grind (arith, common_steps, all-kept, Apart-filter p rs h.1)

pub Apart-push : (rs : List Piece) (r : Piece) → Apart rs → none_named r.name rs ≡ true → Apart (rs ++ r ∷ [])
unfolding Apart
Apart-push [] r h k = (refl, tt)
Apart-push (s ∷ rs) r h k = grind (arith, common_steps, Apart-push rs r h.1)

-- the first goes
pub without-first : (r : Piece) (rs : List Piece) → Apart (r ∷ rs) → without r.name (r ∷ rs) ≡ rs
unfolding Apart without
without-first r rs h = let e = same-refl r.name in rw e (filter-all (λ s. not (same r.name s.name)) rs h.0)

-- the first and the rest
pub first-rest : {X : Type 0} (xs : List X) (x : X) → slice_get xs 0 ≡ Some x → xs ≡ x ∷ drop 1 xs
first-rest v0 x h = grind (arith, common_steps)
