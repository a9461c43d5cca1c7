-- A fact of each item, as far as a loop has come.
use Rattle.std.proofs.Common.{◌≡◌, ℕ, ◌+◌, ◌<◌, ◌≤◌, List, [], ◌∷◌, length, get_or, take, refl, sym, subst, arith}
use Rattle.std.specs.List.{All}
use Rattle.std.proofs.lemmas.List.Elements.{All-more, All-get_or}
use Rattle.std.proofs.lemmas.List.{take_all}

module _ {A : Type 0} where
  pub all_more : (P : A → Type 0) (xs : List A) (i : ℕ) (x : A) → i < length xs → x ≡ get_or xs i x → All P (take i xs) → P x →
      All P (take (i + 1) xs)
  all_more P xs i x lt is old p = All-more P xs i x lt old (subst P is p)

  pub all_at : (P : A → Type 0) (xs : List A) (i : ℕ) (x : A) → i < length xs → x ≡ get_or xs i x → All P xs → P x
  all_at P xs i x lt is all = subst P (sym is) (All-get_or P xs i x lt all)

  pub all_done : (P : A → Type 0) (xs : List A) (i : ℕ) → length xs ≤ i → All P (take i xs) → All P xs
  all_done P xs i le all = subst (All P) (take_all i xs le) all

  pub none_left : (xs : List A) → length xs ≤ 0 → xs ≡ []
  none_left [] le = refl
  none_left (x ∷ xs) le = absurd (omega arith)
