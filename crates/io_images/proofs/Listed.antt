-- A list of known length, written out.
use Rattle.std.proofs.Common.{◌≡◌, ℕ, zero, suc, List, [], ◌∷◌, length, slice_index, arith, refl, ap, ◌∙◌}

-- the n items from place i
abbrev pub listed : ℕ → ℕ → List ℕ → List ℕ
listed zero i xs = []
listed (suc n) i xs = slice_index xs i ∷ listed n (suc i) xs

listed-behind : (n i x : ℕ) (xs : List ℕ) → listed n (suc i) (x ∷ xs) ≡ listed n i xs
listed-behind zero i x xs = refl
listed-behind (suc n) i x xs = ap (λ (r : List ℕ). slice_index xs i ∷ r) (listed-behind n (suc i) x xs)

-- all items are the list
pub listed-is : (n : ℕ) (xs : List ℕ) → length xs ≡ n → listed n 0 xs ≡ xs
listed-is zero [] e = refl
listed-is zero (x ∷ xs) e = absurd (omega arith)
listed-is (suc n) [] e = absurd (omega arith)
listed-is (suc n) (x ∷ xs) e =
    ap (λ (r : List ℕ). x ∷ r) (listed-behind n 0 x xs ∙ listed-is n xs (omega arith))
