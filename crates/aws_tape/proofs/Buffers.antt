-- A buffer that grew, and was filled from a reader.
use Rattle.std.proofs.Common.{◌≡◌, ℕ, ◌+◌, ◌-◌, List, [], ◌++◌, length, take, drop, replicate, ap, ◌∙◌, append-nil, arith}
use Rattle.std.proofs.lemmas.List.{take_all, take_at, length-append, length-replicate, length-drop, drop_all}

-- a buffer that grew by n zeros, of which the new part was written
pub grown_filled : (old grown filled : List ℕ) (start n k : ℕ) → length old ≡ start → length old ≡ k
    → grown ≡ take (start + n) old ++ replicate (start + n - k) 0 → length filled ≡ n
    → take start grown ++ (filled ++ drop (length grown - start) (drop start grown)) ≡ old ++ filled
grown_filled old grown filled start n k start-is k-is is len =
    let zeros : List ℕ = replicate (start + n - k) 0 in
    let many : length zeros ≡ start + n - k = length-replicate {A = ℕ} (start + n - k) 0 in
    let whole : grown ≡ old ++ zeros = is ∙ ap (λ (l : List ℕ). l ++ zeros) (take_all (start + n) old (omega (arith, start-is))) in
    let size : length grown ≡ start + n = omega (arith, ap length whole, length-append old zeros, many, start-is, k-is) in
    let none : drop (length grown - start) (drop start grown) ≡ [] =
    drop_all (length grown - start) (drop start grown) (omega (arith, length-drop start grown)) in
    ap (λ (l : List ℕ). l ++ (filled ++ drop (length grown - start) (drop start grown)))
    (ap (take start) whole ∙ take_at old zeros start start-is)
    ∙ ap (λ (l : List ℕ). old ++ (filled ++ l)) none ∙ ap (λ (l : List ℕ). old ++ l) (append-nil filled)
