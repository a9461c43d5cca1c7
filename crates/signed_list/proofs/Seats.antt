-- Which pass each pen has.
use Rattle.std.proofs.Common.{◌≡◌, ◌≢◌, ℕ, Option, Some, None, cond, eqb, refl, ap, sym, eq-eqb, ne_eqb, true, false, true≢false}

pub off : {A : Type 0} → false ≡ true → A
off e = absurd (true≢false (sym e))

pub some_is : (a b : ℕ) → Some a ≡ Some b → a ≡ b
some_is a b e = cc e

pub not_none : {A : Type 0} → (a : ℕ) → Some a ≡ None → A
not_none a e = absurd (cc e)

-- the seats, of which one is another
pub seat_with : (ℕ → Option ℕ) → ℕ → Option ℕ → ℕ → Option ℕ
seat_with seat number new k = cond (eqb k number) new (seat k)

pub seat-same : (seat : ℕ → Option ℕ) (number : ℕ) (new : Option ℕ) → seat_with seat number new number ≡ new
unfolding seat_with
seat-same seat number new = ap (λ b. cond b new (seat number)) (eq-eqb number number refl)

pub seat-other : (seat : ℕ → Option ℕ) (number : ℕ) (new : Option ℕ) (k : ℕ) → k ≢ number → seat_with seat number new k ≡ seat k
unfolding seat_with
seat-other seat number new k ne = ap (λ b. cond b new (seat k)) (ne_eqb k number ne)
