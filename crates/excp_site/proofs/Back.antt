-- Storage that is copied back.
use Rattle.std.proofs.Common.{◌≡◌, ◌∙◌, ◌+◌, ◌-◌, ◌==◌, ◌||◌, ◌&&◌, ℕ, true, List, ap, arith, drop, length, sym, take}
use Rattle.std.specs.Prelude.{nat_le}
use Rattle.std.proofs.Math.Bool.{or-true}
use Rattle.std.proofs.Math.Seq.{take-length}
use Rattle.std.proofs.lemmas.Bool.{le-leb}
use Rattle.io_area.specs.Storage.{SamePlace, Storage, bytes_at, lies_in}
use Rattle.excp_site.specs.Channels.{storage_at}

lies-self : (a k : ℕ) → ((k == 0) || (nat_le a a && nat_le (a + k) (a + k))) ≡ true
lies-self a k = rw (le-leb a a (omega arith), le-leb (a + k) (a + k) (omega arith)) (or-true (k == 0))

-- all bytes lie in the area that they were copied to
pub lies-back : (base : ℕ) (before : List ℕ) (n : Storage) → SamePlace (storage_at base before) n → lies_in n base (length before) ≡ true
lies-back base before n same = rw (same.base, same.len) (lies-self base (length before))

-- and what is copied back is all of it
pub copied-back : (base : ℕ) (before bytes : List ℕ) (n : Storage) → SamePlace (storage_at base before) n →
    bytes ≡ bytes_at n base (length before) → n ≡ storage_at base bytes
copied-back base before bytes n same is =
    let zero_is : base - n.base ≡ 0 = omega (arith, same.base) in
    let all : bytes ≡ n.bytes = is ∙ ap (λ k. take (length before) (drop k n.bytes)) zero_is
    ∙ ap (λ k. take k n.bytes) (sym same.len) ∙ take-length n.bytes in
    ap (λ b. storage_at b n.bytes) same.base ∙ ap (storage_at base) (sym all)
