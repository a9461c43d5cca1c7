-- The first tape mark among the items that go by.
use Rattle.std.proofs.Common.{◌≡◌, ℕ, ◌<◌, ◌≤◌, Bool, true, false, cond, nat_lt, List, length, get_or, Some, None, ap, ◌∙◌, arith}
use Rattle.std.specs.List.{position, position_or_len}
use Rattle.std.proofs.lemmas.Bool.Decides.{nat_tests}
use Rattle.std.proofs.lemmas.List.Sums.{position_or_len_is}
use Rattle.tape_unit.specs.Item.{Item, tape_mark, is_mark}

lt-true : (a b : ℕ) → a < b → nat_lt a b ≡ true
lt-true a b h = grind (arith, nat_tests)

lt-false : (a b : ℕ) → b ≤ a → nat_lt a b ≡ false
lt-false a b h = grind (arith, nat_tests)

-- no mark among the first n
abbrev pub NoMarkIn : ℕ → List Item → Type 0
NoMarkIn n items = (k : ℕ) → k < n → is_mark (get_or items k tape_mark) ≡ false

pub mark_found : (items : List Item) (n : ℕ) → n < length items → NoMarkIn n items → is_mark (get_or items n tape_mark) ≡ true →
    position is_mark items ≡ Some n
mark_found items n lt before here =
    let at : position_or_len is_mark items ≡ n = position_or_len_is is_mark items n tape_mark (omega arith) before (λ _. here) in
    ap (λ (k : ℕ). cond (nat_lt k (length items)) (Some k) None) at ∙ ap (λ (b : Bool). cond b (Some n) None) (lt-true n (length items) lt)

pub no_mark : (items : List Item) (n : ℕ) → n ≡ length items → NoMarkIn n items → position is_mark items ≡ None
no_mark items n all before =
    let at : position_or_len is_mark items ≡ n = position_or_len_is is_mark items n tape_mark (omega arith) before
    (λ lt. absurd (omega arith)) in
    ap (λ (k : ℕ). cond (nat_lt k (length items)) (Some k) None) at ∙ ap (λ (b : Bool). cond b (Some n) None)
    (lt-false n (length items) (omega arith))
