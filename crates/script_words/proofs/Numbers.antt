-- What a word of digits says.
use Rattle.std.proofs.Common.{◌≡◌, ◌<◌, ◌≤◌, ◌≢◌, ◌+◌, ◌-◌, ◌*◌, ◌^◌, ℕ, true, false, List, [], ◌∷◌, length, take, drop, get_or, refl, sym}
use Rattle.std.proofs.Common.{ap, ◌∙◌, arith, inl, inr, Option, Some, None, ◌++◌, append_assoc, length-take, length-drop, set, add-zero}
use Rattle.std.specs.Char.{digit_value}
use Rattle.std.specs.Option.{option_map}
use Rattle.std.specs.Str.Parse.{digits_value, AllDigits}
use Rattle.std.proofs.Math.Nat.{pow-le-pow_right}
use Rattle.std.proofs.lemmas.Bool.{lt-ltb, le-ltb, le-leb, lt-leb, eq-eqb, ne_eqb, cases_lt}
use Rattle.std.proofs.lemmas.List.{take_all, append-nil, get_or-drop, drop-drop, take_more_set}
use Rattle.std.proofs.lemmas.List.Folds.{list_all_at}
use Rattle.std.proofs.lemmas.Int.Digits.{digits_value-lt}
use Rattle.script_words.specs.Forms.{put_after, all_digits, decimal, hexadecimal, pairs, sized_pairs}

pub all_true : (base : ℕ) (word : List ℕ) → AllDigits base word → all_digits base word ≡ true
all_true base [] d = refl
all_true base (c ∷ cs) d = simp (lt-ltb (digit_value c) base d.0, all_true base cs d.1)

pub not_all : (base : ℕ) (word : List ℕ) (i : ℕ) → i < length word → base ≤ digit_value (get_or word i 0) → all_digits base word ≡ false
not_all base word i within high = list_all_at _ word i 0 within (le-ltb (digit_value (get_or word i 0)) base high)

-- a decimal number
pub decimal_none : (word : List ℕ) → length word ≡ 0 → None ≡ decimal word
unfolding decimal
decimal_none word e = rw e refl

pub decimal_long : (word : List ℕ) → 10 < length word → None ≡ decimal word
unfolding decimal
decimal_long word long = simp (le-leb 1 (length word) (omega arith), lt-leb (length word) 10 long)

pub decimal_other : (word : List ℕ) (i : ℕ) → 1 ≤ length word → length word ≤ 10 → i < length word → 10 ≤ digit_value (get_or word i 0)
    → None ≡ decimal word
unfolding decimal
decimal_other word i some few within high = simp (le-leb 1 (length word) some, le-leb (length word) 10 few, not_all 10 word i within high)

pub decimal_is : (word : List ℕ) → 1 ≤ length word → length word ≤ 10 → AllDigits 10 word → Some (digits_value 10 word) ≡ decimal word
unfolding decimal
decimal_is word some few digits = simp (le-leb 1 (length word) some, le-leb (length word) 10 few, all_true 10 word digits)

-- so many hexadecimal digits
pub hexadecimal_length : (digits : ℕ) (word : List ℕ) → length word ≢ digits → None ≡ hexadecimal digits word
unfolding hexadecimal
hexadecimal_length digits word other = rw (ne_eqb (length word) digits other) refl

pub hexadecimal_other : (digits : ℕ) (word : List ℕ) (i : ℕ) → length word ≡ digits → i < length word → 16 ≤ digit_value (get_or word i 0)
    → None ≡ hexadecimal digits word
unfolding hexadecimal
hexadecimal_other digits word i e within high = rw (e, eq-eqb digits digits refl, not_all 16 word i within high) refl

pub hexadecimal_is : (digits : ℕ) (word : List ℕ) → length word ≡ digits → AllDigits 16 word
    → Some (digits_value 16 word) ≡ hexadecimal digits word
unfolding hexadecimal
hexadecimal_is digits word e all = rw (e, eq-eqb digits digits refl, all_true 16 word all) refl

-- a value so far is small
pub small : (base n : ℕ) (word : List ℕ) (i : ℕ) → 0 < base → i ≤ n → AllDigits base (take i word)
    → digits_value base (take i word) < base ^ n
small base n word i positive le digits =
    let short : length (take i word) ≤ n = omega (arith, length-take i word) in
    omega (arith, digits_value-lt base (take i word) digits, pow-le-pow_right positive short)

high_bad : (a b : ℕ) (more : List ℕ) → 16 ≤ digit_value a → pairs (a ∷ b ∷ more) ≡ None
unfolding pairs
high_bad a b more high = simp (le-ltb (digit_value a) 16 high)

low_bad : (a b : ℕ) (more : List ℕ) → 16 ≤ digit_value b → pairs (a ∷ b ∷ more) ≡ None
unfolding pairs
low_bad a b more low =
    elim (cases_lt (digit_value a) 16) [
      | inl h ↦ simp (lt-ltb (digit_value a) 16 h, le-ltb (digit_value b) 16 low)
      | inr h ↦ high_bad a b more h
    ]

both_good : (a b : ℕ) (more : List ℕ) → digit_value a < 16 → digit_value b < 16
    → pairs (a ∷ b ∷ more) ≡ option_map (λ bytes. (digit_value a * 16 + digit_value b) ∷ bytes) (pairs more)
unfolding pairs
both_good a b more h l = simp (lt-ltb (digit_value a) 16 h, lt-ltb (digit_value b) 16 l)

after_bad : (front : List ℕ) (read whole : Option (List ℕ)) → put_after front read ≡ whole → read ≡ None → whole ≡ None
after_bad front read whole e h = sym e ∙ rw h refl

regroup : (front : List ℕ) (byte : ℕ) (read : Option (List ℕ))
    → put_after front (option_map (λ bytes. byte ∷ bytes) read) ≡ put_after (front ++ byte ∷ []) read
regroup front byte (Some x) = ap (λ (bytes : List ℕ). Some bytes) (simp append_assoc)
regroup front byte None = refl

-- the next pair is none: its first digit, or its second
pub pair_high : (front rest : List ℕ) (d : ℕ) (whole : Option (List ℕ)) → put_after front (pairs rest) ≡ whole → 2 ≤ length rest
    → d ≡ digit_value (get_or rest 0 0) → 16 ≤ d → whole ≡ None
pair_high front [] d whole e long is high = absurd (omega arith)
pair_high front (a ∷ []) d whole e long is high = absurd (omega arith)
pair_high front (a ∷ b ∷ more) d whole e long is high =
    after_bad front (pairs (a ∷ b ∷ more)) whole e (high_bad a b more (rw (sym is) high))

pub pair_low : (front rest : List ℕ) (d : ℕ) (whole : Option (List ℕ)) → put_after front (pairs rest) ≡ whole → 2 ≤ length rest
    → d ≡ digit_value (get_or rest 1 0) → 16 ≤ d → whole ≡ None
pair_low front [] d whole e long is low = absurd (omega arith)
pair_low front (a ∷ []) d whole e long is low = absurd (omega arith)
pair_low front (a ∷ b ∷ more) d whole e long is low = after_bad front (pairs (a ∷ b ∷ more)) whole e (low_bad a b more (rw (sym is) low))

-- it is one
pub pair_next : (front rest new : List ℕ) (high low : ℕ) (whole : Option (List ℕ)) → put_after front (pairs rest) ≡ whole → 2 ≤ length rest
    → high ≡ digit_value (get_or rest 0 0) → low ≡ digit_value (get_or rest 1 0) → high < 16 → low < 16
    → new ≡ front ++ (high * 16 + low) ∷ [] → put_after new (pairs (drop 2 rest)) ≡ whole
pair_next front [] new high low whole e long ish isl h l n = absurd (omega arith)
pair_next front (a ∷ []) new high low whole e long ish isl h l n = absurd (omega arith)
pair_next front (a ∷ b ∷ more) new high low whole e long ish isl h l n =
    let one : put_after front (pairs (a ∷ b ∷ more)) ≡ put_after (front ++ (high * 16 + low) ∷ []) (pairs more) =
    rw (both_good a b more (rw (sym ish) h) (rw (sym isl) l), sym ish, sym isl) (regroup front (high * 16 + low) (pairs more)) in
    rw n (sym one ∙ e)

pub pair_more : (front rest new : List ℕ) (high low : ℕ) (whole : Option (List ℕ)) → put_after front (pairs rest) ≡ whole → 2 ≤ length rest
    → high ≡ digit_value (get_or rest 0 0) → low ≡ digit_value (get_or rest 1 0) → high < 16 → low < 16
    → new ≡ front ++ (high * 16 + low) ∷ [] → put_after new (pairs (take (length rest - 2) (drop 2 rest))) ≡ whole
pair_more front rest new high low whole e long ish isl h l n =
    let left : take (length rest - 2) (drop 2 rest) ≡ drop 2 rest =
    take_all (length rest - 2) (drop 2 rest) (omega (arith, length-drop 2 rest)) in
    rw left (pair_next front rest new high low whole e long ish isl h l n)

-- no pair is left, or one digit
pub pairs_end : (front rest : List ℕ) (whole : Option (List ℕ)) → put_after front (pairs rest) ≡ whole → length rest ≡ 0 →
    whole ≡ Some front
unfolding pairs
pairs_end front [] whole e none = sym e ∙ ap (λ (bytes : List ℕ). Some bytes) (append-nil front)
pairs_end front (a ∷ more) whole e none = absurd (omega arith)

pub pairs_odd : (front rest : List ℕ) (whole : Option (List ℕ)) → put_after front (pairs rest) ≡ whole → length rest < 2 → length rest ≢ 0
    → whole ≡ None
unfolding pairs
pairs_odd front [] whole e short some = absurd (some refl)
pairs_odd front (a ∷ []) whole e short some = sym e
pairs_odd front (a ∷ b ∷ more) whole e short some = absurd (omega arith)

pub after_none : (front : List ℕ) → put_after front (Some []) ≡ Some front
after_none front = ap (λ (bytes : List ℕ). Some bytes) (append-nil front)

pub after_nothing : (read : Option (List ℕ)) → put_after [] read ≡ read
after_nothing (Some x) = refl
after_nothing None = refl

-- pairs of a word of a size, by the place of the next byte
pub sized_other : (size : ℕ) (word : List ℕ) → length word ≢ 2 * size → None ≡ sized_pairs size word
unfolding sized_pairs
sized_other size word other = rw (ne_eqb (length word) (2 * size) other) refl

pub sized_is : (size : ℕ) (word : List ℕ) (read : Option (List ℕ)) → length word ≡ 2 * size → pairs word ≡ read
    → read ≡ sized_pairs size word
unfolding sized_pairs
sized_is size word read e is = rw (eq-eqb (length word) (2 * size) e) (sym is)

first_digit : (word : List ℕ) (at : ℕ) → get_or (drop at word) 0 0 ≡ get_or word at 0
first_digit word at = get_or-drop at word 0 0 ∙ ap (λ (k : ℕ). get_or word k 0) (add-zero at)

pub place_high : (bytes word : List ℕ) (place d : ℕ) → put_after (take place bytes) (pairs (drop (2 * place) word)) ≡ pairs word
    → 2 * place + 2 ≤ length word
    → d ≡ digit_value (get_or word (2 * place) 0) → 16 ≤ d → pairs word ≡ None
place_high bytes word place d e within is high =
    let rest = drop (2 * place) word in
    let long : 2 ≤ length rest = omega (arith, length-drop (2 * place) word) in
    pair_high (take place bytes) rest d (pairs word) e long (rw (first_digit word (2 * place)) is) high

pub place_low : (bytes word : List ℕ) (place d : ℕ) → put_after (take place bytes) (pairs (drop (2 * place) word)) ≡ pairs word
    → 2 * place + 2 ≤ length word
    → d ≡ digit_value (get_or word (2 * place + 1) 0) → 16 ≤ d → pairs word ≡ None
place_low bytes word place d e within is low =
    let rest = drop (2 * place) word in
    let long : 2 ≤ length rest = omega (arith, length-drop (2 * place) word) in
    pair_low (take place bytes) rest d (pairs word) e long (rw (get_or-drop (2 * place) word 1 0) is) low

pub place_more : (bytes word : List ℕ) (place high low : ℕ) → put_after (take place bytes) (pairs (drop (2 * place) word)) ≡ pairs word
    → 2 * place + 2 ≤ length word → place < length bytes
    → high ≡ digit_value (get_or word (2 * place) 0) → low ≡ digit_value (get_or word (2 * place + 1) 0) → high < 16 → low < 16
    → put_after (take (place + 1) (set bytes place (high * 16 + low))) (pairs (drop (2 * (place + 1)) word)) ≡ pairs word
place_more bytes word place high low e within room ish isl h l =
    let rest = drop (2 * place) word in
    let long : 2 ≤ length rest = omega (arith, length-drop (2 * place) word) in
    let at : 2 * place + 2 ≡ 2 * (place + 1) = omega arith in
    let tail : drop 2 rest ≡ drop (2 * (place + 1)) word = drop-drop 2 (2 * place) word ∙ ap (λ (k : ℕ). drop k word) at in
    let high_is : high ≡ digit_value (get_or rest 0 0) = rw (first_digit word (2 * place)) ish in
    let low_is : low ≡ digit_value (get_or rest 1 0) = rw (get_or-drop (2 * place) word 1 0) isl in
    rw (sym tail)
    (pair_next (take place bytes) rest _ high low (pairs word) e long high_is low_is h l (take_more_set bytes place (high * 16 + low) room))

pub place_ends : (bytes word : List ℕ) (place size : ℕ) → put_after (take place bytes) (pairs (drop (2 * place) word)) ≡ pairs word
    → length word ≡ 2 * size → place ≡ size → length bytes ≡ size
    → Some bytes ≡ sized_pairs size word
place_ends bytes word place size e long end room =
    let none : length (drop (2 * place) word) ≡ 0 = omega (arith, length-drop (2 * place) word) in
    let all : take place bytes ≡ bytes = take_all place bytes (omega arith) in
    sized_is size word (Some bytes) long
    (pairs_end (take place bytes) (drop (2 * place) word) (pairs word) e none ∙ ap (λ (b : List ℕ). Some b) all)
