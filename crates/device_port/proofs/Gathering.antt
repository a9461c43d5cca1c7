-- The bytes that go out, part after part.
use Rattle.std.proofs.Common.{◌≡◌, ℕ, zero, suc, ◌+◌, ◌-◌, ◌<◌, ◌≤◌, true, List, [], ◌∷◌, ◌++◌, length, get_or, take, drop, replicate, min}
use Rattle.std.proofs.Common.{refl, sym, ap, ◌∙◌, append_assoc, arith, inl, inr, add-one}
use Rattle.std.proofs.Math.Seq.{drop-cons}
use Rattle.std.proofs.lemmas.Bool.{cases_lt}
use Rattle.std.proofs.lemmas.Bool.Decides.{nat_tests}
use Rattle.std.proofs.lemmas.List.{take_at, take_all, take-take, take-append-le, length-append, length-take, length-drop, append-nil}
use Rattle.std.proofs.lemmas.List.Elements.{All-head, All-tail}
use Rattle.std.proofs.lemmas.List.Sums.{sum_by-cons}
use Rattle.io_area.specs.Storage.{Storage, lies_in, bytes_at}
use Rattle.device_port.specs.declared.chain.Segment.{Segment}
use Rattle.device_port.specs.declared.kind.Flow.TheVariants.{Out}
use Rattle.device_port.proofs.Items.{length-written}
use Rattle.device_port.specs.Moves.{AllLie, segment_lies, gathered, padded, total, written}

-- bytes that lie in storage are as many as they are asked for
pub length-bytes_at : (m : Storage) (at count : ℕ) → lies_in m at count ≡ true → length (bytes_at m at count) ≡ count
length-bytes_at m at zero h = simp (length-take) (omega arith)
length-bytes_at m at (suc count) h =
    let base : m.base ≤ at = grind (arith, nat_tests, h) in
    let end : at + suc count ≤ m.base + length m.bytes = grind (arith, nat_tests, h) in
    simp (length-take, length-drop) (omega arith)

-- a chain gives as many bytes as it has room for
pub length-gathered : (m : Storage) (ss : List Segment) → AllLie Out m ss → length (gathered m ss) ≡ total ss
length-gathered m [] all = refl
length-gathered m (s ∷ ss) all =
    let P = λ (s : Segment). segment_lies Out m s ≡ true in
    let here = length-bytes_at m s.address s.count (All-head P s ss all) in
    let rest = length-gathered m ss (All-tail P s ss all) in
    length-append (bytes_at m s.address s.count) (gathered m ss) ∙ rw (here, rest) (sym (sum_by-cons (λ (s : Segment). s.count) s ss))

take_past : (room : ℕ) (xs ys : List ℕ) → length xs ≤ room → take room (xs ++ ys) ≡ xs ++ take (room - length xs) ys
take_past room [] ys le = ap (λ (k : ℕ). take k ys) (omega arith)
take_past zero (x ∷ xs) ys le = absurd (omega arith)
take_past (suc room) (x ∷ xs) ys le =
    let less : room - length xs ≡ suc room - suc (length xs) = omega arith in
    ap (λ (l : List ℕ). x ∷ l) (take_past room xs ys (omega arith)) ∙ ap (λ (k : ℕ). x ∷ (xs ++ take k ys)) less

-- what is filled up piece by piece
padded-append : (room n : ℕ) (xs ys : List ℕ) → n ≡ min (length xs) room → padded room (xs ++ ys) ≡ take n xs ++ padded (room - n) ys
padded-append room n xs ys is =
    elim (cases_lt room (length xs)) [
      | inl short ↦
          let full : n ≡ room = omega arith in
          let none : room - length (xs ++ ys) ≡ 0 = omega (arith, length-append xs ys) in
          let left : room - n ≡ 0 = omega arith in
          let none_left : (room - n) - length ys ≡ 0 = omega arith in
          let nothing : padded (room - n) ys ≡ [] = ap (λ (k : ℕ). take k ys ++ replicate ((room - n) - length ys) 0) left
          ∙ ap (λ (k : ℕ). replicate k 0) none_left in
          ap (λ (k : ℕ). take room (xs ++ ys) ++ replicate k 0) none ∙ append-nil (take room (xs ++ ys))
          ∙ take-append-le room xs ys (omega arith) ∙ ap (λ (k : ℕ). take k xs) (sym full)
          ∙ sym (append-nil (take n xs)) ∙ ap (λ (l : List ℕ). take n xs ++ l) (sym nothing)
      | inr long ↦
          let all : n ≡ length xs = omega arith in
          let left : room - length (xs ++ ys) ≡ (room - n) - length ys = omega (arith, length-append xs ys) in
          ap (λ (l : List ℕ). l ++ replicate (room - length (xs ++ ys)) 0) (take_past room xs ys long)
          ∙ append_assoc xs (take (room - length xs) ys) (replicate (room - length (xs ++ ys)) 0)
          ∙ ap (λ (k : ℕ). xs ++ (take (room - length xs) ys ++ replicate k 0)) left
          ∙ ap (λ (k : ℕ). xs ++ (take (room - k) ys ++ replicate ((room - n) - length ys) 0)) (sym all)
          ∙ ap (λ (l : List ℕ). l ++ padded (room - n) ys) (sym (take_all n xs (omega arith)))
    ]

-- one step of gathering
gather_more : (image after : List ℕ) (at n : ℕ) (piece xs ys : List ℕ) → at ≤ length image → n ≡ min (length xs) (length image - at) →
    piece ≡ take n xs → after ≡ written image at piece
    → take (at + n) after ++ padded (length after - (at + n)) ys ≡ take at image ++ padded (length image - at) (xs ++ ys)
gather_more image after at n piece xs ys within is piece-is after-is =
    let room = length image - at in
    let piece-len : length piece ≡ n = ap length piece-is ∙ length-take n xs ∙ omega arith in
    let len : length after ≡ length image = ap length after-is ∙ length-written image at piece (omega arith) in
    let front-len : length (take at image ++ piece) ≡ at + n = length-append (take at image) piece ∙ omega (arith, length-take at image) in
    let front : take (at + n) after ≡ take at image ++ piece =
    ap (take (at + n)) (after-is ∙ sym (append_assoc (take at image) piece (drop (at + length piece) image)))
    ∙ take_at (take at image ++ piece) (drop (at + length piece) image) (at + n) front-len in
    let left : length after - (at + n) ≡ room - n = omega arith in
    ap (λ (l : List ℕ). l ++ padded (length after - (at + n)) ys) (front ∙ ap (λ (l : List ℕ). take at image ++ l) piece-is)
    ∙ ap (λ (k : ℕ). (take at image ++ take n xs) ++ padded k ys) left
    ∙ append_assoc (take at image) (take n xs) (padded (room - n) ys)
    ∙ ap (λ (l : List ℕ). take at image ++ l) (sym (padded-append room n xs ys is))

-- the parts from a place on give those of the part there, and the rest
gathered-next : (m : Storage) (segments : List Segment) (i : ℕ) (d : Segment) → i < length segments →
    gathered m (drop i segments) ≡ bytes_at m (get_or segments i d).address (get_or segments i d).count
    ++ gathered m (drop (i + 1) segments)
gathered-next m segments i d h =
    let cut : drop i segments ≡ get_or segments i d ∷ drop (i + 1) segments = drop-cons segments i d h ∙ rw add-one refl in
    rw cut refl

-- one more part is gathered
pub gathers-on : (m : Storage) (segments : List Segment) (i : ℕ) (d : Segment) (image after whole : List ℕ) (at n : ℕ) →
    i < length segments → at ≤ length image →
    lies_in m (get_or segments i d).address (get_or segments i d).count ≡ true →
    n ≡ min (get_or segments i d).count (length image - at) →
    after ≡ written image at (take n (bytes_at m (get_or segments i d).address (get_or segments i d).count)) →
    take at image ++ padded (length image - at) (gathered m (drop i segments)) ≡ whole →
    take (at + n) after ++ padded (length after - (at + n)) (gathered m (drop (i + 1) segments)) ≡ whole
gathers-on m segments i d image after whole at n h within lies is wrote told =
    let xs = bytes_at m (get_or segments i d).address (get_or segments i d).count in
    let len = length-bytes_at m (get_or segments i d).address (get_or segments i d).count lies in
    gather_more image after at n (take n xs) xs (gathered m (drop (i + 1) segments)) within (rw len is) refl wrote
    ∙ ap (λ (l : List ℕ). take at image ++ padded (length image - at) l) (sym (gathered-next m segments i d h)) ∙ told

take-less : (most count n : ℕ) (bytes : List ℕ) → n ≡ min count most → take most (take count bytes) ≡ take n bytes
take-less most count n bytes is =
    elim (cases_lt most count) [
      | inl less ↦ let e : n ≡ most = omega arith in take-take most count bytes (omega arith) ∙ ap (λ (k : ℕ). take k bytes) (sym e)
      | inr more ↦ let e : n ≡ count = omega arith in take_all most (take count bytes) (omega (arith, length-take count bytes))
          ∙ ap (λ (k : ℕ). take k bytes) (sym e)
    ]

-- the first bytes that a chain of one part gives
pub take-gathered : (m : Storage) (segments : List Segment) (d : Segment) (most n : ℕ) → 1 ≤ length segments → length segments < 2 →
    n ≡ min (get_or segments 0 d).count most → take most (gathered m segments) ≡ bytes_at m (get_or segments 0 d).address n
take-gathered m [] d most n some few is = absurd (omega arith)
take-gathered m (s ∷ []) d most n some few is =
    ap (take most) (append-nil (bytes_at m s.address s.count)) ∙ take-less most s.count n (drop (s.address - m.base) m.bytes) is
take-gathered m (s ∷ k ∷ ss) d most n some few is = absurd (omega arith)
