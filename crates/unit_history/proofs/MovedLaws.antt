-- The first bytes that move, part after part.
use Rattle.std.proofs.Common.{◌≡◌, ℕ, ◌+◌, ◌-◌, ◌<◌, ◌≤◌, Bool, true, false, List, [], ◌∷◌, length, get_or, drop, min}
use Rattle.std.proofs.Common.{refl, sym, ap, ◌∙◌, append_assoc, arith, add-one}
use Rattle.std.proofs.Math.Seq.{drop-cons}
use Rattle.std.proofs.lemmas.List.{append-nil, drop_all}
use Rattle.io_area.specs.Storage.{Storage}
use Rattle.device_port.specs.declared.chain.Segment.{Segment}
use Rattle.unit_history.specs.declared.moved.DataDirection.{DataDirection}
use Rattle.unit_history.specs.declared.moved.DataDirection.TheVariants.{From, To, DownFrom}
use Rattle.unit_history.specs.MovedData.{first_moved, is_kept_out, with_later, first_of_part, unless}

with_later-assoc : (way : DataDirection) (a b c : List ℕ) → with_later way (with_later way a b) c ≡ with_later way a (with_later way b c)
with_later-assoc From a b c = append_assoc a b c
with_later-assoc To a b c = append_assoc a b c
with_later-assoc DownFrom a b c = sym (append_assoc c b a)

with_later-none : (way : DataDirection) (a : List ℕ) → with_later way a [] ≡ a
with_later-none From a = append-nil a
with_later-none To a = append-nil a
with_later-none DownFrom a = refl

-- one more part
pub moved-on : (way : DataDirection) (m : Storage) (parts : List Segment) (i : ℕ) (d : Segment) (most count : ℕ) (bytes whole : List ℕ) →
    i < length parts → length bytes ≤ most → is_kept_out way (get_or parts i d) ≡ false →
    count ≡ min (get_or parts i d).count (most - length bytes) →
    with_later way bytes (first_moved way m (most - length bytes) (drop i parts)) ≡ whole →
    with_later way (with_later way bytes (first_of_part way m (get_or parts i d) count))
    (first_moved way m (most - (length bytes + count)) (drop (i + 1) parts)) ≡ whole
unfolding first_moved
moved-on way m parts i d most count bytes whole h few kept is told =
    let s = get_or parts i d in
    let ss = drop (i + 1) parts in
    let left = most - length bytes in
    let cut : drop i parts ≡ s ∷ ss = drop-cons parts i d h ∙ rw add-one refl in
    let next = λ (k : ℕ). with_later way (first_of_part way m s k) (first_moved way m (left - s.count) ss) in
    let here : first_moved way m left (s ∷ ss) ≡ next (min s.count left) = ap (λ (b : Bool). unless b (next (min s.count left))) kept in
    let less : most - (length bytes + count) ≡ left - s.count = omega arith in
    with_later-assoc way bytes (first_of_part way m s count) (first_moved way m (most - (length bytes + count)) ss)
    ∙ ap (λ (k : ℕ). with_later way bytes (with_later way (first_of_part way m s count) (first_moved way m k ss))) less
    ∙ ap (λ (k : ℕ). with_later way bytes (next k)) is
    ∙ ap (with_later way bytes) (sym here)
    ∙ ap (λ (l : List Segment). with_later way bytes (first_moved way m left l)) (sym cut) ∙ told

-- no part is left
pub moved-all : (way : DataDirection) (m : Storage) (parts : List Segment) (i left : ℕ) (bytes whole : List ℕ) → length parts ≤ i →
    with_later way bytes (first_moved way m left (drop i parts)) ≡ whole → bytes ≡ whole
unfolding first_moved
moved-all way m parts i left bytes whole h told =
    sym (ap (λ (l : List Segment). with_later way bytes (first_moved way m left l)) (drop_all i parts h) ∙ with_later-none way bytes) ∙ told

-- the next part is kept out
pub moved-until : (way : DataDirection) (m : Storage) (parts : List Segment) (i left : ℕ) (d : Segment) (bytes whole : List ℕ) →
    i < length parts → is_kept_out way (get_or parts i d) ≡ true →
    with_later way bytes (first_moved way m left (drop i parts)) ≡ whole → bytes ≡ whole
unfolding first_moved
moved-until way m parts i left d bytes whole h kept told =
    let s = get_or parts i d in
    let ss = drop (i + 1) parts in
    let cut : drop i parts ≡ s ∷ ss = drop-cons parts i d h ∙ rw add-one refl in
    let next = with_later way (first_of_part way m s (min s.count left)) (first_moved way m (left - s.count) ss) in
    let here : first_moved way m left (s ∷ ss) ≡ [] = ap (λ (b : Bool). unless b next) kept in
    sym (ap (λ (l : List Segment). with_later way bytes (first_moved way m left l)) cut
    ∙ ap (with_later way bytes) here ∙ with_later-none way bytes) ∙ told
