-- What a tape has not in common with the one that was mounted is forgotten.
use Rattle.std.proofs.Common.{◌≡◌, ℕ, suc, ◌+◌, ◌≤◌, Bool, true, false, cond, nat_lt, List, [], ◌∷◌, length, take}
use Rattle.std.proofs.Common.{refl, sym, ap, ◌∙◌, arith}
use Rattle.std.proofs.lemmas.Bool.Decides.{nat_tests}
use Rattle.std.proofs.lemmas.List.{take_all}
use Rattle.std.specs.Str.{bytes_eq}
use Rattle.tape_unit.specs.Item.{Item, content_of}
use Rattle.aws_tape.specs.declared.layout.Part.{Part}
use Rattle.aws_tape.specs.Layout.{count_before}
use Rattle.aws_tape.specs.Writing.{items_image, common, common_parts, saved}
use Rattle.aws_tape.proofs.Kept.{all_common}
use Rattle.aws_tape.proofs.Untouched.{one_more}

common_le : (xs ys : List Item) → common xs ys ≤ length ys
unfolding common
common_le [] ys = omega arith
common_le (x ∷ xs) [] = omega arith
common_le (x ∷ xs) (y ∷ ys) = one_more (bytes_eq (content_of x) (content_of y)) (common xs ys) (length ys) (common_le xs ys)

-- chunks of items before a place are of items before each later place
all_before : (parts : List Part) (n later : ℕ) → n ≤ later
    → count_before later (take (count_before n parts) parts) ≡ length (take (count_before n parts) parts)
all_before [] n later le = refl
all_before (part ∷ parts) n later le = by (nat_lt part.item n) part parts n later refl le (all_before parts n later le)
  where
    by : (b : Bool) (part : Part) (parts : List Part) (n later : ℕ) → nat_lt part.item n ≡ b → n ≤ later
        → count_before later (take (count_before n parts) parts) ≡ length (take (count_before n parts) parts)
        → count_before later (take (cond b (1 + count_before n parts) 0) (part ∷ parts))
        ≡ length (take (cond b (1 + count_before n parts) 0) (part ∷ parts))
    by false part parts n later test le others = refl
    by true part parts n later test le others =
        let m = count_before n parts in
        let more : 1 + m ≡ suc m = omega arith in
        let less : nat_lt part.item later ≡ true = grind (arith, nat_tests, test, le) in
        let one : 1 + length (take m parts) ≡ suc (length (take m parts)) = omega arith in
        ap (λ (i : ℕ). count_before later (take i (part ∷ parts))) more
        ∙ ap (λ (b : Bool). cond b (1 + count_before later (take m parts)) 0) less
        ∙ ap (λ (i : ℕ). 1 + i) others
        ∙ one
        ∙ ap (λ (i : ℕ). length (take i (part ∷ parts))) (sym more)

-- THE LAW: the image of the tape stays the same
pub saved_forgotten : (layout : List Part) (mounted now : List Item)
    → saved (common_parts layout mounted now) now now ≡ saved layout mounted now
saved_forgotten layout mounted now =
    let n = common now now in
    let parts = common_parts layout mounted now in
    let later : common mounted now ≤ n = omega (arith, common_le mounted now, all_common now) in
    let all : count_before n parts ≡ length parts = all_before layout (common mounted now) n later in
    ap (λ (ps : List Part). items_image ps 0 0 now) (take_all (count_before n parts) parts (omega (arith, all)))
