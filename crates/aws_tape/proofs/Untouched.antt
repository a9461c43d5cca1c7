-- What a tape has in common with the one that was loaded is written as it was.
use Rattle.std.proofs.Common.{◌≡◌, ℕ, suc, ◌+◌, ◌≤◌, Bool, true, false, cond}
use Rattle.std.proofs.Common.{List, [], ◌∷◌, ◌++◌, length, take, drop}
use Rattle.std.proofs.Common.{refl, sym, ap, subst, ◌∙◌, arith}
use Rattle.std.proofs.lemmas.List.{length-take-le, take_at, take-append-drop}
use Rattle.std.specs.List.{list_all}
use Rattle.std.proofs.lemmas.List.Folds.{list_all-append}
use Rattle.tape_unit.proofs.Spelled.{item_with-content}
use Rattle.std.specs.Str.{bytes_eq}
use Rattle.std.proofs.lemmas.Slice.Eq.{bytes_eq-Decides}
use Rattle.tape_unit.specs.Item.{Item, is_item, content_of, item_with}
use Rattle.aws_tape.specs.declared.layout.Part.{Part}
use Rattle.aws_tape.specs.Layout.{count_before}
use Rattle.aws_tape.specs.Writing.{items_image, common, saved, IsReadBack, IsUntouched}
use Rattle.aws_tape.proofs.ReadBack.{both, read_back}
use Rattle.aws_tape.proofs.Layouts.{Laid, split, split_count, begins, begins_plain}
use Rattle.aws_tape.proofs.Kept.{is_image, saved_itself}

-- ---- what two tapes have in common

pub one_more : (b : Bool) (n m : ℕ) → n ≤ m → cond b (1 + n) 0 ≤ suc m
one_more true n m le = omega (arith, le)
one_more false n m le = omega arith

common_le : (xs ys : List Item) → common xs ys ≤ length xs
unfolding common
common_le [] ys = omega arith
common_le (x ∷ xs) [] = omega arith
common_le (x ∷ xs) (y ∷ ys) = one_more (bytes_eq (content_of x) (content_of y)) (common xs ys) (length xs) (common_le xs ys)

same_item : (x y : Item) → is_item x ≡ true → is_item y ≡ true → content_of x ≡ content_of y → x ≡ y
same_item x y fits fits' same = sym (item_with-content x fits) ∙ ap item_with same ∙ item_with-content y fits'

same_heads : (b : Bool) (x y : Item) (xs ys : List Item) (n : ℕ) → bytes_eq (content_of x) (content_of y) ≡ b
    → is_item x ≡ true → is_item y ≡ true → take n xs ≡ take n ys → take (cond b (1 + n) 0) (x ∷ xs) ≡ take (cond b (1 + n) 0) (y ∷ ys)
same_heads false x y xs ys n test fits fits' same = refl
same_heads true x y xs ys n test fits fits' same =
    let more : 1 + n ≡ suc n = omega arith in
    let first : x ≡ y = same_item x y fits fits' ((bytes_eq-Decides (content_of x) (content_of y)).0 test) in
    ap (λ (k : ℕ). take k (x ∷ xs)) more
    ∙ ap (λ (z : Item). z ∷ take n xs) first
    ∙ ap (λ (zs : List Item). y ∷ zs) same
    ∙ ap (λ (k : ℕ). take k (y ∷ ys)) (sym more)

same_front : (xs ys : List Item) → list_all is_item xs ≡ true → list_all is_item ys ≡ true → take (common xs ys) xs ≡ take (common xs ys) ys
unfolding common
same_front [] ys fits fits' = refl
same_front (x ∷ xs) [] fits fits' = refl
same_front (x ∷ xs) (y ∷ ys) fits fits' =
    let a = both (is_item x) (list_all is_item xs) fits in
    let b = both (is_item y) (list_all is_item ys) fits' in
    same_heads (bytes_eq (content_of x) (content_of y)) x y xs ys (common xs ys) refl a.0 b.0 (same_front xs ys a.1 b.1)

has_front : (front rest whole : List ℕ) → whole ≡ front ++ rest → take (length front) whole ≡ front
has_front front rest whole is = ap (take (length front)) is ∙ take_at front rest (length front) refl

-- THE LAW of each tape
pub saved_untouched : (layout : List Part) (mounted now : List Item) → list_all is_item now ≡ true
    → IsUntouched layout mounted now (saved layout mounted now)
saved_untouched layout mounted now fits image l =
    let w = is_image layout mounted image l in
    let n = common mounted now in
    let items = take n mounted in
    let others = drop n mounted in
    let whole : items ++ others ≡ mounted = take-append-drop n mounted in
    let s = split items others 0 layout (subst (λ (xs : List Item). Laid 0 layout xs) (sym whole) w.laid) in
    let len : length items ≡ n = length-take-le n mounted (common_le mounted now) in
    let count : count_before n layout ≡ length s.front =
    ap (λ (k : ℕ). count_before k layout) (omega (arith, len)) ∙ split_count items others 0 layout s in
    let cut : take (count_before n layout) layout ≡ s.front =
    ap (λ (k : ℕ). take k layout) count ∙ ap (take (length s.front)) s.whole ∙ take_at s.front s.rest (length s.front) refl in
    let front = items_image s.front 0 0 items in
    let old = begins items others 0 0 s.front s.rest s.before s.after in
    let new = begins_plain items (drop n now) 0 0 s.front s.before in
    let same : now ≡ items ++ drop n now =
    sym (ap (λ (xs : List Item). xs ++ drop n now) (same_front mounted now w.fits fits) ∙ take-append-drop n now) in
    let item-fits = (both (list_all is_item items) (list_all is_item others)
    (sym (list_all-append is_item items others) ∙ ap (list_all is_item) whole ∙ w.fits)).0 in
    record {
      front = front;
      in_front = subst (λ (bytes : List ℕ). IsReadBack items bytes) (saved_itself s.front items s.before)
          (read_back s.front items items item-fits);
      of_image = has_front front old.0 image (w.spelled
          ∙ ap (λ (ps : List Part). items_image ps 0 0 mounted) s.whole
          ∙ ap (λ (xs : List Item). items_image (s.front ++ s.rest) 0 0 xs) (sym whole) ∙ old.1);
      of_written = has_front front new.0 (saved layout mounted now)
          (ap (λ (ps : List Part). items_image ps 0 0 now) cut ∙ ap (λ (xs : List Item). items_image s.front 0 0 xs) same ∙ new.1);
    }
