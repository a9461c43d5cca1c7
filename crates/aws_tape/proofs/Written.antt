-- What was written of an image.
use Rattle.std.proofs.Common.{◌≡◌, ◌+◌, ◌≤◌, ◌==◌, Bool, true, false, cond, List, [], ◌∷◌, ◌++◌, length, take, drop, ℕ, Option}
use Rattle.std.proofs.KnownBytes.{Appends-nil, Appends-trans}
use Rattle.std.proofs.Common.{refl, sym, ap, subst, ◌∙◌, append_assoc, append-nil, arith}
use Rattle.std.specs.Io.KnownBytes.{Appends}
use Rattle.std.proofs.lemmas.List.Sums.{sum_by-cons, prefix_len-le-length}
use Rattle.std.specs.Str.{bytes_eq}
use Rattle.tape_unit.specs.Item.{Item, content_of}
use Rattle.aws_tape.specs.declared.layout.Part.{Part}
use Rattle.aws_tape.specs.Layout.{own_count, bytes_in}
use Rattle.aws_tape.specs.Writing.{header_of, flags_of, chunks_of, item_image, items_image, last_length, last_len, common}

-- a writer has got all of an image but the bytes that are left
pub record Wrote (old now : Option (List ℕ)) (left image : List ℕ) : Type 0 where
  pub written : List ℕ
  pub appends : Appends old now written
  pub whole : written ++ left ≡ image

pub wrote-nothing : (a : Option (List ℕ)) (image : List ℕ) → Wrote a a image image
wrote-nothing a image = record { written = []; appends = Appends-nil a; whole = refl }

pub wrote-more : (a b c : Option (List ℕ)) (piece left before image : List ℕ) → Wrote a b before image → before ≡ piece ++ left
    → Appends b c piece → Wrote a c left image
wrote-more a b c piece left before image w is more = record {
  written = w.written ++ piece;
  appends = Appends-trans a b c w.written piece w.appends more;
  whole = append_assoc w.written piece left ∙ ap (λ (l : List ℕ). w.written ++ l) (sym is) ∙ w.whole;
}

pub wrote-all : (a b : Option (List ℕ)) (left image : List ℕ) → Wrote a b left image → left ≡ [] → Appends a b image
wrote-all a b left image w none = subst (λ (l : List ℕ). Appends a b l)
    (sym (append-nil w.written) ∙ ap (λ (l : List ℕ). w.written ++ l) (sym none) ∙ w.whole) w.appends

-- ---- the chunks of a block

pub bytes_in-cons : (part : Part) (parts : List Part) → bytes_in (part ∷ parts) ≡ part.len + bytes_in parts
bytes_in-cons part parts = sum_by-cons (λ (p : Part). p.len) part parts

pub chunks_step : (previous first : ℕ) (part : Part) (parts : List Part) (bytes : List ℕ) →
    chunks_of previous first (part ∷ parts) bytes
    ≡ (header_of part.len previous (flags_of first parts) ++ take part.len bytes) ++ chunks_of part.len 0 parts (drop part.len bytes)
unfolding chunks_of
chunks_step previous first part parts bytes = refl

pub chunks_end : (previous first : ℕ) (parts : List Part) (bytes : List ℕ) → length parts ≡ 0 → chunks_of previous first parts bytes ≡ []
unfolding chunks_of
chunks_end previous first [] bytes none = refl
chunks_end previous first (part ∷ parts) bytes none = absurd (omega arith)

pub last_step : (len : ℕ) (part : Part) (parts : List Part) → last_length len (part ∷ parts) ≡ last_length part.len parts
unfolding last_length
last_step len part parts = refl

pub last_end : (len : ℕ) (parts : List Part) → length parts ≡ 0 → last_length len parts ≡ len
unfolding last_length
last_end len [] none = refl
last_end len (part ∷ parts) none = absurd (omega arith)

-- ---- the items of two tapes

pub common_end : (xs ys : List Item) → length xs ≡ 0 → common xs ys ≡ 0
unfolding common
common_end [] ys none = refl
common_end (x ∷ xs) ys none = absurd (omega arith)

pub common_none : (xs ys : List Item) → length ys ≡ 0 → common xs ys ≡ 0
unfolding common
common_none [] ys none = refl
common_none (x ∷ xs) [] none = refl
common_none (x ∷ xs) (y ∷ ys) none = absurd (omega arith)

pub common_step : (x y : Item) (xs ys : List Item) → bytes_eq (content_of x) (content_of y) ≡ true → common (x ∷ xs) (y ∷ ys) ≡ 1 + common xs ys
unfolding common
common_step x y xs ys same = ap (λ (b : Bool). cond b (1 + common xs ys) 0) same

pub common_other : (x y : Item) (xs ys : List Item) → bytes_eq (content_of x) (content_of y) ≡ false → common (x ∷ xs) (y ∷ ys) ≡ 0
unfolding common
common_other x y xs ys other = ap (λ (b : Bool). cond b (1 + common xs ys) 0) other

-- ---- all items

pub own-le : (place : ℕ) (parts : List Part) → own_count place parts ≤ length parts
own-le place parts = prefix_len-le-length (λ (p : Part). p.item == place) parts

pub items_step : (parts : List Part) (place previous : ℕ) (x : Item) (items : List Item) →
    items_image parts place previous (x ∷ items)
    ≡ item_image previous (take (own_count place parts) parts) x
    ++ items_image (drop (own_count place parts) parts) (place + 1) (last_len previous (take (own_count place parts) parts) x) items
unfolding items_image
items_step parts place previous x items = refl

pub items_end : (parts : List Part) (place previous : ℕ) (items : List Item) → items ≡ [] → items_image parts place previous items ≡ []
unfolding items_image
items_end parts place previous items none = ap (items_image parts place previous) none
