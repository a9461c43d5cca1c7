-- Where packed items lie in a buffer, and what a write leaves of them, whatever the items are.
use Rattle.std.proofs.Common.{◌≡◌, ℕ, zero, suc, ◌+◌, ◌-◌, ◌*◌, ◌<◌, ◌≤◌, List, [], ◌∷◌, ◌++◌, length, get_or, set, take, drop, replicate}
use Rattle.std.proofs.Common.{refl, sym, ap, subst, ◌∙◌, append_assoc, add-one, arith}
use Rattle.std.specs.List.{AllByRecursion}
use Rattle.std.proofs.lemmas.List.{take_at, take_all, drop_at, take-append-drop, length-append, length-take, length-take-le, length-drop}
use Rattle.std.proofs.lemmas.List.{drop_more, take_more, append-nil, drop-drop, set_split, length-set, length-replicate}
use Rattle.std.proofs.lemmas.List.Concat.{flat_map-cons, flat_map-append}
use Rattle.std.proofs.lemmas.List.Elements.{All-from_recursion}
use Rattle.device_port.specs.Moves.{padded, written}
use Rattle.device_port.specs.Packed.{Spelling, ReadsBack, image_of, offset_of, items_at, HoldsItems, Begins}

-- ---- writes into a buffer

pub length-written : (buffer : List ℕ) (at : ℕ) (bytes : List ℕ) → at + length bytes ≤ length buffer →
    length (written buffer at bytes) ≡ length buffer
length-written buffer at bytes fit =
    let rest = drop (at + length bytes) buffer in
    omega (
      arith,
      length-append (take at buffer) (bytes ++ rest),
      length-append bytes rest,
      length-take at buffer,
      length-drop (at + length bytes) buffer,
    )

pub length-padded : (n : ℕ) (bytes : List ℕ) → length (padded n bytes) ≡ n
length-padded n bytes =
    let zeros : List ℕ = replicate (n - length bytes) 0 in
    let count : length zeros ≡ n - length bytes = length-replicate (n - length bytes) 0 in
    omega (arith, length-append (take n bytes) zeros, length-take n bytes, count)

-- two writes, one behind the other
pub written-written : (buffer : List ℕ) (at next : ℕ) (xs ys : List ℕ) → at + length xs ≤ length buffer → next ≡ at + length xs →
    written (written buffer at xs) next ys ≡ written buffer at (xs ++ ys)
written-written buffer at next xs ys fit next-is =
    let once = written buffer at xs in
    let rest = drop (at + length xs) buffer in
    let split : once ≡ (take at buffer ++ xs) ++ rest = sym (append_assoc (take at buffer) xs rest) in
    let len : length (take at buffer ++ xs) ≡ next = omega (arith, length-append (take at buffer) xs, length-take at buffer, next-is) in
    let front : take next once ≡ take at buffer ++ xs = ap (take next) split ∙ take_at (take at buffer ++ xs) rest next len in
    let back : drop (next + length ys) once ≡ drop (at + length (xs ++ ys)) buffer =
    sym (drop-drop (length ys) next once) ∙ ap (λ (x : List ℕ). drop (length ys) (drop next x)) split
    ∙ ap (drop (length ys)) (drop_at (take at buffer ++ xs) rest next len)
    ∙ drop-drop (length ys) (at + length xs) buffer ∙ ap (λ (n : ℕ). drop n buffer) (omega (arith, length-append xs ys)) in
    ap (λ (x : List ℕ). x ++ (ys ++ drop (next + length ys) once)) front
    ∙ ap (λ (x : List ℕ). (take at buffer ++ xs) ++ (ys ++ x)) back
    ∙ append_assoc (take at buffer) xs (ys ++ drop (at + length (xs ++ ys)) buffer)
    ∙ ap (λ (x : List ℕ). take at buffer ++ x) (sym (append_assoc xs ys (drop (at + length (xs ++ ys)) buffer)))

-- a write over a part of a buffer of the same length
pub written-part : (before old after new : List ℕ) (at : ℕ) → at ≡ length before → length new ≡ length old →
    written (before ++ (old ++ after)) at new ≡ before ++ (new ++ after)
written-part before old after new at at-is len =
    let whole = before ++ (old ++ after) in
    let front : take at whole ≡ before = take_at before (old ++ after) at (sym at-is) in
    let back : drop (at + length new) whole ≡ after =
    sym (drop-drop (length new) at whole) ∙ ap (drop (length new)) (drop_at before (old ++ after) at (sym at-is))
    ∙ drop_at old after (length new) (sym len) in
    ap (λ (x : List ℕ). x ++ (new ++ drop (at + length new) whole)) front ∙ ap (λ (x : List ℕ). before ++ (new ++ x)) back

-- ---- lists whose items all fit

module _ {X : Type 0} (P : X → Type 0) where
  all_taken : (n : ℕ) (l : List X) → AllByRecursion P l → AllByRecursion P (take n l)
  all_taken zero l h = tt
  all_taken (suc n) [] h = tt
  all_taken (suc n) (y ∷ l) h = (h.0, all_taken n l h.1)

  all_pushed : (l : List X) (y : X) → AllByRecursion P l → P y → AllByRecursion P (l ++ y ∷ [])
  all_pushed [] y h k = (k, tt)
  all_pushed (z ∷ l) y h k = (h.0, all_pushed l y h.1 k)

  all_set : (l : List X) (place : ℕ) (y : X) → AllByRecursion P l → P y → AllByRecursion P (set l place y)
  all_set [] place y h k = tt
  all_set (z ∷ l) zero y h k = (k, h.1)
  all_set (z ∷ l) (suc place) y h k = (h.0, all_set l place y h.1 k)

-- ---- where items lie

module _ {X : Type 0} (s : Spelling X) where
  pub length-items_at : (n : ℕ) (bytes : List ℕ) → length (items_at s n bytes) ≡ n
  unfolding items_at
  length-items_at zero bytes = refl
  length-items_at (suc n) bytes = ap suc (length-items_at n (drop (s.size_at bytes) bytes))

  -- what a buffer of items is
  pub record Packs (items : List X) (bytes : List ℕ) (used count : ℕ) : Type 0 where
    pub unused : List ℕ
    pub parts : bytes ≡ image_of s items ++ unused
    pub fits : AllByRecursion s.Fits items
    pub taken : used ≡ length (image_of s items)
    pub counted : count ≡ length items

  pub image_of-push : (items : List X) (x : X) → image_of s (items ++ x ∷ []) ≡ image_of s items ++ s.packed x
  image_of-push items x = flat_map-append s.packed items (x ∷ []) ∙ ap (λ (l : List ℕ). image_of s items ++ l)
      (flat_map-cons s.packed x [] ∙ append-nil (s.packed x))

  pub Fits-at : (items : List X) (place : ℕ) (d : X) → AllByRecursion s.Fits items → place < length items → s.Fits (get_or items place d)
  Fits-at items place d fits lt = All-from_recursion s.Fits items fits place d lt

  -- what one place more takes on
  pub offset_of-more : (items : List X) (place : ℕ) (d : X) → place < length items →
      offset_of s items (place + 1) ≡ offset_of s items place + length (s.packed (get_or items place d))
  offset_of-more items place d lt =
      let x = get_or items place d in
      ap (λ (l : List X). length (image_of s l)) (take_more items place d lt) ∙ ap length (image_of-push (take place items) x)
      ∙ length-append (image_of s (take place items)) (s.packed x)

  -- the bytes before a place and from there on
  image_of-cut : (items : List X) (place : ℕ) → image_of s items ≡ image_of s (take place items) ++ image_of s (drop place items)
  image_of-cut items place = ap (image_of s) (sym (take-append-drop place items))
      ∙ flat_map-append s.packed (take place items) (drop place items)

  pub offset_of-within : (items : List X) (place : ℕ) → offset_of s items place ≤ length (image_of s items)
  offset_of-within items place =
      let back = image_of s (drop place items) in
      omega (arith, ap length (image_of-cut items place), length-append (image_of s (take place items)) back)

  pub offset_of-all : (items : List X) (place : ℕ) → place ≡ length items → offset_of s items place ≡ length (image_of s items)
  offset_of-all items place e = ap (λ (l : List X). length (image_of s l)) (take_all place items (omega arith))

  -- items of at least so many bytes each
  pub image_of-wide : (least : ℕ) (items : List X) → ((x : X) → s.Fits x → least ≤ length (s.packed x)) → AllByRecursion s.Fits items →
      length items * least ≤ length (image_of s items)
  image_of-wide least [] wide fits = omega arith
  image_of-wide least (x ∷ items) wide fits =
      let back = image_of s items in
      let here = wide x fits.0 in
      let more = image_of-wide least items wide fits.1 in
      omega (arith, ap length (flat_map-cons s.packed x items), length-append (s.packed x) back, here, more)

module _ {X : Type 0} (s : Spelling X) where
  pub packs-held : (bytes : List ℕ) (used count : ℕ) → HoldsItems s bytes used count → Packs s (items_at s count bytes) bytes used count
  packs-held bytes used count h = record {
    unused = drop used bytes;
    parts = sym (take-append-drop used bytes) ∙ ap (λ (l : List ℕ). l ++ drop used bytes) h.packed;
    fits = h.fits;
    taken = omega (arith, length-take used bytes, ap length h.packed, h.within);
    counted = sym (length-items_at s count bytes);
  }

  pub used-within : (items : List X) (bytes : List ℕ) (used count : ℕ) → Packs s items bytes used count → used ≤ length bytes
  used-within items bytes used count p = omega (arith, p.taken, ap length p.parts, length-append (image_of s items) p.unused)

  -- a buffer cut at a place
  pub cut_at : (items : List X) (bytes : List ℕ) (used count place : ℕ) (p : Packs s items bytes used count) →
      bytes ≡ image_of s (take place items) ++ (image_of s (drop place items) ++ p.unused)
  cut_at items bytes used count place p =
      p.parts ∙ ap (λ (l : List ℕ). l ++ p.unused) (image_of-cut s items place)
      ∙ append_assoc (image_of s (take place items)) (image_of s (drop place items)) p.unused

  -- a buffer around the item at a place
  pub around : (items : List X) (bytes : List ℕ) (used count place : ℕ) (d : X) (p : Packs s items bytes used count) → place < length items
      → bytes ≡ image_of s (take place items) ++ (s.packed (get_or items place d) ++ (image_of s (drop (place + 1) items) ++ p.unused))
  around items bytes used count place d p lt =
      let front = image_of s (take place items) in
      let x = get_or items place d in
      let back = image_of s (drop (place + 1) items) in
      cut_at items bytes used count place p
      ∙ ap (λ (l : List X). front ++ (image_of s l ++ p.unused)) (drop_more items place d lt)
      ∙ ap (λ (l : List ℕ). front ++ (l ++ p.unused)) (flat_map-cons s.packed x (drop (place + 1) items))
      ∙ ap (λ (l : List ℕ). front ++ l) (append_assoc (s.packed x) back p.unused)

  -- what a buffer begins with at the offset of a place
  pub begins_at : (items : List X) (bytes : List ℕ) (used count place : ℕ) (d : X) → Packs s items bytes used count →
      place < length items → Begins s (drop (offset_of s items place) bytes) (get_or items place d)
  begins_at items bytes used count place d p lt =
      let rest = image_of s (drop (place + 1) items) ++ p.unused in
      record {
        fits = Fits-at s items place d p.fits lt;
        rest = rest;
        parts = ap (drop (offset_of s items place)) (around items bytes used count place d p lt)
            ∙ drop_at (image_of s (take place items)) (s.packed (get_or items place d) ++ rest) (offset_of s items place) refl;
      }

-- ---- what is read back

module _ {X : Type 0} (s : Spelling X) (reads : ReadsBack s) where
  -- items that were packed are read back, whatever follows
  pub items_at-packed : (items : List X) (rest : List ℕ) → AllByRecursion s.Fits items →
      items_at s (length items) (image_of s items ++ rest) ≡ items
  unfolding items_at
  items_at-packed [] rest fits = refl
  items_at-packed (x ∷ items) rest fits =
      let after = image_of s items ++ rest in
      let regrouped : image_of s (x ∷ items) ++ rest ≡ s.packed x ++ after =
      ap (λ (l : List ℕ). l ++ rest) (flat_map-cons s.packed x items) ∙ append_assoc (s.packed x) (image_of s items) rest in
      let bytes = s.packed x ++ after in
      let next : drop (s.size_at bytes) bytes ≡ after = drop_at (s.packed x) after (s.size_at bytes) (sym (reads.size x after fits.0)) in
      ap (items_at s (suc (length items))) regrouped
      ∙ ap (λ (y : X). y ∷ items_at s (length items) (drop (s.size_at bytes) bytes)) (reads.item x after fits.0)
      ∙ ap (λ (l : List ℕ). x ∷ items_at s (length items) l) next
      ∙ ap (λ (l : List X). x ∷ l) (items_at-packed items rest fits.1)

  -- a buffer that packs items is read as these
  pub held-packs : (items : List X) (bytes : List ℕ) (used count : ℕ) → Packs s items bytes used count →
      HoldsItems s bytes used count × (items_at s count bytes ≡ items)
  held-packs items bytes used count p =
      let read : items_at s count bytes ≡ items = ap (λ (n : ℕ). items_at s n bytes) p.counted ∙ ap (items_at s (length items)) p.parts
      ∙ items_at-packed items p.unused p.fits in (
        record {
          within = used-within s items bytes used count p;
          packed = ap (take used) p.parts ∙ take_at (image_of s items) p.unused used (sym p.taken) ∙ ap (image_of s) (sym read);
          fits = subst (λ (l : List X). AllByRecursion s.Fits l) (sym read) p.fits;
        },
        read,
      )

  -- what bytes say of the item that they begin with
  pub size_at-begins : (bytes : List ℕ) (x : X) → Begins s bytes x → s.size_at bytes ≡ length (s.packed x)
  size_at-begins bytes x b = ap s.size_at b.parts ∙ reads.size x b.rest b.fits

  pub item_at-begins : (bytes : List ℕ) (x : X) → Begins s bytes x → s.item_at bytes ≡ x
  item_at-begins bytes x b = ap s.item_at b.parts ∙ reads.item x b.rest b.fits

  pub begins-within : (bytes : List ℕ) (x : X) → Begins s bytes x → s.size_at bytes ≤ length bytes
  begins-within bytes x b = omega (arith, size_at-begins bytes x b, ap length b.parts, length-append (s.packed x) b.rest)

  pub take-begins : (bytes : List ℕ) (x : X) (n : ℕ) → Begins s bytes x → n ≡ s.size_at bytes → take n bytes ≡ s.packed x
  take-begins bytes x n b e = ap (take n) b.parts ∙ take_at (s.packed x) b.rest n (sym (e ∙ size_at-begins bytes x b))

  pub item_at-packed : (x : X) → s.Fits x → s.item_at (s.packed x) ≡ x
  item_at-packed x fit = ap s.item_at (sym (append-nil (s.packed x))) ∙ reads.item x [] fit

  pub size_at-packed : (x : X) → s.Fits x → s.size_at (s.packed x) ≡ length (s.packed x)
  size_at-packed x fit = ap s.size_at (sym (append-nil (s.packed x))) ∙ reads.size x [] fit

  -- a buffer of some items, split at its first
  pub record Splits (bytes : List ℕ) (used count left : ℕ) : Type 0 where
    pub begins : Begins s bytes (s.item_at bytes)
    pub size : s.size_at bytes ≡ length (s.packed (s.item_at bytes))
    pub long : s.size_at bytes ≤ length bytes
    pub within : s.size_at bytes ≤ used
    pub front : take (s.size_at bytes) bytes ≡ s.packed (s.item_at bytes)
    pub rest : HoldsItems s (drop (s.size_at bytes) bytes) (used - s.size_at bytes) left
    pub items : items_at s count bytes ≡ s.item_at bytes ∷ items_at s left (drop (s.size_at bytes) bytes)

  split_first : (bytes : List ℕ) (used n : ℕ) → HoldsItems s bytes used (suc n) → Splits bytes used (suc n) n
  unfolding items_at
  split_first bytes used n h =
      let x = s.item_at bytes in
      let tail = items_at s n (drop (s.size_at bytes) bytes) in
      let p = packs-held s bytes used (suc n) h in
      let after = image_of s tail ++ p.unused in
      let parts : bytes ≡ s.packed x ++ after = p.parts ∙ ap (λ (l : List ℕ). l ++ p.unused) (flat_map-cons s.packed x tail)
      ∙ append_assoc (s.packed x) (image_of s tail) p.unused in
      let b : Begins s bytes x = record { fits = h.fits.0; rest = after; parts = parts } in
      let size = size_at-begins bytes x b in
      let back : drop (s.size_at bytes) bytes ≡ after = ap (drop (s.size_at bytes)) parts
      ∙ drop_at (s.packed x) after (s.size_at bytes) (sym size) in
      let taken : used ≡ length (s.packed x) + length (image_of s tail) = p.taken ∙ ap length (flat_map-cons s.packed x tail)
      ∙ length-append (s.packed x) (image_of s tail) in
      let left : used - s.size_at bytes ≡ length (image_of s tail) = omega arith in
      record {
        begins = b;
        size = size;
        long = begins-within bytes x b;
        within = omega arith;
        front = take-begins bytes x (s.size_at bytes) b refl;
        rest = record {
          within = omega (arith, ap length back, length-append (image_of s tail) p.unused);
          packed = ap (take (used - s.size_at bytes)) back ∙ take_at (image_of s tail) p.unused (used - s.size_at bytes) (sym left);
          fits = h.fits.1;
        };
        items = refl;
      }

  pub splits : (bytes : List ℕ) (used count : ℕ) → HoldsItems s bytes used count → (count ≡ 0 → ⊥) → Splits bytes used count (count - 1)
  splits bytes used count h some =
      let n : count ≡ suc (count - 1) = omega arith in
      let split = split_first bytes used (count - 1) (subst (λ (k : ℕ). HoldsItems s bytes used k) n h) in
      subst (λ (k : ℕ). Splits bytes used k (count - 1)) (sym n) split

-- ---- what a write leaves

module _ {X : Type 0} (s : Spelling X) where
  -- an item put at a place, with nothing behind it
  pub item_put : (items : List X) (bytes : List ℕ) (used count place end : ℕ) (x : X) → Packs s items bytes used count →
      place ≤ length items → s.Fits x → end ≡ offset_of s items place
      → Packs s (take place items ++ x ∷ []) (written bytes end (s.packed x)) (end + length (s.packed x)) (place + 1)
  item_put items bytes used count place end x p le fit end-is =
      let kept = take place items in
      let unused = drop (end + length (s.packed x)) bytes in
      let back = image_of s (drop place items) ++ p.unused in
      let front : take end bytes ≡ image_of s kept = ap (take end) (cut_at s items bytes used count place p)
      ∙ take_at (image_of s kept) back end (sym end-is) in
      let push = image_of-push s kept x in
      record {
        unused = unused;
        parts = ap (λ (l : List ℕ). l ++ (s.packed x ++ unused)) front ∙ sym (append_assoc (image_of s kept) (s.packed x) unused)
            ∙ ap (λ (l : List ℕ). l ++ unused) (sym push);
        fits = all_pushed s.Fits kept x (all_taken s.Fits place items p.fits) fit;
        taken = omega (arith, end-is, ap length push, length-append (image_of s kept) (s.packed x));
        counted = omega (arith, length-append kept (x ∷ []), length-take-le place items le);
      }

  -- an item put behind the last one
  pub item_pushed : (items : List X) (bytes : List ℕ) (used count : ℕ) (x : X) → Packs s items bytes used count → s.Fits x
      → Packs s (items ++ x ∷ []) (written bytes used (s.packed x)) (used + length (s.packed x)) (count + 1)
  item_pushed items bytes used count x p fit =
      let all : take count items ≡ items = take_all count items (omega (arith, p.counted)) in
      let end : used ≡ offset_of s items count = p.taken ∙ sym (offset_of-all s items count p.counted) in
      subst (λ (l : List X). Packs s (l ++ x ∷ []) (written bytes used (s.packed x)) (used + length (s.packed x)) (count + 1)) all
      (item_put items bytes used count count used x p (omega (arith, p.counted)) fit end)

  -- an item in place of another that has as many bytes and begins alike: only what differs is written
  pub item_patched : (items : List X) (bytes : List ℕ) (used count place at : ℕ) (d x : X) (head old new : List ℕ) →
      Packs s items bytes used count → place < length items → s.Fits x
      → s.packed (get_or items place d) ≡ head ++ old → s.packed x ≡ head ++ new → length new ≡ length old →
      at ≡ offset_of s items place + length head
      → Packs s (set items place x) (written bytes at new) used count
  item_patched items bytes used count place at d x head old new p lt fit old-is new-is len at-is =
      let front = image_of s (take place items) in
      let after = drop (place + 1) items in
      let back = image_of s after ++ p.unused in
      let whole : bytes ≡ (front ++ head) ++ (old ++ back) =
      around s items bytes used count place d p lt ∙ ap (λ (l : List ℕ). front ++ (l ++ back)) old-is
      ∙ ap (λ (l : List ℕ). front ++ l) (append_assoc head old back) ∙ sym (append_assoc front head (old ++ back)) in
      let patched : written bytes at new ≡ (front ++ head) ++ (new ++ back) =
      ap (λ (l : List ℕ). written l at new) whole ∙ written-part (front ++ head) old back new at
      (omega (arith, at-is, length-append front head)) len in
      let listed : set items place x ≡ take place items ++ x ∷ after = set_split items place x lt
      ∙ ap (λ (n : ℕ). take place items ++ x ∷ drop n items) (sym (add-one place)) in
      let image : image_of s (set items place x) ≡ front ++ (s.packed x ++ image_of s after) =
      ap (image_of s) listed ∙ flat_map-append s.packed (take place items) (x ∷ after)
      ∙ ap (λ (l : List ℕ). front ++ l) (flat_map-cons s.packed x after) in
      let parts : written bytes at new ≡ image_of s (set items place x) ++ p.unused =
      patched ∙ append_assoc front head (new ++ back) ∙ ap (λ (l : List ℕ). front ++ l) (sym (append_assoc head new back))
      ∙ ap (λ (l : List ℕ). front ++ (l ++ back)) (sym new-is)
      ∙ ap (λ (l : List ℕ). front ++ l) (sym (append_assoc (s.packed x) (image_of s after) p.unused))
      ∙ sym (append_assoc front (s.packed x ++ image_of s after) p.unused) ∙ ap (λ (l : List ℕ). l ++ p.unused) (sym image) in
      let same : length (image_of s (set items place x)) ≡ length (image_of s items) =
      omega (
        arith,
        ap length parts,
        length-append (image_of s (set items place x)) p.unused,
        ap length patched,
        length-append (front ++ head) (new ++ back),
        length-append new back,
        ap length whole,
        length-append (front ++ head) (old ++ back),
        length-append old back,
        ap length p.parts,
        length-append (image_of s items) p.unused,
      ) in
      record {
        unused = p.unused;
        parts = parts;
        fits = all_set s.Fits items place x p.fits fit;
        taken = p.taken ∙ sym same;
        counted =
            p.counted ∙ sym (length-set items place x);
      }
