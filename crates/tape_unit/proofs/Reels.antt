-- What the buffer of a reel shows, where positions on it lie, and what a write leaves of it.
use Rattle.std.proofs.Common.{◌≡◌, ℕ, ◌+◌, ◌*◌, ◌-◌, ◌<◌, ◌≤◌, true, List, [], ◌∷◌, ◌++◌, length, take, drop, refl, sym, ap}
use Rattle.std.proofs.Common.{subst, ◌∙◌, append_assoc, arith}
use Rattle.std.proofs.lemmas.List.{length-append, length-take-le, drop_at, take_at, take-append-le, take-take, take_more}
use Rattle.device_port.specs.Moves.{written}
use Rattle.device_port.specs.Packed.{items_at, image_of, Begins}
use Rattle.device_port.proofs.Items.{Packs, packs-held, held-packs, length-written, begins_at, cut_at, offset_of-within, offset_of-all}
use Rattle.device_port.proofs.Items.{offset_of-more, image_of-push, used-within, item_put, Fits-at, size_at-begins, begins-within}
use Rattle.tape_unit.specs.declared.position.Position.{Position}
use Rattle.tape_unit.specs.Item.{Item, tape_mark, is_item, content_of, size_of, length_bytes, length_at, packed, on_tape}
use Rattle.tape_unit.specs.Reel.{ReelState, HoldsReel, IsOn, longest_reel, item_of, bytes_before, with_item_at}
use Rattle.tape_unit.proofs.Spelled.{reads, wide, length-packed, length-length_bytes, length_at-length_bytes}

-- the reel that a buffer is seen as
abbrev pub seen : List ℕ → ℕ → ReelState
seen bytes count = record { size = length bytes; items = items_at on_tape count bytes }

pub record Shown (reel : ReelState) (bytes : List ℕ) (used count : ℕ) : Type 0 where
  pub packs : Packs on_tape reel.items bytes used count
  pub size : length bytes ≡ reel.size
  pub small : length bytes ≤ longest_reel

pub shown : (reel : ReelState) (bytes : List ℕ) (used count : ℕ) → HoldsReel bytes used count → seen bytes count ≡ reel →
    Shown reel bytes used count
shown reel bytes used count h e =
    let here : Shown (seen bytes count) bytes used count = record {
      packs = packs-held on_tape bytes used count h.holds;
      size = refl;
      small = h.small;
    } in
    subst (λ (x : ReelState). Shown x bytes used count) e here

-- what a reel keeps true of them
pub record Kept (reel : ReelState) (bytes : List ℕ) (used count : ℕ) : Type 0 where
  pub holds : HoldsReel bytes used count
  pub view : seen bytes count ≡ reel

pub kept : (reel : ReelState) (bytes : List ℕ) (used count : ℕ) → Shown reel bytes used count → Kept reel bytes used count
kept reel bytes used count s =
    let h = held-packs on_tape reads reel.items bytes used count s.packs in
    record {
      holds = record { holds = h.0; small = s.small };
      view = ap (λ (l : List Item). record { size = length bytes; items = l }) h.1
          ∙ ap (λ (n : ℕ). record { size = n; items = reel.items }) s.size;
    }

pub blank_kept : (size : ℕ) (bytes : List ℕ) → length bytes ≡ size → size ≤ longest_reel →
    Kept (record { size = size; items = [] }) bytes 0 0
blank_kept size bytes len small = kept (record { size = size; items = [] }) bytes 0 0 (
    record {
      packs = record { unused = bytes; parts = refl; fits = tt; taken = refl; counted = refl };
      size = len;
      small = omega arith;
    }
    )

-- a buffer that is written over with the used bytes of a reel of its size shows this reel
pub refilled : (from : ReelState) (bytes after source : List ℕ) (used count : ℕ) → HoldsReel source used count →
    seen source count ≡ from → length bytes ≡ from.size → after ≡ written bytes 0 (take used source) → Kept from after used count
refilled from bytes after source used count h e size is =
    let s = shown from source used count h e in
    let image = take used source in
    let fit : 0 + length image ≤ length bytes = omega (arith, length-take-le used source h.holds.within, h.holds.within, s.size, size) in
    let long : length after ≡ from.size = ap length is ∙ length-written bytes 0 image fit ∙ size in
    let same : image ≡ image_of on_tape from.items =
    ap (take used) s.packs.parts ∙ take_at (image_of on_tape from.items) s.packs.unused used (sym s.packs.taken) in
    kept from after used count (record {
      packs = record {
        unused = drop (0 + length image) bytes;
        parts = is ∙ ap (λ (l : List ℕ). l ++ drop (0 + length image) bytes) same;
        fits = s.packs.fits;
        taken = s.packs.taken;
        counted = s.packs.counted;
      };
      size = long;
      small = omega (arith, long, s.size, s.small);
    })

-- ---- positions

-- what is known of a reel and of a position on it
pub record Bounds (reel : ReelState) (bytes : List ℕ) (used count : ℕ) (at : Position) : Type 0 where
  pub counted : count ≡ length reel.items
  pub size : length bytes ≡ reel.size
  pub small : reel.size ≤ longest_reel
  pub wide : 4 * at.place ≤ at.offset
  pub within : at.offset ≤ used
  pub whole : used ≤ reel.size

pub bounds : (reel : ReelState) (bytes : List ℕ) (used count : ℕ) (at : Position) → HoldsReel bytes used count →
    seen bytes count ≡ reel → IsOn reel.items at → Bounds reel bytes used count at
bounds reel bytes used count at h e on =
    let s = shown reel bytes used count h e in
    record {
      counted = s.packs.counted;
      size = s.size;
      small = omega (arith, s.small, s.size);
      wide = omega (arith, wide (take at.place reel.items), length-take-le at.place reel.items on.within, on.before);
      within = omega (arith, offset_of-within on_tape reel.items at.place, s.packs.taken, on.before);
      whole = omega (arith, used-within on_tape reel.items bytes used count s.packs, s.size);
    }

pub at_load_point : (items : List Item) → IsOn items (record { place = 0; offset = 0 })
at_load_point items = record { within = omega arith; before = refl }

pub at_end : (reel : ReelState) (bytes : List ℕ) (used count : ℕ) → HoldsReel bytes used count → seen bytes count ≡ reel →
    IsOn reel.items (record { place = count; offset = used })
at_end reel bytes used count h e =
    let s = shown reel bytes used count h e in
    record {
      within = omega (arith, s.packs.counted);
      before = s.packs.taken ∙ sym (offset_of-all on_tape reel.items count s.packs.counted);
    }

-- the item after a position
pub found : (reel : ReelState) (bytes : List ℕ) (used count : ℕ) (at : Position) → HoldsReel bytes used count →
    seen bytes count ≡ reel → IsOn reel.items at → at.place < length reel.items
    → Begins on_tape (drop at.offset bytes) (item_of reel.items at.place)
found reel bytes used count at h e on lt =
    let s = shown reel bytes used count h e in
    subst (λ (n : ℕ). Begins on_tape (drop n bytes) (item_of reel.items at.place)) (sym on.before)
    (begins_at on_tape reel.items bytes used count at.place tape_mark s.packs lt)

-- where the next item begins
pub bytes_before-next : (items : List Item) (place : ℕ) → place < length items →
    bytes_before items (place + 1) ≡ bytes_before items place + size_of (item_of items place)
bytes_before-next items place lt = offset_of-more on_tape items place tape_mark lt
    ∙ ap (λ (n : ℕ). bytes_before items place + n) (length-packed (item_of items place))

-- what the bytes after a position say of the next one
pub record After (items : List Item) (bytes : List ℕ) (at : Position) : Type 0 where
  pub size : at.offset + 4 + length_at bytes ≡ bytes_before items (at.place + 1)
  pub long : 4 ≤ length bytes

pub after : (items : List Item) (bytes : List ℕ) (at : Position) → IsOn items at → at.place < length items →
    Begins on_tape bytes (item_of items at.place) → After items bytes at
after items bytes at on lt b =
    let x = item_of items at.place in
    record {
      size = omega (
        arith,
        bytes_before-next items at.place lt,
        size_at-begins on_tape reads bytes x b,
        length-packed x,
        on.before,
      );
      long = omega (arith, begins-within on_tape reads bytes x b);
    }

-- the item before a position: its length is there too
pub record Before (items : List Item) (bytes : List ℕ) (at : Position) : Type 0 where
  pub fits : is_item (item_of items (at.place - 1)) ≡ true
  pub size : at.offset ≡ bytes_before items (at.place - 1) + size_of (item_of items (at.place - 1))
  pub read : length_at (drop (at.offset - 2) bytes) ≡ length (content_of (item_of items (at.place - 1)))

-- a buffer that ends in an item and its rest
split_before : (front back : List ℕ) (x : Item) →
    (front ++ packed x) ++ back ≡ (front ++ (length_bytes x ++ content_of x)) ++ (length_bytes x ++ back)
split_before front back x =
    let word = length_bytes x in
    let bytes = content_of x in
    ap (λ (l : List ℕ). (front ++ l) ++ back) (sym (append_assoc word bytes word))
    ∙ ap (λ (l : List ℕ). l ++ back) (sym (append_assoc front (word ++ bytes) word))
    ∙ append_assoc (front ++ (word ++ bytes)) word back

pub before : (reel : ReelState) (bytes : List ℕ) (used count : ℕ) (at : Position) → HoldsReel bytes used count →
    seen bytes count ≡ reel → IsOn reel.items at → 0 < at.place → Before reel.items bytes at
before reel bytes used count at h e on some =
    let s = shown reel bytes used count h e in
    let items = reel.items in
    let last = at.place - 1 in
    let x = item_of items last in
    let lt : last < length items = omega (arith, on.within) in
    let next : last + 1 ≡ at.place = omega arith in
    let fits : is_item x ≡ true = Fits-at on_tape items last tape_mark s.packs.fits lt in
    let front = image_of on_tape (take last items) in
    let back = image_of on_tape (drop at.place items) ++ s.packs.unused in
    let taken : take at.place items ≡ take last items ++ x ∷ [] =
    ap (λ (n : ℕ). take n items) (sym next) ∙ take_more items last tape_mark lt in
    let parts : bytes ≡ (front ++ (length_bytes x ++ content_of x)) ++ (length_bytes x ++ back) =
    cut_at on_tape items bytes used count at.place s.packs
    ∙ ap (λ (l : List Item). image_of on_tape l ++ back) taken
    ∙ ap (λ (l : List ℕ). l ++ back) (image_of-push on_tape (take last items) x)
    ∙ split_before front back x in
    let size : at.offset ≡ bytes_before items last + size_of x =
    on.before ∙ ap (bytes_before items) (sym next) ∙ bytes_before-next items last lt in
    let here : length (front ++ (length_bytes x ++ content_of x)) ≡ at.offset - 2 = omega (
      arith,
      length-append front (length_bytes x ++ content_of x),
      length-append (length_bytes x) (content_of x),
      length-length_bytes x,
      size,
    ) in
    record {
      fits = fits;
      size = size;
      read = ap (λ (l : List ℕ). length_at (drop (at.offset - 2) l)) parts
          ∙ ap length_at (drop_at (front ++ (length_bytes x ++ content_of x)) (length_bytes x ++ back) (at.offset - 2) here)
          ∙ length_at-length_bytes x back fits;
    }

-- ---- writes

-- the places of a reel whose item at a place was written
before_put : (items : List Item) (place at : ℕ) (x : Item) → place ≤ length items → at ≤ place →
    bytes_before (take place items ++ x ∷ []) at ≡ bytes_before items at
before_put items place at x le here =
    ap (λ (l : List Item). length (image_of on_tape l))
    (take-append-le at (take place items) (x ∷ []) (omega (arith, length-take-le place items le)) ∙ take-take at place items here)

pub put_kept : (reel : ReelState) (bytes after : List ℕ) (used count : ℕ) (at : Position) (len : ℕ) (x : Item) →
    HoldsReel bytes used count → seen bytes count ≡ reel → IsOn reel.items at
    → is_item x ≡ true → len ≡ length (content_of x) → at.offset + 4 + len ≤ reel.size → after ≡ written bytes at.offset (packed x)
    → Kept (with_item_at reel at.place x) after (at.offset + 4 + len) (at.place + 1)
put_kept reel bytes after used count at len x h e on fit len-is fits after-is =
    let s = shown reel bytes used count h e in
    let end = at.offset in
    let size : length (packed x) ≡ 4 + len = omega (arith, length-packed x, len-is) in
    let p = item_put on_tape reel.items bytes used count at.place end x s.packs on.within fit on.before in
    let used-is : end + length (packed x) ≡ end + 4 + len = omega (arith, size) in
    let long : length (written bytes end (packed x)) ≡ length bytes =
    length-written bytes end (packed x) (omega (arith, size, fits, s.size)) in
    let whole : Shown (with_item_at reel at.place x) (written bytes end (packed x)) (end + 4 + len) (at.place + 1) = record {
      packs = subst (λ (n : ℕ). Packs on_tape (take at.place reel.items ++ x ∷ []) (written bytes end (packed x)) n (at.place + 1))
          used-is p;
      size = long ∙ s.size;
      small = omega (arith, long, s.small);
    } in
    subst (λ (l : List ℕ). Kept (with_item_at reel at.place x) l (end + 4 + len) (at.place + 1)) (sym after-is)
    (kept (with_item_at reel at.place x) (written bytes end (packed x)) (end + 4 + len) (at.place + 1) whole)

-- the position after an item that was written
pub after_put : (items : List Item) (at : Position) (len : ℕ) (x : Item) → IsOn items at → len ≡ length (content_of x) →
    IsOn (take at.place items ++ x ∷ []) (record { place = at.place + 1; offset = at.offset + 4 + len })
after_put items at len x on len-is =
    let new = take at.place items ++ x ∷ [] in
    let count : length new ≡ at.place + 1 =
    omega (arith, length-append (take at.place items) (x ∷ []), length-take-le at.place items on.within) in
    let all : bytes_before new (at.place + 1) ≡ length (image_of on_tape new) =
    offset_of-all on_tape new (at.place + 1) (sym count) in
    record {
      within = omega (arith, count);
      before = sym (all ∙ ap length (image_of-push on_tape (take at.place items) x)
          ∙ length-append (image_of on_tape (take at.place items)) (packed x)
          ∙ omega (arith, length-packed x, len-is, on.before));
    }
