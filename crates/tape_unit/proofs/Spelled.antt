-- Blocks and tape marks that were written are read back.
use Rattle.std.proofs.Common.{◌≡◌, ℕ, ◌+◌, ◌*◌, ◌-◌, ◌≤◌, true, List, [], ◌∷◌, ◌++◌, length, take, drop, replicate, refl, ap, ◌∙◌}
use Rattle.std.proofs.Common.{append_assoc, arith}
use Rattle.std.proofs.lemmas.Bool.Decides.{nat_tests}
use Rattle.std.proofs.lemmas.List.{take_at, drop_at, length-append, append-nil}
use Rattle.std.proofs.lemmas.List.Concat.{flat_map-cons}
use Rattle.byteorder.specs.Endian.{big_bytes}
use Rattle.byteorder.specs.Numbers.{big_number-reads_back, length-bytes_high_first}
use Rattle.device_port.specs.Moves.{padded, written}
use Rattle.device_port.specs.Packed.{ReadsBack, image_of}
use Rattle.device_port.proofs.Items.{written-written, length-written}
use Rattle.tape_unit.specs.Item.{Item, tape_mark, block, content_of, item_with, is_item}
use Rattle.tape_unit.specs.Item.{size_of, length_bytes, packed, length_at, item_at, on_tape}
use Rattle.tape_unit.specs.Reel.{bytes_of}

pub short : (x : Item) → is_item x ≡ true → length (content_of x) ≤ 65_535
short tape_mark fits = omega arith
short (block bytes) fits = grind (arith, nat_tests, fits)

pub some : (bytes : List ℕ) → is_item (block bytes) ≡ true → 1 ≤ length bytes
some bytes fits = grind (arith, nat_tests, fits)

pub block_fits : (bytes : List ℕ) → 1 ≤ length bytes → length bytes ≤ 65_535 → is_item (block bytes) ≡ true
block_fits bytes some short = grind (arith, nat_tests)

pub length-length_bytes : (x : Item) → length (length_bytes x) ≡ 2
length-length_bytes x = length-bytes_high_first 2 (length (content_of x))

pub length-packed : (x : Item) → length (packed x) ≡ size_of x
length-packed x = length-append (length_bytes x) (content_of x ++ length_bytes x)
    ∙ omega (arith, length-append (content_of x) (length_bytes x), length-length_bytes x)

-- an item is what its data says
pub item_with-content : (x : Item) → is_item x ≡ true → item_with (content_of x) ≡ x
item_with-content tape_mark fits = refl
item_with-content (block []) fits = absurd (omega (arith, some [] fits))
item_with-content (block (byte ∷ bytes)) fits = refl

pub content_of-item_with : (bytes : List ℕ) → content_of (item_with bytes) ≡ bytes
content_of-item_with [] = refl
content_of-item_with (byte ∷ bytes) = refl

-- data of at most 65,535 bytes is an item
pub item_with-fits : (bytes : List ℕ) → length bytes ≤ 65_535 → is_item (item_with bytes) ≡ true
item_with-fits [] short = refl
item_with-fits (byte ∷ bytes) short = block_fits (byte ∷ bytes) (omega arith) short

-- what follows the first length of an item
pub regrouped : (x : Item) (rest : List ℕ) → packed x ++ rest ≡ length_bytes x ++ (content_of x ++ (length_bytes x ++ rest))
regrouped x rest = append_assoc (length_bytes x) (content_of x ++ length_bytes x) rest
    ∙ ap (λ (l : List ℕ). length_bytes x ++ l) (append_assoc (content_of x) (length_bytes x) rest)

pub length_at-length_bytes : (x : Item) (rest : List ℕ) → is_item x ≡ true → length_at (length_bytes x ++ rest) ≡ length (content_of x)
length_at-length_bytes x rest fits =
    let small = short x fits in
    big_number-reads_back 2 (length (content_of x)) rest (omega arith)

pub length_at-packed : (x : Item) (rest : List ℕ) → is_item x ≡ true → length_at (packed x ++ rest) ≡ length (content_of x)
length_at-packed x rest fits = ap length_at (regrouped x rest) ∙ length_at-length_bytes x (content_of x ++ (length_bytes x ++ rest)) fits

pub drop-length_bytes : (x : Item) (rest : List ℕ) → drop 2 (packed x ++ rest) ≡ content_of x ++ (length_bytes x ++ rest)
drop-length_bytes x rest = ap (drop 2) (regrouped x rest)
    ∙ drop_at (length_bytes x) (content_of x ++ (length_bytes x ++ rest)) 2 (length-length_bytes x)

item_at-packed : (x : Item) (rest : List ℕ) → is_item x ≡ true → item_at (packed x ++ rest) ≡ x
unfolding item_at
item_at-packed x rest fits =
    ap (λ (n : ℕ). item_with (take n (drop 2 (packed x ++ rest)))) (length_at-packed x rest fits)
    ∙ ap (λ (l : List ℕ). item_with (take (length (content_of x)) l)) (drop-length_bytes x rest)
    ∙ ap item_with (take_at (content_of x) (length_bytes x ++ rest) (length (content_of x)) refl)
    ∙ item_with-content x fits

-- THE LAWS OF THE SPELLING
pub reads : ReadsBack on_tape
reads = record { item = item_at-packed; size = λ x rest fits. omega (arith, length_at-packed x rest fits, length-packed x) }

-- an item takes four bytes at least
pub wide : (items : List Item) → 4 * length items ≤ bytes_of items
wide [] = omega arith
wide (x ∷ items) = omega (
  arith,
  ap length (flat_map-cons packed x items),
  length-append (packed x) (image_of on_tape items),
  length-packed x,
  wide items,
)

-- ---- an item written between its lengths

pub item_written : (image first second third : List ℕ) (at : ℕ) (bytes : List ℕ) → at + (4 + length bytes) ≤ length image →
    first ≡ written image at (big_bytes 2 (length bytes)) → second ≡ written first (at + 2) bytes
    → third ≡ written second (at + 2 + length bytes) (big_bytes 2 (length bytes))
    → third ≡ written image at (big_bytes 2 (length bytes) ++ (bytes ++ big_bytes 2 (length bytes)))
item_written image first second third at bytes room e1 e2 e3 =
    let word = big_bytes 2 (length bytes) in
    let len = length-bytes_high_first 2 (length bytes) in
    let long : length first ≡ length image = ap length e1 ∙ length-written image at word (omega (arith, len)) in
    e3 ∙ ap (λ (l : List ℕ). written l (at + 2 + length bytes) word) e2
    ∙ written-written first (at + 2) (at + 2 + length bytes) bytes word (omega (arith, long)) refl
    ∙ ap (λ (l : List ℕ). written l (at + 2) (bytes ++ word)) e1
    ∙ written-written image at (at + 2) word (bytes ++ word) (omega (arith, len)) (omega (arith, len))

pub packed-item_with : (bytes : List ℕ) →
    packed (item_with bytes) ≡ big_bytes 2 (length bytes) ++ (bytes ++ big_bytes 2 (length bytes))
packed-item_with bytes =
    ap (λ (l : List ℕ). big_bytes 2 (length l) ++ (l ++ big_bytes 2 (length l))) (content_of-item_with bytes)

-- the first bytes that are given, where there are as many
pub padded-take : (n : ℕ) (given : List ℕ) → n ≤ length given → padded n given ≡ take n given
padded-take n given le =
    let none : n - length given ≡ 0 = omega arith in
    ap (λ (k : ℕ). take n given ++ replicate k 0) none ∙ append-nil (take n given)
