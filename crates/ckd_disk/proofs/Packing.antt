-- A record that was packed is read back.
use Rattle.std.proofs.Common.{◌≡◌, ℕ, ◌+◌, ◌*◌, ◌-◌, ◌/◌, ◌%◌, ◌^◌, ◌<◌, ◌≤◌, List, [], ◌∷◌, ◌++◌, length, get_or, take, drop, replicate}
use Rattle.std.proofs.Common.{sym, ap, ◌∙◌, append_assoc, arith}
use Rattle.std.proofs.lemmas.List.{take_at, drop_at, take-append-drop, take_all, length-append, length-take, length-drop}
use Rattle.std.proofs.lemmas.List.{get_or_append_left, get_or-append_right, get_or-take, drop-drop, drop_more}
use Rattle.device_port.specs.Moves.{padded, written}
use Rattle.device_port.specs.Packed.{ReadsBack}
use Rattle.device_port.proofs.Items.{length-padded, written-written}
use Rattle.ckd_disk.specs.Record.{Record, ckd, count_area, packed, size_of, FitsCountArea, key_len, content_len, record_at, size_at}
use Rattle.ckd_disk.specs.Record.{IsRecord}

pub length-count_area : (r : Record) → FitsCountArea r → length (count_area r) ≡ 8
length-count_area r fits = length-append r.id _ ∙ omega (arith, fits.id)

pub length-packed : (r : Record) → FitsCountArea r → length (packed r) ≡ size_of r
length-packed r fits = length-append (count_area r) (r.key ++ r.content)
    ∙ omega (arith, length-count_area r fits, length-append r.key r.content)

-- a packed record, field by field
abbrev pub fields : Record → List ℕ → List ℕ
fields r rest = r.id ++ (length r.key ∷ length r.content / 256 % 256 ∷ length r.content % 256 ∷ (r.key ++ (r.content ++ rest)))

pub packed-fields : (r : Record) (rest : List ℕ) → packed r ++ rest ≡ fields r rest
packed-fields r rest = simp append_assoc

after_count : (r : Record) (rest : List ℕ) → packed r ++ rest ≡ count_area r ++ (r.key ++ (r.content ++ rest))
after_count r rest = simp append_assoc

-- the count area's fields, whatever follows
pub key_len-packed : (r : Record) (rest : List ℕ) → FitsCountArea r → key_len (packed r ++ rest) ≡ length r.key
key_len-packed r rest fits = ap key_len (packed-fields r rest) ∙ get_or-append_right r.id _ 5 5 0 fits.id (omega arith)

pub content_len-packed : (r : Record) (rest : List ℕ) → FitsCountArea r → content_len (packed r ++ rest) ≡ length r.content
content_len-packed r rest fits =
    let high : get_or (fields r rest) 6 0 ≡ length r.content / 256 % 256 = get_or-append_right r.id _ 5 6 0 fits.id (omega arith) in
    let low : get_or (fields r rest) 7 0 ≡ length r.content % 256 = get_or-append_right r.id _ 5 7 0 fits.id (omega arith) in
    let fit = fits.content in
    ap content_len (packed-fields r rest) ∙ omega (arith, high, low, fit)

size_at-packed : (r : Record) (rest : List ℕ) → FitsCountArea r → size_at (packed r ++ rest) ≡ size_of r
size_at-packed r rest fits = omega (arith, key_len-packed r rest fits, content_len-packed r rest fits)

-- the parts behind the count area
drop-count_area : (r : Record) (rest : List ℕ) → FitsCountArea r → drop 8 (packed r ++ rest) ≡ r.key ++ (r.content ++ rest)
drop-count_area r rest fits = ap (drop 8) (after_count r rest) ∙ drop_at (count_area r) (r.key ++ (r.content ++ rest)) 8
    (length-count_area r fits)

drop-key : (r : Record) (rest : List ℕ) (k : ℕ) → FitsCountArea r → k ≡ length r.key → drop (8 + k) (packed r ++ rest) ≡ r.content ++ rest
drop-key r rest k fits e = sym (drop-drop k 8 (packed r ++ rest)) ∙ ap (drop k) (drop-count_area r rest fits)
    ∙ drop_at r.key (r.content ++ rest) k (sym e)

record_at-packed : (r : Record) (rest : List ℕ) → FitsCountArea r → record_at (packed r ++ rest) ≡ r
unfolding record_at
record_at-packed r rest fits =
    let bytes = packed r ++ rest in
    let k = key_len-packed r rest fits in
    let c = content_len-packed r rest fits in
    let id : take 5 bytes ≡ r.id = ap (take 5) (packed-fields r rest) ∙ take_at r.id _ 5 fits.id in
    let key : take (key_len bytes) (drop 8 bytes) ≡ r.key = ap (take (key_len bytes)) (drop-count_area r rest fits)
    ∙ take_at r.key (r.content ++ rest) (key_len bytes) (sym k) in
    let content : take (content_len bytes) (drop (8 + key_len bytes) bytes) ≡ r.content =
    ap (take (content_len bytes)) (drop-key r rest (key_len bytes) fits k) ∙ take_at r.content rest (content_len bytes) (sym c) in
    ap (λ x. record {
      id = x;
      key = take (key_len bytes) (drop 8 bytes);
      content = take (content_len bytes) (drop (8 + key_len bytes) bytes);
    }) id
    ∙ ap (λ x. record { id = r.id; key = x; content = take (content_len bytes) (drop (8 + key_len bytes) bytes) }) key
    ∙ ap (λ x. record { id = r.id; key = r.key; content = x }) content

-- THE LAWS OF THE SPELLING
pub reads : ReadsBack ckd
reads = record { item = record_at-packed; size = λ r rest fits. size_at-packed r rest fits ∙ sym (length-packed r fits) }

-- ---- the record that given bytes make

abbrev pub IsBytes : List ℕ → Type 0
IsBytes bytes = (i : ℕ) → get_or bytes i 0 < 256

halfword : (high low : ℕ) → high < 256 → low < 256 → ((high * 256 + low) / 256 % 256 ≡ high) × ((high * 256 + low) % 256 ≡ low)
halfword high low h l = (omega arith, omega arith)

pub Fits-record_at : (bytes : List ℕ) → IsBytes bytes → IsRecord bytes → FitsCountArea (record_at bytes)
unfolding record_at
Fits-record_at bytes fits whole = record {
  id = length-take 5 bytes ∙ omega arith;
  key = omega (arith, length-take (key_len bytes) (drop 8 bytes), fits 5);
  content = omega (arith, length-take (content_len bytes) (drop (8 + key_len bytes) bytes), fits 6, fits 7);
}

-- the bytes of the record that they are
pub packed-record_at : (bytes : List ℕ) → IsBytes bytes → IsRecord bytes → packed (record_at bytes) ≡ bytes
unfolding record_at
packed-record_at bytes fits whole =
    let r = record_at bytes in
    let k = key_len bytes in
    let c = content_len bytes in
    let b6 = get_or bytes 6 0 in
    let b7 = get_or bytes 7 0 in
    let key-len : length (take k (drop 8 bytes)) ≡ k = length-take k (drop 8 bytes) ∙ omega (arith, length-drop 8 bytes) in
    let content-len : length (take c (drop (8 + k) bytes)) ≡ c = length-take c (drop (8 + k) bytes)
    ∙ omega (arith, length-drop (8 + k) bytes) in
    let half = halfword b6 b7 (fits 6) (fits 7) in
    let high : length (take c (drop (8 + k) bytes)) / 256 % 256 ≡ b6 = ap (λ (n : ℕ). n / 256 % 256) content-len ∙ half.0 in
    let low : length (take c (drop (8 + k) bytes)) % 256 ≡ b7 = ap (λ (n : ℕ). n % 256) content-len ∙ half.1 in
    let rest = take k (drop 8 bytes) ++ take c (drop (8 + k) bytes) in
    let tail : take c (drop (8 + k) bytes) ≡ drop k (drop 8 bytes) =
    take_all c (drop (8 + k) bytes) (omega (arith, length-drop (8 + k) bytes)) ∙ sym (drop-drop k 8 bytes) in
    let rest-is : rest ≡ drop 8 bytes = ap (λ (x : List ℕ). take k (drop 8 bytes) ++ x) tail ∙ take-append-drop k (drop 8 bytes) in
    let cells : drop 5 bytes ≡ k ∷ b6 ∷ b7 ∷ drop 8 bytes =
    drop_more bytes 5 0 (omega arith) ∙ ap (λ (x : List ℕ). k ∷ x)
    (drop_more bytes 6 0 (omega arith) ∙ ap (λ (x : List ℕ). b6 ∷ x) (drop_more bytes 7 0 (omega arith))) in
    let regrouped : packed r ≡ take 5 bytes
    ++ (length (take k (drop 8 bytes)) ∷ length (take c (drop (8 + k) bytes)) / 256 % 256
    ∷ length (take c (drop (8 + k) bytes)) % 256 ∷ rest) = simp append_assoc in
    regrouped
    ∙ ap (λ (n : ℕ). take 5 bytes
    ++ (n ∷ length (take c (drop (8 + k) bytes)) / 256 % 256 ∷ length (take c (drop (8 + k) bytes)) % 256 ∷ rest)) key-len
    ∙ ap (λ (n : ℕ). take 5 bytes ++ (k ∷ n ∷ length (take c (drop (8 + k) bytes)) % 256 ∷ rest)) high
    ∙ ap (λ (n : ℕ). take 5 bytes ++ (k ∷ b6 ∷ n ∷ rest)) low
    ∙ ap (λ (x : List ℕ). take 5 bytes ++ (k ∷ b6 ∷ b7 ∷ x)) rest-is
    ∙ ap (λ (x : List ℕ). take 5 bytes ++ x) (sym cells)
    ∙ take-append-drop 5 bytes

cell-padded : (n : ℕ) (given : List ℕ) (i : ℕ) → i < n → i < length given → get_or (padded n given) i 0 ≡ get_or given i 0
cell-padded n given i below long = get_or_append_left (take n given) (replicate (n - length given) 0) 0 i
    (omega (arith, length-take n given)) ∙ get_or-take n given i 0 below

-- a count area is kept when bytes that have it are filled up or cut behind it
pub size_at-padded : (n : ℕ) (given : List ℕ) → 8 ≤ n → 8 ≤ length given → size_at (padded n given) ≡ size_at given
size_at-padded n given wide long =
    omega (
      arith,
      cell-padded n given 5 (omega arith) (omega arith),
      cell-padded n given 6 (omega arith) (omega arith),
      cell-padded n given 7 (omega arith) (omega arith),
    )

pub written_whole : (given : List ℕ) → 8 ≤ length given → IsRecord (padded (size_at given) given)
written_whole given long = length-padded (size_at given) given ∙ sym (size_at-padded (size_at given) given (omega arith) long)

-- a record written part by part
pub put_parts : (image first second third fourth : List ℕ) (at : ℕ) (r : Record) → length r.id ≡ 5 → length r.content < 2 ^ 16 →
    at + size_of r ≤ length image
    → first ≡ written image at r.id → second ≡ written first (at + 5) (length r.key ∷ length r.content / 256 ∷ length r.content % 256 ∷ [])
    → third ≡ written second (at + 8) r.key → fourth ≡ written third (at + 8 + length r.key) r.content →
    fourth ≡ written image at (packed r)
put_parts image first second third fourth at r id-len content-len room e1 e2 e3 e4 =
    let lengths = length r.key ∷ length r.content / 256 ∷ length r.content % 256 ∷ [] in
    let half : length r.content / 256 ≡ length r.content / 256 % 256 = omega arith in
    let two : second ≡ written image at (r.id ++ lengths) = e2 ∙ ap (λ (x : List ℕ). written x (at + 5) lengths) e1
    ∙ written-written image at (at + 5) r.id lengths (omega arith) (omega arith) in
    let two-len : length (r.id ++ lengths) ≡ 8 = length-append r.id lengths ∙ omega arith in
    let three : third ≡ written image at ((r.id ++ lengths) ++ r.key) = e3 ∙ ap (λ (x : List ℕ). written x (at + 8) r.key) two
    ∙ written-written image at (at + 8) (r.id ++ lengths) r.key (omega arith) (omega arith) in
    let three-len : length ((r.id ++ lengths) ++ r.key) ≡ 8 + length r.key = length-append (r.id ++ lengths) r.key ∙ omega arith in
    e4 ∙ ap (λ (x : List ℕ). written x (at + 8 + length r.key) r.content) three
    ∙ written-written image at (at + 8 + length r.key) ((r.id ++ lengths) ++ r.key) r.content (omega arith) (omega arith)
    ∙ ap (written image at) (append_assoc (r.id ++ lengths) r.key r.content)
    ∙ ap (λ (n : ℕ). written image at ((r.id ++ length r.key ∷ n ∷ length r.content % 256 ∷ []) ++ (r.key ++ r.content))) half
