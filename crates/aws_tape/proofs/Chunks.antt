-- A chunk is read from a reader of which it is known what bytes it has.
use Rattle.std.proofs.Common.{◌≡◌, ℕ, ◌+◌, ◌<◌, ◌≤◌, Bool, true, false, cond, nat_le, nat_lt, ◌&&◌, List, [], ◌++◌, length, take, drop}
use Rattle.std.proofs.Common.{Ok, Err, Result, Option, Some, None, refl, sym, ap, subst, ◌∙◌, inl, inr, append-nil, length-append, arith}
use Rattle.std.proofs.lemmas.Bool.Decides.{nat_tests}
use Rattle.std.proofs.lemmas.List.{drop-drop, take_at, drop_at, length-take-le, take-append-le}
use Rattle.std.proofs.Math.Nat.{eq-or-lt_of_le}
use Rattle.std.specs.List.{list_all}
use Rattle.std.specs.Fmt.{option_append}
use Rattle.std.specs.Io.KnownBytes.{Consumes}
use Rattle.aws_tape.specs.declared.chunk.Header.{Header}
use Rattle.aws_tape.specs.declared.image.TapeImage.{TapeImage}
use Rattle.aws_tape.specs.declared.fault.AwsError.{AwsError}
use Rattle.aws_tape.specs.declared.fault.AwsFault.{AwsFault}
use Rattle.aws_tape.specs.declared.fault.AwsFault.TheVariants as fault
use Rattle.aws_tape.specs.Chunk.{len_of, is_digit}
use Rattle.aws_tape.specs.Between.{Between}
use Rattle.aws_tape.specs.Steps.{◌>>=◌}
use Rattle.image_source.specs.Filled.{Fills}
use Rattle.aws_tape.specs.Reading.{IsOfImage, at_offset, image_end, with_data, header_after, data_after, first_after, start, read_from, is_fake_tape, Loads}
use Rattle.aws_tape.specs.Stepping.{Drops, FetchesChunk, ReadsData, ReadsChunk, ReadsChunks, IsLeft}
use Rattle.aws_tape.proofs.Images.{first_with, first_len, read_chunk, read_fault, read_end}

-- n bytes that were read are the first n
taken : (n : ℕ) (rest bytes left : List ℕ) → length bytes ≡ n → rest ≡ bytes ++ left → take n rest ≡ bytes
taken n rest bytes left len is = ap (take n) is ∙ take_at bytes left n len

dropped : (n : ℕ) (rest bytes left : List ℕ) → length bytes ≡ n → rest ≡ bytes ++ left → left ≡ drop n rest
dropped n rest bytes left len is = sym (ap (drop n) is ∙ drop_at bytes left n len)

pub fetched : {A : Type 0} (at next : Between) (n : ℕ) (old new : Option (List ℕ)) (bytes : List ℕ) (done : A) → length bytes ≡ n →
    Consumes old new bytes → next ≡ with_data at bytes → FetchesChunk at next n old new (Ok done)
fetched at next n None new bytes done len read is = tt
fetched at next n (Some rest) None bytes done len read is = absurd read
fetched at next n (Some rest) (Some left) bytes done len read is = (
  omega (arith, len, ap length read, length-append bytes left),
  is ∙ ap (with_data at) (sym (taken n rest bytes left len read)),
  dropped n rest bytes left len read,
)

-- the bytes of a header that was read
pub record Begun (at : Between) (bytes rest left : List ℕ) (r : Result Header AwsFault) : Type 0 where
  pub long : 6 ≤ length rest
  pub header : header_after at (take 6 rest) ≡ r
  pub after : left ≡ drop 6 rest

begun : (at : Between) (bytes rest left : List ℕ) (r : Result Header AwsFault) → length bytes ≡ 6 → rest ≡ bytes ++ left
    → header_after at bytes ≡ r → Begun at bytes rest left r
begun at bytes rest left r len is read = record {
  long = omega (arith, len, ap length is, length-append bytes left);
  header = ap (header_after at) (taken 6 rest bytes left len is) ∙ read;
  after = dropped 6 rest bytes left len is;
}

data_left : (at : Between) (bytes rest left : List ℕ) (header : Header) → Begun at bytes rest left (Ok header)
    → data_after at left header ≡ first_after at rest
data_left at bytes rest left header b =
    ap (λ (l : List ℕ). data_after at l header) b.after ∙ sym (first_with at rest header b.long b.header)

dropped_chunk : (at : Between) (bytes rest left : List ℕ) (header : Header) (new : Option (List ℕ)) → Begun at bytes rest left (Ok header)
    → Drops header.len left new → Drops (6 + header.len) rest new
dropped_chunk at bytes rest left header None b d = d
dropped_chunk at bytes rest left header (Some after) b d =
    d ∙ ap (drop header.len) b.after ∙ drop-drop header.len 6 rest

pub chunk_read : (at next : Between) (old mid new : Option (List ℕ)) (bytes : List ℕ) (header : Header) (done : Unit {0}) → length bytes ≡ 6
    → Consumes old mid bytes → header_after at bytes ≡ Ok header → ReadsData at next header mid new (Ok done)
    → ReadsChunk at next old new (Ok (Some header.len))
chunk_read at next None mid new bytes header done len read is follows = tt
chunk_read at next (Some rest) None new bytes header done len read is follows = absurd read
chunk_read at next (Some rest) (Some left) new bytes header done len read is follows =
    let b = begun at bytes rest left (Ok header) len read is in (
      omega (arith, b.long),
      sym (data_left at bytes rest left header b) ∙ follows.0,
      first_len at rest header b.header,
      dropped_chunk at bytes rest left header new b follows.2,
    )

pub chunk_fails : (at next : Between) (old mid new : Option (List ℕ)) (bytes : List ℕ) (header : Header) (e : AwsFault) → length bytes ≡ 6
    → Consumes old mid bytes → header_after at bytes ≡ Ok header → ReadsData at next header mid new {A = Unit {0}} (Err e)
    → ReadsChunk at next old new (Err e)
chunk_fails at next None mid new bytes header e len read is follows = tt
chunk_fails at next (Some rest) None new bytes header e len read is follows = absurd read
chunk_fails at next (Some rest) (Some left) new bytes header e len read is follows = λ (known : IsOfImage e).
    let b = begun at bytes rest left (Ok header) len read is in (
      omega (arith, b.long),
      sym (data_left at bytes rest left header b) ∙ follows known,
    )

pub header_fails : (at next : Between) (old mid : Option (List ℕ)) (bytes : List ℕ) (e : AwsFault) → length bytes ≡ 6
    → Consumes old mid bytes → header_after at bytes ≡ Err e → ReadsChunk at next old mid (Err e)
header_fails at next None mid bytes e len read is = tt
header_fails at next (Some rest) None bytes e len read is = absurd read
header_fails at next (Some rest) (Some left) bytes e len read is = λ (known : IsOfImage e).
    let b = begun at bytes rest left (Err e) len read is in
    let long : nat_lt (length rest) 6 ≡ false = grind (arith, nat_tests, b.long) in
    let whole = header_after at (take 6 rest) >>= data_after at (drop 6 rest) in (
      omega (arith, b.long),
      ap (λ (c : Bool). cond c (Err fault.HeaderCutShort) whole) long
          ∙ ap (λ (r : Result Header AwsFault). r >>= data_after at (drop 6 rest)) b.header,
    )

-- a reader that had fewer bytes than a header has
pub header_cut : (at next : Between) (old new : Option (List ℕ)) (buffer : List ℕ) (count : ℕ) → 0 < count → count < 6
    → length buffer ≡ 6 → Fills old new buffer count → ReadsChunk at next old new (Err fault.HeaderCutShort)
header_cut at next None new buffer count some few len f = tt
header_cut at next (Some rest) None buffer count some few len f = absurd f.consumed
header_cut at next (Some rest) (Some left) buffer count some few len f = λ (known : IsOfImage fault.HeaderCutShort).
    let none = f.end (omega (arith, len, few)) in
    let whole : rest ≡ take count buffer = f.consumed ∙ ap (λ (l : List ℕ). take count buffer ++ l) none ∙ append-nil (take count buffer) in
    let size : length rest ≡ count = ap length whole ∙ length-take-le count buffer f.within in
    let short : nat_lt (length rest) 6 ≡ true = grind (arith, nat_tests, size, few) in
    (omega (arith, size, some), ap (λ (c : Bool). cond c (Err fault.HeaderCutShort) (header_after at (take 6 rest) >>= data_after at (drop 6 rest))) short)

pub nothing_left : (at : Between) (old new : Option (List ℕ)) (buffer : List ℕ) (count : ℕ) → count ≡ 0
    → length buffer ≡ 6 → Fills old new buffer count → ReadsChunk at at old new (Ok None)
nothing_left at None new buffer count none len f = tt
nothing_left at (Some rest) None buffer count none len f = absurd f.consumed
nothing_left at (Some rest) (Some left) buffer count none len f =
    let end = f.end (omega (arith, len, none)) in
    (f.consumed ∙ ap (λ (n : ℕ). take n buffer ++ left) none ∙ end, refl)

-- ---- one chunk after another

pub left_chunk : (first at next : Between) (old mid new : Option (List ℕ)) (offset len : ℕ) → IsLeft first old mid offset at
    → ReadsChunk at next mid new (Ok (Some len)) → IsLeft first old new (offset + (6 + len)) next
left_chunk first at next None mid new offset len l r = tt
left_chunk first at next (Some image) None new offset len l r = absurd l
left_chunk first at next (Some image) (Some rest) None offset len l r = absurd r.3
left_chunk first at next (Some image) (Some rest) (Some left) offset len l r =
    let same : len ≡ len_of rest = r.2 in
    l ∙ read_chunk offset at next rest r.0 r.1
    ∙ ap (λ (n : ℕ). read_from (length (drop (6 + n) rest)) (offset + (6 + n)) next (drop (6 + n) rest)) (sym same)
    ∙ ap (λ (bytes : List ℕ). read_from (length bytes) (offset + (6 + len)) next bytes) (sym r.3)

answered : (first : Between) (image : List ℕ) (result : Result TapeImage AwsError) → read_from (length image) 0 first image ≡ result
    → ReadsChunks first (Some image) result
answered first image (Ok x) is = is
answered first image (Err e) is = λ (known : IsOfImage e.fault). is

pub left_end : (first at next : Between) (old mid new : Option (List ℕ)) (offset : ℕ) (result : Result TapeImage AwsError)
    → IsLeft first old mid offset at → ReadsChunk at next mid new (Ok None) → result ≡ at_offset offset (image_end next) → ReadsChunks first old result
left_end first at next None mid new offset result l r is = tt
left_end first at next (Some image) None new offset result l r is = absurd l
left_end first at next (Some image) (Some rest) new offset result l r is =
    let none : length rest ≡ 0 = ap length r.0 in
    let all = l ∙ read_end offset at rest none ∙ ap (λ (b : Between). at_offset offset (image_end b)) (sym r.1) ∙ sym is in
    answered first image result all

pub left_fault : (first at next : Between) (old mid new : Option (List ℕ)) (offset : ℕ) (e : AwsFault)
    → IsLeft first old mid offset at → ReadsChunk at next mid new (Err e) → ReadsChunks first old (Err (record { fault = e; offset = offset }))
left_fault first at next None mid new offset e l r = tt
left_fault first at next (Some image) None new offset e l r = absurd l
left_fault first at next (Some image) (Some rest) new offset e l r = λ (known : IsOfImage e).
    let f = r known in
    l ∙ read_fault offset at rest e f.0 f.1

-- ---- the start of an image

-- what was read first shows whether the file is a FakeTape file
sniffed : (image left first : List ℕ) (count : ℕ) → length first ≡ 12 → image ≡ take count first ++ left → count ≤ length first
    → (count < length first → left ≡ []) → is_fake_tape image ≡ is_fake_tape (take count first)
sniffed image left first count len is within end =
    let front = take count first in
    let front_len : length front ≡ count = length-take-le count first within in
    elim (eq-or-lt_of_le within) [
      | inl e ↦
          let long : nat_le 12 (length (front ++ left)) ≡ true = grind (arith, nat_tests, front_len, e, len, length-append front left) in
          let whole : nat_le 12 (length front) ≡ true = grind (arith, nat_tests, front_len, e, len) in
          ap is_fake_tape is
          ∙ ap (λ (b : Bool). b && list_all is_digit (take 12 (front ++ left))) (long ∙ sym whole)
          ∙ ap (λ (l : List ℕ). nat_le 12 (length front) && list_all is_digit l)
          (take-append-le 12 front left (omega (arith, front_len, e, len)))
      | inr lt ↦ ap is_fake_tape (is ∙ ap (λ (l : List ℕ). front ++ l) (end lt) ∙ append-nil front)
    ]

pub loads_fake : (bytes : ℕ) (old new : Option (List ℕ)) (first : List ℕ) (count : ℕ) → length first ≡ 12 → Fills old new first count
    → is_fake_tape (take count first) ≡ true → Loads bytes old (Err (record { fault = fault.FakeTape; offset = 0 }))
loads_fake bytes None new first count len f fake = tt
loads_fake bytes (Some image) None first count len f fake = absurd f.consumed
loads_fake bytes (Some image) (Some left) first count len f fake = λ (known : IsOfImage fault.FakeTape).
    let found : Result TapeImage AwsError = Err (record { fault = fault.FakeTape; offset = 0 }) in
    let all = read_from (length image) 0 (start (record { size = bytes; items = [] })) image in
    ap (λ (b : Bool). cond b found all) (sniffed image left first count len f.consumed f.within f.end ∙ fake)

loads_plain : (bytes : ℕ) (image : List ℕ) (result : Result TapeImage AwsError) → is_fake_tape image ≡ false
    → ReadsChunks (start (record { size = bytes; items = [] })) (Some image) result → Loads bytes (Some image) result
loads_plain bytes image (Ok x) plain read =
    let found : Result TapeImage AwsError = Err (record { fault = fault.FakeTape; offset = 0 }) in
    let all = read_from (length image) 0 (start (record { size = bytes; items = [] })) image in
    ap (λ (b : Bool). cond b found all) plain ∙ read
loads_plain bytes image (Err e) plain read = λ (known : IsOfImage e.fault).
    let found : Result TapeImage AwsError = Err (record { fault = fault.FakeTape; offset = 0 }) in
    let all = read_from (length image) 0 (start (record { size = bytes; items = [] })) image in
    ap (λ (b : Bool). cond b found all) plain ∙ read known

pub loads_rest : (bytes : ℕ) (old new : Option (List ℕ)) (first : List ℕ) (count : ℕ) (result : Result TapeImage AwsError) →
    length first ≡ 12
    → Fills old new first count → is_fake_tape (take count first) ≡ false
    → ReadsChunks (start (record { size = bytes; items = [] })) (option_append (Some (take count first)) new) result → Loads bytes old result
loads_rest bytes None new first count result len f plain read = tt
loads_rest bytes (Some image) None first count result len f plain read = absurd f.consumed
loads_rest bytes (Some image) (Some left) first count result len f plain read =
    loads_plain bytes image result (sniffed image left first count len f.consumed f.within f.end ∙ plain)
    (subst (λ (l : List ℕ). ReadsChunks (start (record { size = bytes; items = [] })) (Some l) result) (sym f.consumed) read)
