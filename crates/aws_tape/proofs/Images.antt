-- An image is read chunk by chunk.
use Rattle.std.proofs.Common.{◌≡◌, ℕ, zero, suc, ◌+◌, ◌<◌, ◌≤◌, Bool, true, false, not, cond}
use Rattle.std.proofs.Common.{nat_eq, nat_lt, List, [], ◌∷◌, length, take, drop, slice_index, Ok, Err, Result, Option, Some, None}
use Rattle.std.proofs.Common.{refl, sym, ap, ◌∙◌, arith}
use Rattle.std.proofs.lemmas.Bool.Decides.{nat_tests}
use Rattle.std.proofs.lemmas.List.{length-drop}
use Rattle.byteorder.specs.Numbers.{little_from-take}
use Rattle.aws_tape.specs.declared.chunk.Header.{Header}
use Rattle.aws_tape.specs.declared.chunk.ChunkKind.{ChunkKind}
use Rattle.aws_tape.specs.declared.chunk.ChunkKind.TheVariants.{Mark, Whole, First, Middle, Last}
use Rattle.aws_tape.specs.declared.fault.AwsFault.{AwsFault}
use Rattle.aws_tape.specs.declared.fault.AwsFault.TheVariants as fault
use Rattle.aws_tape.specs.Chunk.{len_of, previous_of, is_compressed, chunk_kind}
use Rattle.aws_tape.specs.Steps.{◌>>=◌}
use Rattle.aws_tape.specs.Between.{Between}
use Rattle.aws_tape.specs.Reading.{at_offset, image_end, joins, of_kind, header_after, data_after, first_after, read_from}

-- steps that agree
same_step : {A B E : Type 0} (r : Result A E) (f g : A → Result B E) → ((x : A) → f x ≡ g x) → (r >>= f) ≡ (r >>= g)
same_step (Ok x) f g same = same x
same_step (Err e) f g same = refl

-- what is left has fewer bytes than before
less : (k : ℕ) (byte : ℕ) (rest : List ℕ) (n : ℕ) → length (byte ∷ rest) ≤ suc n → length (drop (6 + k) (byte ∷ rest)) ≤ n
less k byte rest n le = omega (arith, length-drop (6 + k) (byte ∷ rest))

-- as many chunks as there are bytes are enough
enough : (n m offset : ℕ) (at : Between) (rest : List ℕ) → length rest ≤ n → length rest ≤ m →
    read_from n offset at rest ≡ read_from m offset at rest
unfolding read_from
enough zero zero offset at rest le-n le-m = refl
enough zero (suc m) offset at [] le-n le-m = refl
enough zero (suc m) offset at (byte ∷ rest) le-n le-m = absurd (omega arith)
enough (suc n) zero offset at [] le-n le-m = refl
enough (suc n) zero offset at (byte ∷ rest) le-n le-m = absurd (omega arith)
enough (suc n) (suc m) offset at [] le-n le-m = refl
enough (suc n) (suc m) offset at (byte ∷ rest) le-n le-m =
    let k = len_of (byte ∷ rest) in
    same_step (at_offset offset (first_after at (byte ∷ rest)))
    (λ next. read_from n (offset + (6 + k)) next (drop (6 + k) (byte ∷ rest)))
    (λ next. read_from m (offset + (6 + k)) next (drop (6 + k) (byte ∷ rest)))
    (λ next. enough n m (offset + (6 + k)) next (drop (6 + k) (byte ∷ rest)) (less k byte rest n le-n) (less k byte rest m le-m))

pub read_chunk : (offset : ℕ) (at next : Between) (rest : List ℕ) → 0 < length rest → first_after at rest ≡ Ok next →
    read_from (length rest) offset at rest
    ≡ read_from (length (drop (6 + len_of rest) rest)) (offset + (6 + len_of rest)) next (drop (6 + len_of rest) rest)
unfolding read_from
read_chunk offset at next [] some first = absurd (omega arith)
read_chunk offset at next (byte ∷ rest) some first =
    let k = len_of (byte ∷ rest) in
    let left = drop (6 + k) (byte ∷ rest) in
    ap (λ (r : Result Between AwsFault). at_offset offset r
    >>= λ (x : Between). read_from (length rest) (offset + (6 + k)) x left) first
    ∙ enough (length rest) (length left) (offset + (6 + k)) next left (less k byte rest (length rest) (omega arith)) (omega arith)

pub read_fault : (offset : ℕ) (at : Between) (rest : List ℕ) (e : AwsFault) → 0 < length rest → first_after at rest ≡ Err e →
    read_from (length rest) offset at rest ≡ Err (record { fault = e; offset = offset })
unfolding read_from
read_fault offset at [] e some first = absurd (omega arith)
read_fault offset at (byte ∷ rest) e some first =
    let k = len_of (byte ∷ rest) in
    ap (λ (r : Result Between AwsFault). at_offset offset r
    >>= λ (x : Between). read_from (length rest) (offset + (6 + k)) x (drop (6 + k) (byte ∷ rest))) first

pub read_end : (offset : ℕ) (at : Between) (rest : List ℕ) → length rest ≡ 0 →
    read_from (length rest) offset at rest ≡ at_offset offset (image_end at)
unfolding read_from
read_end offset at [] none = refl
read_end offset at (byte ∷ rest) none = absurd (omega arith)

-- a chunk whose header breaks no rule goes by its data
pub first_with : (at : Between) (rest : List ℕ) (header : Header) → 6 ≤ length rest → header_after at (take 6 rest) ≡ Ok header →
    first_after at rest ≡ data_after at (drop 6 rest) header
first_with at rest header le is =
    let long : nat_lt (length rest) 6 ≡ false = grind (arith, nat_tests) in
    let whole = header_after at (take 6 rest) >>= data_after at (drop 6 rest) in
    ap (λ (b : Bool). cond b (Err fault.HeaderCutShort) whole) long
    ∙ ap (λ (r : Result Header AwsFault). r >>= data_after at (drop 6 rest)) is

-- ---- a header that breaks no rule says the length in its bytes

abbrev len_or : ℕ → Result Header AwsFault → ℕ
len_or len (Ok header) = header.len
len_or len (Err e) = len

next_rule : (len : ℕ) (b : Bool) (e : AwsFault) (r : Result Header AwsFault) → len_or len r ≡ len → len_or len (cond b (Err e) r) ≡ len
next_rule len true e r same = refl
next_rule len false e r same = same

joins_len : (kind : ChunkKind) (len so_far : ℕ) → len_or len (joins kind len so_far) ≡ len
joins_len kind len so_far = next_rule len (nat_lt 65_535 (so_far + len)) fault.LongBlock (Ok (record { kind = kind; len = len })) refl

mark_len : (len so_far : ℕ) (b : Bool) → len_or len (cond b (joins Mark len so_far) (Err fault.MarkWithData)) ≡ len
mark_len len so_far true = joins_len Mark len so_far
mark_len len so_far false = refl

kind_len : (kind : Option ChunkKind) (len so_far : ℕ) (is_open : Bool) → len_or len (of_kind kind len so_far is_open) ≡ len
kind_len None len so_far is_open = refl
kind_len (Some Mark) len so_far true = refl
kind_len (Some Mark) len so_far false = mark_len len so_far (nat_eq len 0)
kind_len (Some Whole) len so_far true = refl
kind_len (Some Whole) len so_far false = joins_len Whole len so_far
kind_len (Some First) len so_far true = refl
kind_len (Some First) len so_far false = joins_len First len so_far
kind_len (Some Middle) len so_far true = joins_len Middle len so_far
kind_len (Some Middle) len so_far false = refl
kind_len (Some Last) len so_far true = joins_len Last len so_far
kind_len (Some Last) len so_far false = refl

pub header_len : (at : Between) (bytes : List ℕ) (header : Header) → header_after at bytes ≡ Ok header → header.len ≡ len_of bytes
header_len at bytes header is =
    let len = len_of bytes in
    let flags = slice_index bytes 4 in
    let compressed = is_compressed flags in
    let spare = not (nat_eq (slice_index bytes 5) 0) in
    let other = not (nat_eq (previous_of bytes) at.previous) in
    let r1 = of_kind (chunk_kind flags) len (length at.block) at.is_open in
    let r2 = cond other (Err fault.BadPrevious) r1 in
    let r3 = cond spare (Err fault.BadSpare) r2 in
    sym (ap (len_or len) is)
    ∙ next_rule len compressed fault.Compressed r3
    (next_rule len spare fault.BadSpare r2 (next_rule len other fault.BadPrevious r1
    (kind_len (chunk_kind flags) len (length at.block) at.is_open)))

pub first_len : (at : Between) (rest : List ℕ) (header : Header) → header_after at (take 6 rest) ≡ Ok header → header.len ≡ len_of rest
first_len at rest header is = header_len at (take 6 rest) header is ∙ little_from-take 0 2 6 rest (omega arith)
