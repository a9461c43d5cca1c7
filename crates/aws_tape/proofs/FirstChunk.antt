-- The first chunk of bytes that break no rule.
use Rattle.std.proofs.Common.{◌≡◌, ℕ, zero, suc, ◌+◌, ◌*◌, ◌<◌, ◌≤◌, Bool, true, false, cond, not, nat_eq, nat_lt}
use Rattle.std.proofs.Common.{List, [], ◌∷◌, ◌++◌, length, take, drop, get_or, Ok, Err, Result, Option, Some, None}
use Rattle.std.proofs.Common.{refl, sym, ap, subst, ◌∙◌, append_assoc, arith, ◌⊎◌, inl, inr}
use Rattle.std.proofs.lemmas.Bool.Decides.{nat_tests}
use Rattle.std.proofs.lemmas.List.{length-take-le, drop-drop, take-append-drop, get_or-take, get_or-drop, get_or_past}
use Rattle.std.proofs.lemmas.Nat.{le_bytes_2}
use Rattle.std.proofs.lemmas.Bool.{cases_lt}
use Rattle.byteorder.specs.Endian.{little_bytes}
use Rattle.aws_tape.specs.declared.chunk.Header.{Header}
use Rattle.aws_tape.specs.declared.chunk.ChunkKind.{ChunkKind}
use Rattle.aws_tape.specs.declared.chunk.ChunkKind.TheVariants.{Mark, Whole, First, Middle, Last}
use Rattle.aws_tape.specs.declared.fault.AwsFault.TheVariants as fault
use Rattle.aws_tape.specs.Chunk.{is_compressed, chunk_kind, len_of, previous_of}
use Rattle.aws_tape.specs.Steps.{◌>>=◌}
use Rattle.aws_tape.specs.Between.{Between}
use Rattle.aws_tape.specs.Reading.{joins, in_place, of_kind, header_after, with_data, after_data, chunk_after, data_after, first_after}
use Rattle.aws_tape.specs.Writing.{header_of, IsBytes}
use Rattle.aws_tape.proofs.Images.{header_len, first_len}

-- ---- what a step that did not fail shows

pub passed : {A E : Type 0} (b : Bool) (e : E) (r : Result A E) (x : A) → cond b (Err e) r ≡ Ok x → (b ≡ false) × (r ≡ Ok x)
passed true e r x is = absurd (cc)
passed false e r x is = (refl, is)

value_or : {A E : Type 0} → A → Result A E → A
value_or other (Ok x) = x
value_or other (Err e) = other

abbrev pub given : {A : Type 0} (E : Type 0) → A → Result A E
given E x = Ok x

pub same_value : {A E : Type 0} (x y : A) → given E x ≡ Ok y → x ≡ y
unfolding value_or
same_value {A = A} {E = E} x y is = ap (λ (r : Result A E). value_or x r) is

pub step_passed : {A B E : Type 0} (r : Result A E) (f : A → Result B E) (y : B) → (r >>= f) ≡ Ok y → (x : A) × (r ≡ Ok x) × (f x ≡ Ok y)
step_passed (Ok x) f y is = (x, refl, is)
step_passed (Err e) f y is = absurd (cc)

-- ---- the bytes of a header that breaks no rule

is_bytes-take : (n : ℕ) (bytes : List ℕ) → n ≤ length bytes → IsBytes bytes → IsBytes (take n bytes)
is_bytes-take n bytes le fits i = elim (cases_lt i n) [
  | inl lt ↦ omega (arith, get_or-take n bytes i 0 lt, fits i)
  | inr ge ↦ omega (arith, get_or_past (take n bytes) i 0 (omega (arith, length-take-le n bytes le, ge)))
]

pub is_bytes-drop : (n : ℕ) (bytes : List ℕ) → IsBytes bytes → IsBytes (drop n bytes)
is_bytes-drop n bytes fits i = omega (arith, get_or-drop n bytes i 0, fits (n + i))

two : (a b : ℕ) → a < 256 → b < 256 → (i : ℕ) → get_or (a ∷ b ∷ []) i 0 < 256
two a b small-a small-b zero = small-a
two a b small-a small-b (suc zero) = small-b
two a b small-a small-b (suc (suc i)) = omega arith

little : (a b n : ℕ) → a < 256 → b < 256 → n ≡ a + 256 * b → little_bytes 2 n ≡ a ∷ b ∷ []
little a b n small-a small-b is = le_bytes_2 (a ∷ b ∷ []) n refl (two a b small-a small-b) (omega (arith, is))

pub record IsHeader (at : Between) (bytes : List ℕ) (h : Header) : Type 0 where
  pub flags : ℕ
  pub spelled : bytes ≡ header_of h.len at.previous flags
  pub placed : of_kind (chunk_kind flags) h.len (length at.block) at.is_open ≡ Ok h

header_is : (at : Between) (bytes : List ℕ) (h : Header) → IsBytes bytes → length bytes ≡ 6
    → header_after at bytes ≡ Ok h → IsHeader at bytes h
header_is at [] h fits six is = absurd (omega arith)
header_is at (a ∷ []) h fits six is = absurd (omega arith)
header_is at (a ∷ b ∷ []) h fits six is = absurd (omega arith)
header_is at (a ∷ b ∷ c ∷ []) h fits six is = absurd (omega arith)
header_is at (a ∷ b ∷ c ∷ d ∷ []) h fits six is = absurd (omega arith)
header_is at (a ∷ b ∷ c ∷ d ∷ flags ∷ []) h fits six is = absurd (omega arith)
header_is at (a ∷ b ∷ c ∷ d ∷ flags ∷ spare ∷ more ∷ bytes) h fits six is = absurd (omega arith)
header_is at (a ∷ b ∷ c ∷ d ∷ flags ∷ spare ∷ []) h fits six is =
    let bytes = a ∷ b ∷ c ∷ d ∷ flags ∷ spare ∷ [] in
    let r1 = of_kind (chunk_kind flags) (len_of bytes) (length at.block) at.is_open in
    let other = not (nat_eq (previous_of bytes) at.previous) in
    let r2 = cond other (Err fault.BadPrevious) r1 in
    let used = not (nat_eq spare 0) in
    let r3 = cond used (Err fault.BadSpare) r2 in
    let p3 = passed (is_compressed flags) fault.Compressed r3 h is in
    let p2 = passed used fault.BadSpare r2 h p3.1 in
    let p1 = passed other fault.BadPrevious r1 h p2.1 in
    let len : h.len ≡ len_of bytes = header_len at bytes h is in
    let spare-is : spare ≡ 0 = grind (arith, nat_tests, p2.0) in
    let previous-is : previous_of bytes ≡ at.previous = grind (arith, nat_tests, p1.0) in
    let first : little_bytes 2 h.len ≡ a ∷ b ∷ [] = little a b h.len (fits 0) (fits 1) (omega (arith, len)) in
    let second : little_bytes 2 at.previous ≡ c ∷ d ∷ [] = little c d at.previous (fits 2) (fits 3) (omega (arith, previous-is)) in
    record {
      flags = flags;
      spelled = ap (λ (n : ℕ). a ∷ b ∷ c ∷ d ∷ flags ∷ n ∷ []) spare-is
          ∙ ap (λ (l : List ℕ). l ++ (c ∷ d ∷ flags ∷ 0 ∷ [])) (sym first)
          ∙ ap (λ (l : List ℕ). little_bytes 2 h.len ++ (l ++ flags ∷ 0 ∷ [])) (sym second);
      placed = ap (λ (n : ℕ). of_kind (chunk_kind flags) n (length at.block) at.is_open) len ∙ p1.1;
    }

-- ---- what a chunk is

-- byte 4 of its header
abbrev pub byte_of : ChunkKind → ℕ
byte_of Mark = 0x40
byte_of Whole = 0xA0
byte_of First = 0x80
byte_of Middle = 0
byte_of Last = 0x20

chosen : (b : Bool) (kind found : ChunkKind) (others : Option ChunkKind) → cond b (Some kind) others ≡ Some found
    → ((b ≡ true) × (kind ≡ found)) ⊎ (others ≡ Some found)
chosen true kind found others is = inl (refl, ap (λ (o : Option ChunkKind). elim o [ None ↦ kind | Some k ↦ k ]) is)
chosen false kind found others is = inr is

one_byte : (flags n : ℕ) (kind found : ChunkKind) → n ≡ byte_of kind → (nat_eq flags n ≡ true) × (kind ≡ found) → flags ≡ byte_of found
one_byte flags n kind found is c =
    let same : flags ≡ n = grind (arith, nat_tests, c.0) in
    same ∙ is ∙ ap byte_of c.1

byte_is : (flags : ℕ) (found : ChunkKind) → chunk_kind flags ≡ Some found → flags ≡ byte_of found
byte_is flags found is = elim (chosen (nat_eq flags 0x40) Mark found _ is) [
  | inl c ↦ one_byte flags 0x40 Mark found refl c
  | inr is ↦ elim (chosen (nat_eq flags 0xA0) Whole found _ is) [
    | inl c ↦ one_byte flags 0xA0 Whole found refl c
    | inr is ↦ elim (chosen (nat_eq flags 0x80) First found _ is) [
      | inl c ↦ one_byte flags 0x80 First found refl c
      | inr is ↦ elim (chosen (nat_eq flags 0) Middle found _ is) [
        | inl c ↦ one_byte flags 0 Middle found refl c
        | inr is ↦ elim (chosen (nat_eq flags 0x20) Last found None is) [
          | inl c ↦ one_byte flags 0x20 Last found refl c
          | inr is ↦ absurd (cc)
        ]
      ]
    ]
  ]
]

-- a chunk that is in its place
abbrev pub placed_at : ChunkKind → ℕ → Header
placed_at kind len = record { kind = kind; len = len }

joined_is : (kind : ChunkKind) (len so_far : ℕ) (h : Header) → joins kind len so_far ≡ Ok h → h ≡ placed_at kind len
joined_is kind len so_far h is =
    sym (same_value (placed_at kind len) h (passed (nat_lt 65_535 (so_far + len)) fault.LongBlock (Ok (placed_at kind len)) h is).1)

mark_is : (b : Bool) (len so_far : ℕ) (h : Header) → cond b (joins Mark len so_far) (Err fault.MarkWithData) ≡ Ok h → h ≡ placed_at Mark len
mark_is true len so_far h is = joined_is Mark len so_far h is
mark_is false len so_far h is = absurd (cc)

place_is : (kind : ChunkKind) (len so_far : ℕ) (is_open : Bool) (h : Header)
    → in_place kind len so_far is_open ≡ Ok h → h ≡ placed_at kind len
place_is Mark len so_far true h is = absurd (cc)
place_is Mark len so_far false h is = mark_is (nat_eq len 0) len so_far h is
place_is Whole len so_far true h is = absurd (cc)
place_is Whole len so_far false h is = joined_is Whole len so_far h is
place_is First len so_far true h is = absurd (cc)
place_is First len so_far false h is = joined_is First len so_far h is
place_is Middle len so_far true h is = joined_is Middle len so_far h is
place_is Middle len so_far false h is = absurd (cc)
place_is Last len so_far true h is = joined_is Last len so_far h is
place_is Last len so_far false h is = absurd (cc)

kind_is : (o : Option ChunkKind) (len so_far : ℕ) (is_open : Bool) (h : Header) → of_kind o len so_far is_open ≡ Ok h
    → (o ≡ Some h.kind) × (in_place h.kind len so_far is_open ≡ Ok (placed_at h.kind len))
kind_is None len so_far is_open h is = absurd (cc)
kind_is (Some kind) len so_far is_open h is =
    let same : h ≡ placed_at kind len = place_is kind len so_far is_open h is in
    let kinds : kind ≡ h.kind = sym (ap (λ (x : Header). x.kind) same) in (
      ap (λ (k : ChunkKind). Some k) kinds,
      subst (λ (k : ChunkKind). in_place k len so_far is_open ≡ Ok (placed_at k len)) kinds (is ∙ ap (λ (x : Header). Ok x) same),
    )

-- ---- the first chunk of bytes that break no rule

pub record IsChunk (at next : Between) (rest : List ℕ) : Type 0 where
  pub kind : ChunkKind
  pub content : List ℕ
  pub left : List ℕ
  pub spelled : rest ≡ (header_of (length content) at.previous (byte_of kind) ++ content) ++ left
  pub placed : in_place kind (length content) (length at.block) at.is_open ≡ Ok (placed_at kind (length content))
  pub done : after_data (with_data at content) kind ≡ Ok next
  pub follows : left ≡ drop (6 + len_of rest) rest

pub first_is : (at next : Between) (rest : List ℕ) → IsBytes rest → first_after at rest ≡ Ok next → IsChunk at next rest
first_is at next rest fits is =
    let header = take 6 rest in
    let behind = drop 6 rest in
    let p = passed (nat_lt (length rest) 6) fault.HeaderCutShort (header_after at header >>= data_after at behind) next is in
    let long : 6 ≤ length rest = grind (arith, nat_tests, p.0) in
    let s = step_passed (header_after at header) (data_after at behind) next p.1 in
    let h = s.0 in
    let q = passed (nat_lt (length behind) h.len) fault.DataCutShort (chunk_after at h.kind (take h.len behind)) next s.2 in
    let most : h.len ≤ length behind = grind (arith, nat_tests, q.0) in
    let whole = header_is at header h (is_bytes-take 6 rest long fits) (length-take-le 6 rest long) s.1 in
    let k = kind_is (chunk_kind whole.flags) h.len (length at.block) at.is_open h whole.placed in
    let byte : whole.flags ≡ byte_of h.kind = byte_is whole.flags h.kind k.0 in
    let content = take h.len behind in
    let left = drop h.len behind in
    let len : length content ≡ h.len = length-take-le h.len behind most in
    let said : h.len ≡ len_of rest = first_len at rest h s.1 in
    record {
      kind = h.kind;
      content = content;
      left = left;
      spelled = sym (take-append-drop 6 rest)
          ∙ ap (λ (l : List ℕ). header ++ l) (sym (take-append-drop h.len behind))
          ∙ sym (append_assoc header content left)
          ∙ ap (λ (l : List ℕ). (l ++ content) ++ left) whole.spelled
          ∙ ap (λ (flags : ℕ). (header_of h.len at.previous flags ++ content) ++ left) byte
          ∙ ap (λ (n : ℕ). (header_of n at.previous (byte_of h.kind) ++ content) ++ left) (sym len);
      placed = subst (λ (n : ℕ). in_place h.kind n (length at.block) at.is_open ≡ Ok (placed_at h.kind n)) (sym len) k.1;
      done = q.1;
      follows = drop-drop h.len 6 rest ∙ ap (λ (n : ℕ). drop (6 + n) rest) said;
    }
