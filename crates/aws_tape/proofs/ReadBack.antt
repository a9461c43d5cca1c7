-- What is written is read back.
use Rattle.std.proofs.Common.{◌≡◌, ℕ, ◌+◌, ◌<◌, ◌≤◌, ◌==◌, Bool, true, false, cond}
use Rattle.std.proofs.Common.{◌&&◌, not, nat_eq, nat_lt, nat_le, List, [], ◌∷◌, ◌++◌, length, take, drop, slice_index}
use Rattle.std.proofs.Common.{Ok, Err, Result, refl, sym, ap, subst, ◌∙◌, append_assoc, append-nil, add-zero, arith}
use Rattle.std.specs.List.{list_all}
use Rattle.std.proofs.lemmas.Bool.Decides.{nat_tests}
use Rattle.std.proofs.lemmas.List.{length-append, length-take-le, length-drop, take_at, drop_at, drop-drop, take_all, take-append-drop}
use Rattle.std.proofs.Math.Bool.{and-false}
use Rattle.std.proofs.lemmas.List.Concat.{flat_map-cons, flat_map-append}
use Rattle.byteorder.specs.Endian.{little_bytes}
use Rattle.byteorder.specs.Numbers.{little_number-reads_back}
use Rattle.device_port.specs.Packed.{image_of, offset_of}
use Rattle.device_port.proofs.Items.{offset_of-all}
use Rattle.tape_unit.specs.Item.{Item, tape_mark, block, content_of, is_item, packed, on_tape}
use Rattle.tape_unit.specs.Reel.{ReelState, bytes_of}
use Rattle.tape_unit.specs.Recording.{with_item, takes_item}
use Rattle.tape_unit.proofs.Spelled.{length-packed, short, some}
use Rattle.aws_tape.specs.declared.layout.Part.{Part}
use Rattle.aws_tape.specs.declared.image.TapeImage.{TapeImage}
use Rattle.aws_tape.specs.declared.chunk.Header.{Header}
use Rattle.aws_tape.specs.declared.chunk.ChunkKind.{ChunkKind}
use Rattle.aws_tape.specs.declared.chunk.ChunkKind.TheVariants.{Mark, Whole, First, Middle, Last}
use Rattle.aws_tape.specs.declared.fault.AwsError.{AwsError}
use Rattle.aws_tape.specs.declared.fault.AwsFault.{AwsFault}
use Rattle.aws_tape.specs.declared.fault.AwsFault.TheVariants as fault
use Rattle.aws_tape.specs.Chunk.{is_digit, is_compressed, chunk_kind, len_of, previous_of}
use Rattle.aws_tape.specs.Between.{Between}
use Rattle.aws_tape.specs.Reading.{joins, of_kind, header_after, with_data, with_chunk_part, block_ended, after_data, first_after, read_from, is_fake_tape}
use Rattle.aws_tape.specs.Layout.{count_before, own_count, bytes_in}
use Rattle.aws_tape.specs.Writing.{header_of, flags_of, chunks_of, is_split, item_image, items_image, last_length, last_len, common, saved, IsReadBack}
use Rattle.aws_tape.proofs.Images.{first_with, read_chunk, read_end}
use Rattle.aws_tape.proofs.Written.{bytes_in-cons}

same-true : (n : ℕ) → nat_eq n n ≡ true
same-true n = grind (arith, nat_tests)

len_of-header : (len previous flags : ℕ) (rest : List ℕ) → len < 65_536 → len_of (header_of len previous flags ++ rest) ≡ len
len_of-header len previous flags rest small =
    little_number-reads_back 2 len ((little_bytes 2 previous ++ flags ∷ 0 ∷ []) ++ rest) (omega arith)

previous_of-header : (len previous flags : ℕ) → previous < 65_536 → previous_of (header_of len previous flags) ≡ previous
previous_of-header len previous flags small = little_number-reads_back 2 previous (flags ∷ 0 ∷ []) (omega arith)

-- a header that was written is read by its kind
header_read : (at : Between) (len flags : ℕ) → len < 65_536 → at.previous < 65_536 → is_compressed flags ≡ false →
    header_after at (header_of len at.previous flags) ≡ of_kind (chunk_kind flags) len (length at.block) at.is_open
header_read at len flags small small-previous plain =
    let h = header_of len at.previous flags in
    let last = of_kind (chunk_kind flags) (len_of h) (length at.block) at.is_open in
    let known : nat_eq (previous_of h) at.previous ≡ true =
    ap (λ (n : ℕ). nat_eq n at.previous) (previous_of-header len at.previous flags small-previous) ∙ same-true at.previous in
    let next = cond (not (nat_eq (previous_of h) at.previous)) (Err fault.BadPrevious) last in
    ap (λ (b : Bool). cond b (Err fault.Compressed) next) plain
    ∙ ap (λ (b : Bool). cond (not b) (Err fault.BadPrevious) last) known
    ∙ ap (λ (n : ℕ). of_kind (chunk_kind flags) n (length at.block) at.is_open) (len_of-header len at.previous flags [] small)

-- ---- a chunk that was written

-- all that is left leads to the same
pub record Leads (image rest : List ℕ) (offset : ℕ) (at next : Between) : Type 0 where
  pub after : ℕ
  pub reads : read_from (length image) offset at image ≡ read_from (length rest) after next rest

chunk_leads : (at next : Between) (kind : ChunkKind) (len flags offset : ℕ) (bytes rest : List ℕ) → length bytes ≡ len → len < 65_536
    → at.previous < 65_536 → is_compressed flags ≡ false
    → of_kind (chunk_kind flags) len (length at.block) at.is_open ≡ Ok (record { kind = kind; len = len })
    → after_data (with_data at bytes) kind ≡ Ok next
    → Leads ((header_of len at.previous flags ++ bytes) ++ rest) rest offset at next
chunk_leads at next kind len flags offset bytes rest is small small-previous plain placed done =
    let h = header_of len at.previous flags in
    let image = (h ++ bytes) ++ rest in
    let behind = bytes ++ rest in
    let grouped : image ≡ h ++ behind = append_assoc h bytes rest in
    let header : Header = record { kind = kind; len = len } in
    let long : nat_lt (length behind) len ≡ false = grind (arith, nat_tests, length-append bytes rest, is) in
    let cut : Result Between AwsFault = Err fault.DataCutShort in
    let first : first_after at (h ++ behind) ≡ Ok next =
    first_with at (h ++ behind) header (omega arith) (header_read at len flags small small-previous plain ∙ placed)
    ∙ ap (λ (b : Bool). cond b cut (after_data (with_data at (take len behind)) kind)) long
    ∙ ap (λ (l : List ℕ). after_data (with_data at l) kind) (take_at bytes rest len is) ∙ done in
    let size : len_of (h ++ behind) ≡ len = len_of-header len at.previous flags behind small in
    let left : drop (6 + len_of (h ++ behind)) (h ++ behind) ≡ rest =
    ap (λ (n : ℕ). drop (6 + n) (h ++ behind)) size ∙ sym (drop-drop len 6 (h ++ behind)) ∙ drop_at bytes rest len is in
    record {
      after = offset + (6 + len_of (h ++ behind));
      reads = ap (λ (l : List ℕ). read_from (length l) offset at l) grouped
          ∙ read_chunk offset at next (h ++ behind) (omega arith) first
          ∙ ap (λ (l : List ℕ). read_from (length l) (offset + (6 + len_of (h ++ behind))) next l) left;
    }

leads_on : (image middle rest : List ℕ) (offset : ℕ) (at between next : Between) (a : Leads image middle offset at between)
    → Leads middle rest a.after between next → Leads image rest offset at next
leads_on image middle rest offset at between next a b = record { after = b.after; reads = a.reads ∙ b.reads }

-- ---- between two items, and inside a block

abbrev pub between : ReelState → List Part → ℕ → Between
between reel layout previous = record { reel = reel; is_open = false; block = []; layout = layout; previous = previous }

abbrev inside : ReelState → List Part → List ℕ → ℕ → Between
inside reel layout bytes previous = record { reel = reel; is_open = true; block = bytes; layout = layout; previous = previous }

abbrev known : Between → Result Between AwsFault
known at = Ok at

-- the layout with a part of the block that comes next
abbrev and_part : ReelState → List Part → ℕ → List Part
and_part reel layout len = layout ++ record { item = length reel.items; len = len } ∷ []

-- an item was read, with some layout
pub record Ends (image rest : List ℕ) (offset : ℕ) (at : Between) (reel : ReelState) (previous : ℕ) : Type 0 where
  pub layout : List Part
  pub leads : Leads image rest offset at (between reel layout previous)
  pub small : previous < 65_536

block_done : (at : Between) → 1 ≤ length at.block → takes_item at.reel (block at.block) ≡ true →
    block_ended at ≡ Ok (between (with_item at.reel (block at.block)) at.layout at.previous)
block_done at least room =
    let x = block at.block in
    let some-bytes : nat_eq (length at.block) 0 ≡ false = grind (arith, nat_tests, least) in
    let full : Result Between AwsFault = Err fault.TapeFull in
    let empty : Result Between AwsFault = Err fault.EmptyBlock in
    let done : Result Between AwsFault = Ok (between (with_item at.reel x) at.layout at.previous) in
    ap (λ (b : Bool). cond b empty (cond (not (takes_item at.reel x)) full done)) some-bytes
    ∙ ap (λ (b : Bool). cond (not b) full done) room

joined : (kind : ChunkKind) (len so_far : ℕ) → so_far + len ≤ 65_535 → joins kind len so_far ≡ Ok (record { kind = kind; len = len })
joined kind len so_far few =
    let fits : nat_lt 65_535 (so_far + len) ≡ false = grind (arith, nat_tests, few) in
    let long : Result Header AwsFault = Err fault.LongBlock in
    ap (λ (b : Bool). cond b long (Ok (record { kind = kind; len = len }))) fits

mark_ends : (reel : ReelState) (layout : List Part) (previous offset : ℕ) (rest : List ℕ) → previous < 65_536 → takes_item reel tape_mark ≡ true
    → Ends (header_of 0 previous 0x40 ++ rest) rest offset (between reel layout previous) (with_item reel tape_mark) 0
mark_ends reel layout previous offset rest small room =
    let at = between reel layout previous in
    let next = between (with_item reel tape_mark) layout 0 in
    let full : Result Between AwsFault = Err fault.TapeFull in
    record {
      layout = layout;
      leads = chunk_leads at next Mark 0 0x40 offset [] rest refl (omega arith) small refl refl
          (ap (λ (b : Bool). cond (not b) full (Ok next)) room);
      small = omega arith;
    }

whole_ends : (reel : ReelState) (layout : List Part) (previous offset : ℕ) (bytes rest : List ℕ) → previous < 65_536
    → 1 ≤ length bytes → length bytes ≤ 65_535 → takes_item reel (block bytes) ≡ true
    → Ends ((header_of (length bytes) previous 0xA0 ++ bytes) ++ rest) rest offset (between reel layout previous)
    (with_item reel (block bytes)) (length bytes)
whole_ends reel layout previous offset bytes rest small least most room =
    let at = between reel layout previous in
    let next = between (with_item reel (block bytes)) layout (length bytes) in
    record {
      layout = layout;
      leads = chunk_leads at next Whole (length bytes) 0xA0 offset bytes rest refl (omega (arith, most)) small refl
          (joined Whole (length bytes) 0 (omega (arith, most))) (block_done (with_data at bytes) least room);
      small = omega (arith, most);
    }

-- ---- the chunks of a block that has several

last_done : (reel : ReelState) (layout : List Part) (so_far bytes : List ℕ) (previous n : ℕ) → length bytes ≡ n
    → 1 ≤ length (so_far ++ bytes) → takes_item reel (block (so_far ++ bytes)) ≡ true
    → after_data (with_data (inside reel layout so_far previous) bytes) Last
    ≡ Ok (between (with_item reel (block (so_far ++ bytes))) (and_part reel layout n) n)
last_done reel layout so_far bytes previous n len least room =
    block_done (with_chunk_part (with_data (inside reel layout so_far previous) bytes)) least room
    ∙ ap (λ (m : ℕ). known (between (with_item reel (block (so_far ++ bytes))) (and_part reel layout m) m)) len

pub flags-more : (first : ℕ) (part : Part) (parts : List Part) → flags_of first (part ∷ parts) ≡ first
flags-more first part parts =
    let more : nat_eq (length (part ∷ parts)) 0 ≡ false = grind (arith, nat_tests) in
    ap (λ (b : Bool). first + cond b 0x20 0) more ∙ add-zero first

parts_end : (parts : List Part) (part : Part) (reel : ReelState) (layout : List Part) (so_far : List ℕ) (previous offset : ℕ) (bytes rest : List ℕ)
    → bytes_in (part ∷ parts) ≡ length bytes → length so_far + length bytes ≤ 65_535 → 1 ≤ length (so_far ++ bytes) → previous < 65_536
    → takes_item reel (block (so_far ++ bytes)) ≡ true
    → Ends (chunks_of previous 0 (part ∷ parts) bytes ++ rest) rest offset (inside reel layout so_far previous)
    (with_item reel (block (so_far ++ bytes))) (last_length previous (part ∷ parts))
unfolding chunks_of last_length
parts_end [] part reel layout so_far previous offset bytes rest sum few least small room =
    let n = part.len in
    let at = inside reel layout so_far previous in
    let next = between (with_item reel (block (so_far ++ bytes))) (and_part reel layout n) n in
    let len : length bytes ≡ n = omega (arith, bytes_in-cons part [], sum) in
    let all : take n bytes ≡ bytes = take_all n bytes (omega (arith, len)) in
    let h = header_of n previous 0x20 in
    let same : ((h ++ take n bytes) ++ []) ++ rest ≡ (h ++ bytes) ++ rest =
    ap (λ (l : List ℕ). l ++ rest) (append-nil (h ++ take n bytes) ∙ ap (λ (l : List ℕ). h ++ l) all) in
    let leads = chunk_leads at next Last n 0x20 offset bytes rest len (omega (arith, len, few)) small refl
    (joined Last n (length so_far) (omega (arith, len, few))) (last_done reel layout so_far bytes previous n len least room) in
    record {
      layout = and_part reel layout n;
      leads = subst (λ (l : List ℕ). Leads l rest offset at next) (sym same) leads;
      small = omega (arith, len, few);
    }
parts_end (second ∷ parts) part reel layout so_far previous offset bytes rest sum few least small room =
    let n = part.len in
    let front = take n bytes in
    let after = drop n bytes in
    let sum-is = bytes_in-cons part (second ∷ parts) in
    let len : length front ≡ n = length-take-le n bytes (omega (arith, sum-is, sum)) in
    let left : length after + n ≡ length bytes = omega (arith, length-drop n bytes, sum-is, sum) in
    let whole : (so_far ++ front) ++ after ≡ so_far ++ bytes =
    append_assoc so_far front after ∙ ap (λ (l : List ℕ). so_far ++ l) (take-append-drop n bytes) in
    let at = inside reel layout so_far previous in
    let next = inside reel (and_part reel layout n) (so_far ++ front) n in
    let middle = chunks_of n 0 (second ∷ parts) after ++ rest in
    let done = ap (λ (m : ℕ). known (inside reel (and_part reel layout m) (so_far ++ front) m)) len in
    let first = chunk_leads at next Middle n 0 offset front middle len (omega (arith, left, few)) small refl
    (joined Middle n (length so_far) (omega (arith, left, few))) done in
    let h : ℕ → List ℕ = λ (flags : ℕ). header_of n previous flags in
    let same : ((h (flags_of 0 (second ∷ parts)) ++ front) ++ chunks_of n 0 (second ∷ parts) after) ++ rest ≡ (h 0 ++ front) ++ middle =
    append_assoc (h (flags_of 0 (second ∷ parts)) ++ front) (chunks_of n 0 (second ∷ parts) after) rest
    ∙ ap (λ (flags : ℕ). (h flags ++ front) ++ middle) (flags-more 0 second parts) in
    let others = parts_end parts second reel (and_part reel layout n) (so_far ++ front) n first.after after rest
    (omega (arith, sum-is, sum, left)) (omega (arith, length-append so_far front, len, left, few)) (omega (arith, ap length whole, least))
    (omega (arith, left, few)) (ap (λ (l : List ℕ). takes_item reel (block l)) whole ∙ room) in
    let reached = subst (λ (l : List ℕ). Leads middle rest first.after next (between (with_item reel (block l)) others.layout (last_length n (second ∷ parts))))
    whole others.leads in
    record {
      layout = others.layout;
      leads = subst (λ (l : List ℕ). Leads l rest offset at (between (with_item reel (block (so_far ++ bytes))) others.layout (last_length n (second ∷ parts))))
          (sym same)
          (leads_on ((h 0 ++ front) ++ middle) middle rest offset at next _ first reached);
      small = others.small;
    }

-- ---- items

pub both : (a b : Bool) → (a && b) ≡ true → (a ≡ true) × (b ≡ true)
both true b h = (refl, h)
both false b h = absurd (cc)

split_ends : (own : List Part) (reel : ReelState) (layout : List Part) (previous offset : ℕ) (bytes rest : List ℕ) → previous < 65_536
    → 1 ≤ length bytes → length bytes ≤ 65_535 → takes_item reel (block bytes) ≡ true → is_split own bytes ≡ true
    → Ends (chunks_of previous 0x80 own bytes ++ rest) rest offset (between reel layout previous)
    (with_item reel (block bytes)) (last_length previous own)
unfolding chunks_of last_length
split_ends [] reel layout previous offset bytes rest small least most room split =
    let several = (both (nat_lt 1 (length {A = Part} [])) (bytes_in [] == length bytes) split).0 in
    absurd (cc)
split_ends (part ∷ []) reel layout previous offset bytes rest small least most room split =
    let several = (both (nat_lt 1 (length (part ∷ []))) (bytes_in (part ∷ []) == length bytes) split).0 in
    absurd (cc)
split_ends (part ∷ second ∷ parts) reel layout previous offset bytes rest small least most room split =
    let n = part.len in
    let sum : bytes_in (part ∷ second ∷ parts) ≡ length bytes =
    grind (arith, nat_tests, (both (nat_lt 1 (length (part ∷ second ∷ parts))) (bytes_in (part ∷ second ∷ parts) == length bytes) split).1) in
    let front = take n bytes in
    let after = drop n bytes in
    let sum-is = bytes_in-cons part (second ∷ parts) in
    let len : length front ≡ n = length-take-le n bytes (omega (arith, sum-is, sum)) in
    let left : length after + n ≡ length bytes = omega (arith, length-drop n bytes, sum-is, sum) in
    let whole : front ++ after ≡ bytes = take-append-drop n bytes in
    let at = between reel layout previous in
    let next = inside reel (and_part reel layout n) front n in
    let middle = chunks_of n 0 (second ∷ parts) after ++ rest in
    let done = ap (λ (m : ℕ). known (inside reel (and_part reel layout m) front m)) len in
    let first = chunk_leads at next First n 0x80 offset front middle len (omega (arith, left, most)) small refl
    (joined First n 0 (omega (arith, left, most))) done in
    let h : ℕ → List ℕ = λ (flags : ℕ). header_of n previous flags in
    let same : ((h (flags_of 0x80 (second ∷ parts)) ++ front) ++ chunks_of n 0 (second ∷ parts) after) ++ rest ≡ (h 0x80 ++ front) ++ middle =
    append_assoc (h (flags_of 0x80 (second ∷ parts)) ++ front) (chunks_of n 0 (second ∷ parts) after) rest
    ∙ ap (λ (flags : ℕ). (h flags ++ front) ++ middle) (flags-more 0x80 second parts) in
    let others = parts_end parts second reel (and_part reel layout n) front n first.after after rest
    (omega (arith, sum-is, sum, left)) (omega (arith, len, left, most)) (omega (arith, ap length whole, least))
    (omega (arith, left, most)) (ap (λ (l : List ℕ). takes_item reel (block l)) whole ∙ room) in
    let reached = subst (λ (l : List ℕ). Leads middle rest first.after next (between (with_item reel (block l)) others.layout (last_length n (second ∷ parts))))
    whole others.leads in
    record {
      layout = others.layout;
      leads = subst (λ (l : List ℕ). Leads l rest offset at (between (with_item reel (block bytes)) others.layout (last_length n (second ∷ parts))))
          (sym same)
          (leads_on ((h 0x80 ++ front) ++ middle) middle rest offset at next _ first reached);
      small = others.small;
    }

block_ends : (b : Bool) (own : List Part) (reel : ReelState) (layout : List Part) (previous offset : ℕ) (bytes rest : List ℕ)
    → is_split own bytes ≡ b → previous < 65_536 → 1 ≤ length bytes → length bytes ≤ 65_535 → takes_item reel (block bytes) ≡ true
    → Ends (cond b (chunks_of previous 0x80 own bytes) (header_of (length bytes) previous 0xA0 ++ bytes) ++ rest) rest offset
    (between reel layout previous) (with_item reel (block bytes)) (cond b (last_length previous own) (length bytes))
block_ends true own reel layout previous offset bytes rest split small least most room =
    split_ends own reel layout previous offset bytes rest small least most room split
block_ends false own reel layout previous offset bytes rest split small least most room =
    whole_ends reel layout previous offset bytes rest small least most room

item_ends : (x : Item) (own : List Part) (reel : ReelState) (layout : List Part) (previous offset : ℕ) (rest : List ℕ)
    → is_item x ≡ true → previous < 65_536 → takes_item reel x ≡ true
    → Ends (item_image previous own x ++ rest) rest offset (between reel layout previous) (with_item reel x) (last_len previous own x)
item_ends tape_mark own reel layout previous offset rest fits small room = mark_ends reel layout previous offset rest small room
item_ends (block bytes) own reel layout previous offset rest fits small room =
    block_ends (is_split own bytes) own reel layout previous offset bytes rest refl small (some bytes fits) (short (block bytes) fits) room

room_for : (reel : ReelState) (x : Item) (items : List Item) → bytes_of (reel.items ++ x ∷ items) ≤ reel.size → takes_item reel x ≡ true
room_for reel x items fit =
    let there = offset_of-all on_tape reel.items (length reel.items) refl in
    let whole = ap length (flat_map-append packed reel.items (x ∷ items)) in
    let parts = length-append (image_of on_tape reel.items) (image_of on_tape (x ∷ items)) in
    let first = ap length (flat_map-cons packed x items) in
    let more = length-append (packed x) (image_of on_tape items) in
    let fits : offset_of on_tape reel.items (length reel.items) + (4 + length (content_of x)) ≤ reel.size =
    omega (arith, there, whole, parts, first, more, length-packed x, fit) in
    grind (arith, nat_tests, fits)

abbrev image_of_tape : ReelState → List Part → Result TapeImage AwsError
image_of_tape reel layout = Ok (record { tape = reel; layout = layout })

-- the rest of an image was read, with some layout
record AllRead (image : List ℕ) (offset : ℕ) (at : Between) (reel : ReelState) : Type 0 where
  layout : List Part
  reads : read_from (length image) offset at image ≡ Ok (record { tape = reel; layout = layout })

items_read : (items : List Item) (parts : List Part) (place : ℕ) (reel : ReelState) (layout : List Part) (previous offset : ℕ)
    → list_all is_item items ≡ true → previous < 65_536 → bytes_of (reel.items ++ items) ≤ reel.size
    → AllRead (items_image parts place previous items) offset (between reel layout previous)
    (record { size = reel.size; items = reel.items ++ items })
unfolding items_image
items_read [] parts place reel layout previous offset fits small fit = record {
  layout = layout;
  reads = read_end offset (between reel layout previous) [] refl
      ∙ ap (λ (l : List Item). image_of_tape (record { size = reel.size; items = l }) layout) (sym (append-nil reel.items));
}
items_read (x ∷ items) parts place reel layout previous offset fits small fit =
    let e = both (is_item x) (list_all is_item items) fits in
    let own = take (own_count place parts) parts in
    let rest = items_image (drop (own_count place parts) parts) (place + 1) (last_len previous own x) items in
    let first = item_ends x own reel layout previous offset rest e.0 small (room_for reel x items fit) in
    let grouped : (reel.items ++ x ∷ []) ++ items ≡ reel.items ++ x ∷ items = append_assoc reel.items (x ∷ []) items in
    let others = items_read items (drop (own_count place parts) parts) (place + 1) (with_item reel x) first.layout (last_len previous own x)
    first.leads.after e.1 first.small (omega (arith, ap bytes_of grouped, fit)) in
    record {
      layout = others.layout;
      reads = first.leads.reads ∙ others.reads
          ∙ ap (λ (l : List Item). image_of_tape (record { size = reel.size; items = l }) others.layout) grouped;
    }

-- ---- an image that is written is no FakeTape file

no_digits : (a b c d e : Bool) → (a && (b && (c && (d && (e && false))))) ≡ false
no_digits false b c d e = refl
no_digits true false c d e = refl
no_digits true true false d e = refl
no_digits true true true false e = refl
no_digits true true true true false = refl
no_digits true true true true true = refl

header_first : (len previous flags : ℕ) (rest : List ℕ) → is_fake_tape (header_of len previous flags ++ rest) ≡ false
header_first len previous flags rest =
    let h = header_of len previous flags in
    ap (λ (b : Bool). nat_le 12 (length (h ++ rest)) && b)
    (no_digits (is_digit (slice_index h 0)) (is_digit (slice_index h 1)) (is_digit (slice_index h 2)) (is_digit (slice_index h 3)) (is_digit flags))
    ∙ and-false (nat_le 12 (length (h ++ rest)))

plain_block : (b : Bool) (own : List Part) (previous : ℕ) (bytes rest : List ℕ) → is_split own bytes ≡ b →
    is_fake_tape (cond b (chunks_of previous 0x80 own bytes) (header_of (length bytes) previous 0xA0 ++ bytes) ++ rest) ≡ false
unfolding chunks_of
plain_block true [] previous bytes rest split =
    let several = (both (nat_lt 1 (length {A = Part} [])) (bytes_in [] == length bytes) split).0 in
    absurd (cc)
plain_block true (part ∷ parts) previous bytes rest split =
    header_first part.len previous (flags_of 0x80 parts) ((take part.len bytes ++ chunks_of part.len 0 parts (drop part.len bytes)) ++ rest)
plain_block false own previous bytes rest split = header_first (length bytes) previous 0xA0 (bytes ++ rest)

plain_image : (items : List Item) (parts : List Part) (place previous : ℕ) → is_fake_tape (items_image parts place previous items) ≡ false
unfolding items_image
plain_image [] parts place previous = refl
plain_image (tape_mark ∷ items) parts place previous = header_first 0 previous 0x40 _
plain_image (block bytes ∷ items) parts place previous =
    let own = take (own_count place parts) parts in
    plain_block (is_split own bytes) own previous bytes
    (items_image (drop (own_count place parts) parts) (place + 1) (last_len previous own (block bytes)) items) refl

-- THE LAW
pub read_back : (layout : List Part) (mounted now : List Item) → list_all is_item now ≡ true → IsReadBack now (saved layout mounted now)
read_back layout mounted now fits size fit =
    let parts = take (count_before (common mounted now) layout) layout in
    let all = items_read now parts 0 (record { size = size; items = [] }) [] 0 0 fits (omega arith) fit in
    let fake : Result TapeImage AwsError = Err (record { fault = fault.FakeTape; offset = 0 }) in
    let image = saved layout mounted now in (
      all.layout,
      ap (λ (b : Bool). cond b fake (read_from (length image) 0 (between (record { size = size; items = [] }) [] 0) image))
          (plain_image now parts 0 0)
          ∙ all.reads,
    )
