-- Where the data of a chain lies in storage (Principles of Operation, chapter 15, "Designation of Storage Area", "Data
-- Chaining" and "CCW Indirect Data Addressing").
use Rattle.std.specs.Prelude.{◌≡◌, ℕ, zero, suc, ◌+◌, ◌-◌, ◌/◌, ◌%◌, ◌^◌, ◌==◌, nat_lt, min, Bool, true, false, not, ◌&&◌, ◌||◌}
use Rattle.std.specs.Prelude.{if◌then◌else◌, List, [], ◌∷◌, ◌++◌, MatchResult, Result, Ok, Err}
use Rattle.io_area.specs.Storage.{Storage, lies_in, bytes_at}
use Rattle.io_images.specs.Images.{word_of}
use Rattle.io_images.specs.declared.ccw.Ccw.{Ccw}
use Rattle.device_port.specs.Moves.{segment_lies}
use Rattle.device_port.specs.declared.chain.Segment.{Segment}
use Rattle.device_port.specs.declared.kind.Flow.{Flow}
use Rattle.device_port.specs.declared.kind.Flow.TheVariants.{None as NoFlow, Out, Input, Back}
use Rattle.ccw_programs.specs.declared.fetch.Link.{Link}
use Rattle.ccw_programs.specs.declared.rule.FailedCcw.{FailedCcw}
use Rattle.ccw_programs.specs.declared.rule.Rule.{Rule}
use Rattle.ccw_programs.specs.declared.rule.Rule.TheVariants.{DataOutside, ListBackward, ListMisaligned, WordOutside, WordReserved}
use Rattle.ccw_programs.specs.declared.rule.Rule.TheVariants.{WordMisaligned, WordDataOutside}
use Rattle.ccw_programs.specs.Links.{skips, is_indirect}

-- a word of an address list
abbrev pub word_at : Storage → ℕ → ℕ
word_at m at = word_of (bytes_at m at 4)

-- the bytes from an address to the next multiple of 2,048
abbrev pub room_after : ℕ → ℕ
room_after address = 2048 - address % 2048

-- how many words serve `count` bytes, the first of which lies at an address
abbrev pub words_needed : ℕ → ℕ → ℕ
words_needed first count = (first % 2048 + count + 2047) / 2048

-- a word may be used: it lies in storage, its bit 0 is off, a further one is a multiple of 2,048, and
-- its bytes lie in storage
abbrev pub is_usable : Storage → Bool → ℕ → ℕ → Bool
is_usable m is_first at count =
    lies_in m at 4 && nat_lt (word_at m at) (2 ^ 31) && (is_first || (word_at m at % 2048 == 0))
    && lies_in m (word_at m at) (min count (room_after (word_at m at)))

-- the rule that a word breaks which may not be used, the first in this order
abbrev pub word_rule : Storage → Bool → ℕ → Rule
word_rule m is_first at =
    if not (lies_in m at 4) then WordOutside at
    else (if not (nat_lt (word_at m at) (2 ^ 31)) then WordReserved at
    else (if is_first || (word_at m at % 2048 == 0) then WordDataOutside at else WordMisaligned at))

-- the parts after one more before them
abbrev pub with_part : Segment → Result (List Segment) Rule → Result (List Segment) Rule
with_part part (Err rule) = Err rule
with_part part (Ok parts) = Ok (part ∷ parts)

-- parts, unless this rule is broken
abbrev pub only_if : Bool → Rule → Result (List Segment) Rule → Result (List Segment) Rule
only_if true rule parts = parts
only_if false rule parts = Err rule

-- the parts of `count` bytes that `words` words from an address on give, or the rule that the first unusable word
-- breaks
unfoldable pub parts_from : Storage → Bool → Bool → ℕ → ℕ → ℕ → Result (List Segment) Rule
parts_from m skip is_first at zero count = Ok []
parts_from m skip is_first at (suc words) count =
    only_if (is_usable m is_first at count) (word_rule m is_first at)
    (with_part (record { address = word_at m at; count = min count (room_after (word_at m at)); skip = skip })
    (parts_from m skip false (at + 4) words (count - room_after (word_at m at))))

-- the parts of a CCW whose address is that of a list of words
abbrev pub indirect_parts : Storage → Ccw → Result (List Segment) Rule
indirect_parts m ccw =
    only_if (ccw.address % 4 == 0) ListMisaligned
    (only_if (lies_in m ccw.address 4) (WordOutside ccw.address)
    (parts_from m (skips ccw) true ccw.address (words_needed (word_at m ccw.address) ccw.count) ccw.count))

-- the one part of another CCW
abbrev pub part_of : Ccw → Segment
part_of ccw = record { address = ccw.address; count = ccw.count; skip = skips ccw }

-- the part of a CCW without indirect addressing
abbrev pub direct_parts : Flow → Storage → Ccw → Result (List Segment) Rule
direct_parts flow m ccw = only_if (segment_lies flow m (part_of ccw)) DataOutside (Ok (part_of ccw ∷ []))

-- THE DATA AREA of a CCW: its parts in storage, in order, or the rule that it breaks. Where no data flows nothing is
-- looked at.
abbrev pub parts_of : Flow → Storage → Ccw → Result (List Segment) Rule
parts_of NoFlow m ccw = Ok []
parts_of Out m ccw = if is_indirect ccw then indirect_parts m ccw else direct_parts Out m ccw
parts_of Input m ccw = if is_indirect ccw then indirect_parts m ccw else direct_parts Input m ccw
parts_of Back m ccw = if is_indirect ccw then Err ListBackward else direct_parts Back m ccw

-- the parts of a whole chain, or its first CCW that failed, with the rule that its data area breaks
pub data Areas : Type 0 where
  Parts : List Segment → Areas
  Bad : FailedCcw → Areas

-- the parts of a CCW, and then those of the CCWs after it; the first failed CCW decides
abbrev pub areas_joined : ℕ → Result (List Segment) Rule → Areas → Areas
areas_joined at (Err rule) rest = Bad (record { at = at; rule = rule })
areas_joined at (Ok parts) (Parts more) = Parts (parts ++ more)
areas_joined at (Ok parts) (Bad other) = Bad other

-- the data areas of all CCWs of a chain
abbrev pub areas : Flow → Storage → List Link → Areas
areas flow m [] = Parts []
areas flow m (l ∷ ls) = areas_joined l.at (parts_of flow m l.ccw) (areas flow m ls)

-- a list of parts with more parts before it
abbrev pub parts_after : List Segment → Result (List Segment) Rule → Result (List Segment) Rule
parts_after old (Err rule) = Err rule
parts_after old (Ok parts) = Ok (old ++ parts)

-- the parts were added after others, or this rule is broken
abbrev pub AddsParts : List Segment → Result (List Segment) Rule → Result (Unit {0}) Rule → List Segment → Type 0
AddsParts old parts result new = MatchResult result (λ _. parts_after old parts ≡ Ok new) (λ rule. parts_after old parts ≡ Err rule)

-- whole areas with others before them
abbrev pub preceded : List Segment → Areas → Areas
preceded old (Parts parts) = Parts (old ++ parts)
preceded old (Bad refusal) = Bad refusal
