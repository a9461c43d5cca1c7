-- The CCWs that one command fetches (Principles of Operation, chapter 15).
use Rattle.std.specs.Prelude.{◌≡◌, ℕ, zero, suc, ◌+◌, ◌-◌, ◌%◌, ◌==◌, nat_lt, ◌<◌, ◌≤◌, ◌^◌, Bool, true, false, not, ◌&&◌, if◌then◌else◌}
use Rattle.std.specs.Prelude.{List, [], ◌∷◌, length, sum_by}
use Rattle.io_area.specs.Storage.{Storage, lies_in, bytes_at}
use Rattle.io_images.specs.Bits.{is_on, is_off, chain_data_bit, chain_command_bit, suppress_length_bit, skip_bit, indirect_bit}
use Rattle.io_images.specs.Bits.{unusable_flags}
use Rattle.io_images.specs.Images.{ccw_of}
use Rattle.io_images.specs.declared.ccw.Ccw.{Ccw}
use Rattle.ccw_programs.specs.declared.fetch.Link.{Link}
use Rattle.ccw_programs.specs.declared.fetch.First.{First}
use Rattle.ccw_programs.specs.declared.fetch.First.TheVariants.{Single, Chained, Failed}
use Rattle.ccw_programs.specs.declared.fetch.Fetch.{Fetch}
use Rattle.ccw_programs.specs.declared.fetch.Fetch.TheVariants.{Refused, Transfer, More, Last}
use Rattle.ccw_programs.specs.declared.rule.FailedCcw.{FailedCcw}
use Rattle.ccw_programs.specs.declared.rule.Rule.{Rule}
use Rattle.ccw_programs.specs.declared.rule.Rule.TheVariants.{CcwMisaligned, CcwOutside, TransferMisaligned, TransferMisplaced, NoCommand}
use Rattle.ccw_programs.specs.declared.rule.Rule.TheVariants.{FlagsReserved, CountZero, ChainTooLong, FetchLimit}

-- flags of a CCW
abbrev pub chains_data : Ccw → Bool
chains_data ccw = is_on chain_data_bit ccw.flags.0

-- the CC flag: another command follows
abbrev pub chains_command : Ccw → Bool
chains_command ccw = is_on chain_command_bit ccw.flags.0

-- the SLI flag: incorrect length is not reported
abbrev pub suppresses_length : Ccw → Bool
suppresses_length ccw = is_on suppress_length_bit ccw.flags.0

-- the SKIP flag: data is not put into storage
abbrev pub skips : Ccw → Bool
skips ccw = is_on skip_bit ccw.flags.0

-- the IDA flag: the address is that of a list of indirect words
abbrev pub is_indirect : Ccw → Bool
is_indirect ccw = is_on indirect_bit ccw.flags.0

-- how many values the low four bits of a command have ("Command Code")
abbrev pub low_values : ℕ
low_values = 0x10

-- the low four bits of a command
abbrev pub low_bits : Ccw → ℕ
low_bits ccw = ccw.command % low_values

-- the low four bits of a transfer in channel ("Transfer in Channel"), and those of no command
abbrev pub transfer_bits : ℕ
transfer_bits = 0x08

-- the low bits of a command that is invalid
abbrev pub invalid_bits : ℕ
invalid_bits = 0x00

-- the CCW is a TIC
abbrev pub is_transfer : Ccw → Bool
is_transfer ccw = low_bits ccw == transfer_bits

-- a CCW that is no transfer may be at this position in its chain: the first one has a command that is valid in its low
-- bits, the reserved flags are off, it has a count, and there are at most 16
abbrev pub is_allowed : ℕ → Ccw → Bool
is_allowed place ccw =
    not ((place == 0) && (low_bits ccw == invalid_bits)) && is_off unusable_flags ccw.flags.0 && not (ccw.count == 0) && nat_lt place 16

-- what a CCW is at this position; `may_transfer` says whether it may be a transfer
abbrev pub kind_of_fetch : Bool → ℕ → Ccw → Fetch
kind_of_fetch may_transfer place ccw =
    if is_transfer ccw then (if may_transfer && (ccw.address % 8 == 0) then Transfer ccw.address else Refused)
    else (if is_allowed place ccw then (if chains_data ccw then More ccw else Last ccw) else Refused)

-- what is fetched from an address
abbrev pub fetch_at : Storage → Bool → ℕ → ℕ → Fetch
fetch_at m may_transfer place at =
    if (at % 8 == 0) && lies_in m at 8 then kind_of_fetch may_transfer place (ccw_of (bytes_at m at 8)) else Refused

-- WHICH RULE a CCW at this position in its chain breaks: the first in the order below. `may_transfer` says whether it may
-- be a transfer
abbrev pub rule_of_kind : Bool → ℕ → Ccw → Rule
rule_of_kind may_transfer place ccw =
    if is_transfer ccw then (if may_transfer then TransferMisaligned else TransferMisplaced)
    else (if (place == 0) && (low_bits ccw == invalid_bits) then NoCommand
    else (if not (is_off unusable_flags ccw.flags.0) then FlagsReserved
    else (if ccw.count == 0 then CountZero else ChainTooLong)))

-- WHICH RULE a fetch from an address breaks: that of the address, or else that of the CCW there
abbrev pub rule_at : Storage → Bool → ℕ → ℕ → Rule
rule_at m may_transfer place at =
    if not (at % 8 == 0) then CcwMisaligned
    else (if lies_in m at 8 then rule_of_kind may_transfer place (ccw_of (bytes_at m at 8)) else CcwOutside)

-- the CCWs of a command and the number of fetches after them; or the CCWs before the one that failed, and that one
-- with the rule that it breaks
pub data Fetched : Type 0 where
  Whole : List Link → ℕ → Fetched
  Broken : List Link → FailedCcw → Fetched

-- the chain is broken by its first CCW, at this address
abbrev pub broken_at : ℕ → Rule → Fetched
broken_at at rule = Broken [] (record { at = at; rule = rule })

-- a chain with one more CCW before it
abbrev pub after_ccw : Link → Fetched → Fetched
after_ccw link (Whole links fetches) = Whole (link ∷ links) fetches
after_ccw link (Broken links refusal) = Broken (link ∷ links) refusal

-- THE CHAIN FROM ONE FETCH ON, at this address: a rejected fetch breaks it by this rule, a transfer leads to its address,
-- a CCW that chains data comes before the CCWs from 8 bytes later on, and a last CCW ends it. `rest` gives the chain
-- from a next fetch on: whether that may be a transfer, its position in the chain and its address
abbrev pub chain_by : Fetch → Rule → ℕ → ℕ → ℕ → (Bool → ℕ → ℕ → Fetched) → Fetched
chain_by Refused rule at place fetches rest = broken_at at rule
chain_by (Transfer to) rule at place fetches rest = rest false place to
chain_by (More ccw) rule at place fetches rest = after_ccw (record { at = at; ccw = ccw }) (rest true (suc place) (at + 8))
chain_by (Last ccw) rule at place fetches rest = Whole (record { at = at; ccw = ccw } ∷ []) fetches

-- the chain from an address on, if `left` of 4,096 fetches are left
unfoldable pub chain_within : Storage → ℕ → Bool → ℕ → ℕ → Fetched
chain_within m zero may_transfer place at = broken_at at FetchLimit
chain_within m (suc left) may_transfer place at =
    chain_by (fetch_at m may_transfer place at) (rule_at m may_transfer place at) at place (4096 - left)
    (λ may next to. chain_within m left may next to)

-- THE CHAIN that one command fetches from an address, after a number of fetches: a transfer may not be the first CCW
-- of all
abbrev pub chain : Storage → ℕ → ℕ → Fetched
chain m at fetches = chain_within m (4096 - fetches) (not (fetches == 0)) 0 at

-- the rest of a chain after its first CCW, which chains data, after a number of fetches
abbrev pub chained : Storage → Link → ℕ → Fetched
chained m link fetches = after_ccw link (chain_within m (4096 - fetches) true 1 (link.at + 8))

-- a chain with more CCWs before it
abbrev pub behind_all : List Link → Fetched → Fetched
behind_all [] c = c
behind_all (l ∷ ls) c = after_ccw l (behind_all ls c)

-- the rest of a chain after the CCWs that were fetched, from an address on; the Boolean says whether a transfer may
-- come next
abbrev pub fetched_on : Storage → List Link → ℕ → Bool → ℕ → Fetched
fetched_on m links fetches may_transfer at = behind_all links (chain_within m (4096 - fetches) may_transfer (length links) at)

-- how a chain begins
abbrev pub ChainBegins : Storage → First → Fetched → Type 0
ChainBegins m (Single link fetches) whole = whole ≡ Whole (link ∷ []) fetches
ChainBegins m (Chained link fetches) whole = whole ≡ chained m link fetches
ChainBegins m (Failed at) whole = (rule : Rule) × (whole ≡ broken_at at rule)

-- the bytes that the CCWs of a chain count
abbrev pub total_count : List Link → ℕ
total_count links = sum_by (λ l. l.ccw.count) links

-- what a fetch that is not rejected shows: the address is in storage, and a CCW has room in its chain
abbrev pub Tells : Fetch → ℕ → ℕ → Type 0
Tells Refused place at = Unit {0}
Tells (Transfer to) place at = (at + 8 ≤ 2 ^ 24) × (to < 2 ^ 24)
Tells (More ccw) place at = (at + 8 ≤ 2 ^ 24) × (place < 16) × (1 ≤ ccw.count)
Tells (Last ccw) place at = (at + 8 ≤ 2 ^ 24) × (place < 16) × (1 ≤ ccw.count)

-- what the kind of a fetch shows: a TIC leads to an address of 24 bits, and any other CCW counts a byte and has room in its chain
abbrev pub TellsKind : Fetch → ℕ → Type 0
TellsKind Refused place = Unit {0}
TellsKind (Transfer to) place = to < 2 ^ 24
TellsKind (More ccw) place = (place < 16) × (1 ≤ ccw.count)
TellsKind (Last ccw) place = (place < 16) × (1 ≤ ccw.count)

-- what is known of each CCW of a chain: it lies in storage, and it counts a byte
pub record Sound (link : Link) : Type 0 where
  pub in_storage : link.at + 8 ≤ 2 ^ 24
  pub counted : 1 ≤ link.ccw.count

-- a first fetch is sound: its CCW is, and it used at most 4,096 fetches
abbrev pub IsSound : First → Type 0
IsSound (Single link fetches) = Sound link × (fetches ≤ 4096)
IsSound (Chained link fetches) = Sound link × (fetches ≤ 4096)
IsSound (Failed at) = Unit {0}
