-- ONE LINE: what it says by its words alone, or its first fault, Words or Number (profile). One rule for each kind of line.
use Rattle.std.specs.Prelude.{◌≡◌, ◌<◌, ℕ, Bool, false, List, [], ◌∷◌, length, drop, ◌==◌, if◌then◌else◌}
use Rattle.std.specs.Prelude.{Option, Some, None, Result, Ok, Err}
use Rattle.tape_unit.specs.Item.{tape_mark, block}
use Rattle.script_words.specs.Text.{is_printable, leading_line, lines, words}
use Rattle.job_script.specs.declared.fault.FaultName.{FaultName}
use Rattle.job_script.specs.declared.fault.FaultName.TheVariants as names
use Rattle.job_script.specs.declared.line.ExcpLine.{ExcpLine}
use Rattle.job_script.specs.declared.line.verb.Verb.{Verb}
use Rattle.job_script.specs.declared.line.verb.Verb.TheVariants as verbs
use Rattle.job_script.specs.declared.line.verb.SetUpVerb.{SetUpVerb}
use Rattle.job_script.specs.declared.line.verb.SetUpVerb.TheVariants as set_up_verbs
use Rattle.job_script.specs.Steps.{◌>>=◌}
use Rattle.job_script.specs.Forms.{Word, word, has, has_least, number, number_in, index, subclass, digits, address}
use Rattle.job_script.specs.Forms.{bytes, joined_bytes, extents, dcb_name, method_of, mode_of}
use Rattle.job_script.specs.Said.{CommandSaid, LineSaid, MediumSaid, SetUpLineSaid, UnitSaid}
use Rattle.job_script.specs.Said.{close, disk, printer, purge, purge_task, reset, tape, wait}
use Rattle.job_script.specs.Said.{says_area, says_fault, says_item, says_opening, says_record, says_tasks, says_unit}
use Rattle.job_script.specs.Said.{says_command, says_excp, says_nothing, says_set_up}
use Rattle.job_script.specs.Verbs.{verb_of}

-- a unit with this medium, which meets no fault and has no DCB
abbrev pub new_unit : ℕ → ℕ → MediumSaid → UnitSaid
new_unit line isc medium = record { line = line; isc = isc; medium = medium; faults = []; openings = [] }

-- tasks N
unfoldable pub tasks_line : List Word → Result SetUpLineSaid FaultName
tasks_line ws = do
  _ ← has 2 ws
  tasks ← number_in 1 64 (word 1 ws)
  Ok (says_tasks tasks)

-- disk U ISC CYLS HEADS BYTES
unfoldable pub disk_line : ℕ → List Word → Result SetUpLineSaid FaultName
disk_line line ws = do
  _ ← has 6 ws
  unit ← index (word 1 ws)
  isc ← subclass (word 2 ws)
  cylinders ← number (word 3 ws)
  heads ← number (word 4 ws)
  track_bytes ← number (word 5 ws)
  Ok (says_unit unit (new_unit line isc (disk (record { cylinders = cylinders; heads = heads; track_bytes = track_bytes }) [])))

-- tape U ISC BYTES
unfoldable pub tape_line : ℕ → List Word → Result SetUpLineSaid FaultName
tape_line line ws = do
  _ ← has 4 ws
  unit ← index (word 1 ws)
  isc ← subclass (word 2 ws)
  size ← number (word 3 ws)
  Ok (says_unit unit (new_unit line isc (tape size [])))

-- printer U ISC LINES PAGES
unfoldable pub printer_line : ℕ → List Word → Result SetUpLineSaid FaultName
printer_line line ws = do
  _ ← has 5 ws
  unit ← index (word 1 ws)
  isc ← subclass (word 2 ws)
  lines ← number (word 3 ws)
  pages ← number (word 4 ws)
  Ok (says_unit unit (new_unit line isc (printer lines pages)))

-- rec U CC HH R KEY HEX
unfoldable pub record_line : List Word → Result SetUpLineSaid FaultName
record_line ws = do
  _ ← has 7 ws
  unit ← index (word 1 ws)
  cylinder ← number_in 0 65535 (word 2 ws)
  head ← number_in 0 65535 (word 3 ws)
  r ← number_in 0 255 (word 4 ws)
  key ← bytes (word 5 ws)
  content ← bytes (word 6 ws)
  Ok (says_record unit (record { cylinder = cylinder; head = head; number = r; key = key; content = content }))

-- block U HEX
unfoldable pub block_line : List Word → Result SetUpLineSaid FaultName
block_line ws = do
  _ ← has 3 ws
  unit ← index (word 1 ws)
  content ← bytes (word 2 ws)
  Ok (says_item unit (block content))

-- mark U
unfoldable pub mark_line : List Word → Result SetUpLineSaid FaultName
mark_line ws = do
  _ ← has 2 ws
  unit ← index (word 1 ws)
  Ok (says_item unit tape_mark)

-- fault U ORDINAL UU SS XXXX
unfoldable pub fault_line : List Word → Result SetUpLineSaid FaultName
fault_line ws = do
  _ ← has 6 ws
  unit ← index (word 1 ws)
  ordinal ← number (word 2 ws)
  status ← digits 2 (word 3 ws)
  sub ← digits 2 (word 4 ws)
  sense ← digits 4 (word 5 ws)
  Ok (says_fault unit (record { ordinal = ordinal; unit = record { 0 = status }; sub = record { 0 = sub }; sense = sense }))

-- open U in EXTENT ... or open U out EXTENT ...
unfoldable pub open_line : ℕ → List Word → Result SetUpLineSaid FaultName
open_line line ws = do
  _ ← has_least 3 ws
  unit ← index (word 1 ws)
  method ← method_of (word 2 ws)
  ranges ← extents (drop 3 ws)
  Ok (says_opening unit (record { line = line; method = method; extents = ranges }))

-- area A ADDR HEX ...
unfoldable pub area_line : List Word → Result SetUpLineSaid FaultName
area_line ws = do
  _ ← has_least 3 ws
  area ← number (word 1 ws)
  base ← address (word 2 ws)
  content ← joined_bytes (drop 3 ws)
  Ok (says_area area (record { base = base; bytes = content }))

-- excp T U DCB IOB A SHOW LEN
unfoldable pub excp_line : ℕ → List Word → Result ExcpLine FaultName
excp_line line ws = do
  _ ← has 8 ws
  task ← index (word 1 ws)
  dcb ← dcb_name (word 2 ws) (word 3 ws)
  iob ← address (word 4 ws)
  area ← number (word 5 ws)
  show ← address (word 6 ws)
  len ← number (word 7 ws)
  Ok (record { line = line; task = task; dcb = dcb; iob = iob; area = area; show = show; len = len })

-- purge T U DCB quiesce or purge T U DCB halt
unfoldable pub purge_line : ℕ → List Word → Result CommandSaid FaultName
purge_line line ws = do
  _ ← has 5 ws
  task ← index (word 1 ws)
  dcb ← dcb_name (word 2 ws) (word 3 ws)
  mode ← mode_of (word 4 ws)
  Ok (record { line = line; task = task; action = purge dcb mode })

-- purgetask T X quiesce or purgetask T X halt
unfoldable pub purgetask_line : ℕ → List Word → Result CommandSaid FaultName
purgetask_line line ws = do
  _ ← has 4 ws
  task ← index (word 1 ws)
  other ← index (word 2 ws)
  mode ← mode_of (word 3 ws)
  Ok (record { line = line; task = task; action = purge_task other mode })

-- close T U DCB
unfoldable pub close_line : ℕ → List Word → Result CommandSaid FaultName
close_line line ws = do
  _ ← has 4 ws
  task ← index (word 1 ws)
  dcb ← dcb_name (word 2 ws) (word 3 ws)
  Ok (record { line = line; task = task; action = close dcb })

-- reset T U DCB
unfoldable pub reset_line : ℕ → List Word → Result CommandSaid FaultName
reset_line line ws = do
  _ ← has 4 ws
  task ← index (word 1 ws)
  dcb ← dcb_name (word 2 ws) (word 3 ws)
  Ok (record { line = line; task = task; action = reset dcb })

-- wait T
unfoldable pub wait_line : ℕ → List Word → Result CommandSaid FaultName
wait_line line ws = do
  _ ← has 2 ws
  task ← index (word 1 ws)
  Ok (record { line = line; task = task; action = wait })

-- a set-up line of each kind
unfoldable pub set_up_line : SetUpVerb → ℕ → List Word → Result SetUpLineSaid FaultName
set_up_line set_up_verbs.Tasks line ws = tasks_line ws
set_up_line set_up_verbs.Disk line ws = disk_line line ws
set_up_line set_up_verbs.Tape line ws = tape_line line ws
set_up_line set_up_verbs.Printer line ws = printer_line line ws
set_up_line set_up_verbs.Record line ws = record_line ws
set_up_line set_up_verbs.Block line ws = block_line ws
set_up_line set_up_verbs.Mark line ws = mark_line ws
set_up_line set_up_verbs.Fault line ws = fault_line ws
set_up_line set_up_verbs.Open line ws = open_line line ws
set_up_line set_up_verbs.Area line ws = area_line ws

-- a line of each kind
unfoldable pub by_verb : Verb → ℕ → List Word → Result LineSaid FaultName
by_verb (verbs.SetUp verb) line ws = set_up_line verb line ws >>= λ said. Ok (says_set_up said)
by_verb verbs.Excp line ws = excp_line line ws >>= λ said. Ok (says_excp said)
by_verb verbs.Purge line ws = purge_line line ws >>= λ said. Ok (says_command said)
by_verb verbs.PurgeTask line ws = purgetask_line line ws >>= λ said. Ok (says_command said)
by_verb verbs.Close line ws = close_line line ws >>= λ said. Ok (says_command said)
by_verb verbs.Reset line ws = reset_line line ws >>= λ said. Ok (says_command said)
by_verb verbs.Wait line ws = wait_line line ws >>= λ said. Ok (says_command said)

-- the word begins with a number sign
abbrev pub is_comment : Word → Bool
is_comment [] = false
is_comment (byte ∷ more) = byte == 35

-- the kind that a first word begins
abbrev pub known_verb : Option Verb → Result (Option Verb) FaultName
known_verb None = Err names.Words
known_verb (Some verb) = Ok (Some verb)

-- the kind of a line: a line without words and a comment have none, whatever bytes they hold; any other line is printable
unfoldable pub line_kind : Bool → List Word → Result (Option Verb) FaultName
line_kind printable ws =
    if length ws == 0 then Ok None
    else if is_comment (word 0 ws) then Ok None
    else if printable then known_verb (verb_of (word 0 ws))
    else Err names.Words

-- what a line of this kind says; one of no kind says nothing
abbrev pub by_kind : Option Verb → ℕ → List Word → Result LineSaid FaultName
by_kind None line ws = Ok says_nothing
by_kind (Some verb) line ws = by_verb verb line ws

-- the line with this number
abbrev pub line_of : ℕ → List ℕ → Result LineSaid FaultName
line_of line text = line_kind (is_printable text) (words text) >>= λ kind. by_kind kind line (words text)

-- the first line of a text has this number and says this, and a shorter text comes after it
pub record LeadingSays (number : ℕ) (text : List ℕ) (said : LineSaid) (after : List ℕ) : Type 0 where
  pub split : lines text ≡ leading_line text ∷ lines after
  pub says : line_of number (leading_line text) ≡ Ok said
  pub shorter : length after < length text
