-- One command step, and a number of them (Principles of Operation, chapters 15 and 16, and profile).
use Rattle.std.specs.Prelude.{◌≡◌, ◌<◌, ◌≤◌, ℕ, zero, suc, ◌+◌, ◌-◌, ◌==◌, nat_lt, min, Bool, true, false, not, ◌&&◌, ◌||◌, if◌then◌else◌}
use Rattle.std.specs.Prelude.{List, [], ◌∷◌, length, slice_index_or}
use Rattle.io_images.specs.Bits.{is_off, check_or_exception, incorrect_length_bit, normal_end_status, modifier_end_status}
use Rattle.io_area.specs.Storage.{Storage}
use Rattle.device_port.specs.Meaning.{Meaning, effect}
use Rattle.device_port.specs.declared.answer.Acted.{Acted}
use Rattle.device_port.specs.declared.kind.Flow.{Flow}
use Rattle.device_port.specs.declared.kind.Flow.TheVariants.{None as NoFlow, Out, Input, Back}
use Rattle.ccw_programs.specs.declared.fetch.Link.{Link}
use Rattle.ccw_programs.specs.declared.ending.Ending.{Ending}
use Rattle.ccw_programs.specs.declared.context.State.{State}
use Rattle.ccw_programs.specs.declared.context.State.TheVariants.{Running, Ended}
use Rattle.ccw_programs.specs.Links.{Fetched, Whole, Broken, chain, chains_data, chains_command, suppresses_length, total_count}
use Rattle.ccw_programs.specs.Areas.{Areas, Parts, Bad, areas}
use Rattle.ccw_programs.specs.Place.{Place, start_place, ended_place, checked_place, stored_address}

-- a chain has a CCW; this one never comes
abbrev pub no_link : Link
no_link = record { at = 0; ccw = record { command = 0; address = 0; flags = record { 0 = 0 }; count = 0 } }

-- the first CCW of a chain
abbrev pub first_of : List Link → Link
first_of links = slice_index_or links 0 no_link

-- the last CCW of a chain
abbrev pub last_of : List Link → Link
last_of links = slice_index_or links (length links - 1) no_link

-- WHERE A COMMAND ENDED that moved n bytes: the first CCW of the chain whose count they do not use up,
-- or the last one, and what is left of its count
abbrev pub ending : List Link → ℕ → Ending
ending [] n = record { link = no_link; residual = 0 }
ending (l ∷ []) n = record { link = l; residual = l.ccw.count - n }
ending (l ∷ k ∷ ls) n =
    if nat_lt n l.ccw.count then record { link = l; residual = l.ccw.count - n } else ending (k ∷ ls) (n - l.ccw.count)

-- INCORRECT LENGTH is to be shown (chapter 16, "Incorrect Length"): the program counts other bytes from the first CCW
-- on than the device wants, and the CCW where the command ended chains data or does not suppress it. A command that
-- moves no bytes shows it if its CCW chains data
abbrev pub shows_length : Flow → Link → ℕ → ℕ → Link → Bool
shows_length NoFlow first counted want ended = chains_data first.ccw
shows_length Out first counted want ended = not (want == counted) && (chains_data ended.ccw || not (suppresses_length ended.ccw))
shows_length Input first counted want ended = not (want == counted) && (chains_data ended.ccw || not (suppresses_length ended.ccw))
shows_length Back first counted want ended = not (want == counted) && (chains_data ended.ccw || not (suppresses_length ended.ccw))

-- the subchannel status: an incorrect length is shown beside no other error
abbrev pub sub_status : Flow → Link → ℕ → Acted → Link → ℕ
sub_status flow first counted acted ended =
    if is_off check_or_exception acted.unit.0 && (acted.sub.0 == 0) && shows_length flow first counted acted.want ended
    then incorrect_length_bit else acted.sub.0

-- the bytes that are moved
abbrev pub moved : List Link → Acted → ℕ
moved links acted = min (total_count links) acted.want

-- the program goes on to another command after this last CCW (chapter 15, "Command Chaining")
abbrev pub goes_on : Link → ℕ → ℕ → Bool
goes_on last unit sub = chains_command last.ccw && ((unit == normal_end_status) || (unit == modifier_end_status)) && (sub == 0)

-- the address of the next command: after the last CCW, or after one more with status modifier
abbrev pub next_address : Link → ℕ → ℕ
next_address last unit = last.at + (if unit == modifier_end_status then 16 else 8)

-- the position after a command with this last CCW that ended there with this subchannel status
abbrev pub placed : Place → Link → ℕ → Acted → Ending → ℕ → Place
placed place last fetches acted end sub =
    if goes_on last acted.unit.0 sub
    then record {
      next = next_address last acted.unit.0;
      fetched = fetches;
      address = stored_address end.link.at;
      residual = end.residual;
      state = Running;
    }
    else ended_place place
    (record { address = stored_address end.link.at; unit = acted.unit; sub = record { 0 = sub }; residual = end.residual }) acted.sense

-- the position after a command that the device did
abbrev pub acted_place : Place → Flow → List Link → ℕ → Acted → Place
acted_place place flow links fetches acted =
    placed place (last_of links) fetches acted (ending links (moved links acted))
    (sub_status flow (first_of links) (total_count links) acted (ending links (moved links acted)).link)

-- a channel program in flight: its position, the device and the area
pub record Program (D : Type 0) : Type 0 where
  pub place : Place
  pub device : D
  pub area : Storage

-- a program at a position, with its device and storage
abbrev pub program : {D : Type 0} → Place → D → Storage → Program D
program place device area = record { place = place; device = device; area = area }

-- a program at its first CCW
abbrev pub begun : {D : Type 0} → ℕ → D → Storage → Program D
begun start device area = program (start_place start) device area

-- whether a program has not ended
abbrev pub is_running : State → Bool
is_running Running = true
is_running (Ended csw sense) = false

module _ {D : Type 0} (meaning : Meaning D) where
  -- the chain lies in these areas: the device acts
  abbrev pub step_on_areas : Program D → List Link → ℕ → Areas → Program D
  step_on_areas p links fetches (Bad refusal) = program (checked_place p.place refusal.at) p.device p.area
  step_on_areas p links fetches (Parts parts) =
      let done = effect meaning p.device (first_of links).ccw.command parts p.area in
      program (acted_place p.place (meaning.flow p.device (first_of links).ccw.command) links fetches done.acted) done.device done.area

  -- the command has fetched this chain
  abbrev pub step_on_chain : Program D → Fetched → Program D
  step_on_chain p (Broken links refusal) = program (checked_place p.place refusal.at) p.device p.area
  step_on_chain p (Whole links fetches) =
      step_on_areas p links fetches (areas (meaning.flow p.device (first_of links).ccw.command) p.area links)

  -- one command of a program; a program that ended stays as it is
  abbrev pub step_from : Program D → State → Program D
  step_from p Running = step_on_chain p (chain p.area p.place.next p.place.fetched)
  step_from p (Ended csw sense) = p

  -- ONE COMMAND STEP; a program that has ended stays as it is
  unfoldable pub step : Program D → Program D
  step p = step_from p p.place.state

  -- the program AFTER a number of command steps
  unfoldable pub after : ℕ → Program D → Program D
  after zero p = p
  after (suc k) p = step (after k p)

  -- the steps of a program until it has ended, up to a limit
  unfoldable pub steps_within : ℕ → Program D → ℕ
  steps_within zero p = 0
  steps_within (suc k) p = if is_running p.place.state then suc (steps_within k (step p)) else 0

  -- THE LENGTH of a program: the number of its command steps, the ending one included
  abbrev pub length_of : Program D → ℕ
  length_of p = steps_within 4097 p

  -- the laws of steps: steps after steps are as many together; before its length a program runs, and at
  -- its length it has ended; what is left of it after some steps; it has at most 4,097, and one at least if it runs
  pub record StepsCompose : Type 0 where
    pub together : (j k : ℕ) (p : Program D) → after (j + k) p ≡ after k (after j p)
    pub runs : (j : ℕ) (p : Program D) → j < length_of p → is_running (after j p).place.state ≡ true
    pub ends : (p : Program D) → p.place.fetched ≤ 4096 → is_running (after (length_of p) p).place.state ≡ false
    pub left : (c : ℕ) (p : Program D) → p.place.fetched ≤ 4096 → c ≤ length_of p → length_of (after c p) ≡ length_of p - c
    pub few : (p : Program D) → length_of p ≤ 4097
    pub some : (p : Program D) → is_running p.place.state ≡ true → 1 ≤ length_of p

  -- kind and geometry of a device stay over every program
  pub record DeviceStays : Type 0 where
    pub kind : (k : ℕ) (p : Program D) → meaning.kind (after k p).device ≡ meaning.kind p.device
    pub cylinders : (k : ℕ) (p : Program D) → meaning.cylinders (after k p).device ≡ meaning.cylinders p.device
    pub heads : (k : ℕ) (p : Program D) → meaning.heads (after k p).device ≡ meaning.heads p.device
