-- ROWS THAT NOBODY USES YET, and what is made of them (profile).
use Rattle.std.specs.Prelude.{◌≡◌, ℕ, ◌+◌, List, [], false, length, Some, true, slice_get, slice_index_or, replicate}
use Rattle.std.specs.List.{list_all}
use Rattle.unit_book.specs.Book.{Book}
use Rattle.unit_book.specs.Trace.{is_opening}
use Rattle.fifo_row.specs.Ends.{Fresh, Taking, no_name, unseated}
use Rattle.signed_list.specs.Signed.{Blank, no_name as no_register}
use Rattle.excp_system.specs.Sites.{SiteRows, ReachedRows, taker_of}
use Rattle.excp_system.specs.Controls.{LogState, PensState}
use Rattle.excp_system.specs.Fans.{FanState}
use Rattle.excp_system.specs.States.{TaskState, HandlerState}

-- the rows of a system: how many tasks and units there are, and its rows, each at the index of its tag
pub record RowsState : Type 0 where
  pub tasks : ℕ
  pub units : ℕ
  pub intake_capacity : ℕ
  pub post_capacity : ℕ
  pub intake : List Fresh
  pub post : List Fresh
  pub notice : List Fresh
  pub registers : List Blank

-- the row of an index after the last
abbrev pub no_row : Fresh
no_row = unseated no_name 0 0 0

-- the row at an index
abbrev pub row_at : List Fresh → ℕ → Fresh
row_at rows k = slice_index_or rows k no_row

-- the register of a unit
abbrev pub register_at : List Blank → ℕ → Blank
register_at registers unit = slice_index_or registers unit (record { register = no_register; pens = 0; seated = true })

-- the site that these rows make
abbrev pub site_of : RowsState → SiteRows
site_of v = record {
  tasks = v.tasks;
  units = v.units;
  intake_capacity = v.intake_capacity;
  post_capacity = v.post_capacity;
  intake = λ unit. (row_at v.intake unit).row;
  post = λ task. (row_at v.post task).row;
  notice = λ isc. (row_at v.notice isc).row;
  register = λ unit. (register_at v.registers unit).register;
}

-- `count` rows that gave no seats yet, each with its index for its tag
pub record ArePlain (capacity count senders : ℕ) (rows : List Fresh) : Type 0 where
  pub count_is : length rows ≡ count
  pub each : (k : ℕ) (f : Fresh) → slice_get rows k ≡ Some f → f ≡ unseated f.row capacity k senders

-- `count` registers that gave no pens yet, each with a pen for each task and one more
pub record AreBlank (count tasks : ℕ) (registers : List Blank) : Type 0 where
  pub count_is : length registers ≡ count
  pub each : (unit : ℕ) (r : Blank) → slice_get registers unit ≡ Some r → (r.pens ≡ tasks + 1) × (r.seated ≡ false)

-- rows that were just made
pub record AreFresh (v : RowsState) : Type 0 where
  pub intakes : ArePlain v.intake_capacity v.units v.tasks v.intake
  pub posts : ArePlain v.post_capacity v.tasks v.units v.post
  pub notices : ArePlain v.units 8 v.units v.notice
  pub registers : AreBlank v.units v.tasks v.registers

-- each row is the one that is reached at its index, and gave no seats yet
abbrev pub AreRows : ReachedRows → ℕ → List Fresh → Type 0
AreRows r senders rows = (k : ℕ) (f : Fresh) → slice_get rows k ≡ Some f → f ≡ unseated (r.row k) r.capacity k senders

-- each register is the one of its unit, and gave no pens yet
abbrev pub AreRegisters : SiteRows → ℕ → List Blank → Type 0
AreRegisters s tasks registers = (unit : ℕ) (r : Blank) → slice_get registers unit ≡ Some r →
    (r.register ≡ s.register unit) × (r.pens ≡ tasks + 1) × (r.seated ≡ false)

-- `count` senders' ends of the first `rows` rows, into which nothing was sent
pub record AreFans {I : Type 0} (count rows : ℕ) (fans : List (FanState I)) : Type 0 where
  pub count_is : length fans ≡ count
  pub each : (t : ℕ) (f : FanState I) → slice_get fans t ≡ Some f → f ≡ record { number = t; sent = replicate rows [] }

-- `count` tasks' pens of the first `units` units, which signed nothing
pub record AreHands (count units : ℕ) (hands : List PensState) : Type 0 where
  pub count_is : length hands ≡ count
  pub each : (t : ℕ) (p : PensState) → slice_get hands t ≡ Some p → p ≡ record { number = t; asked = replicate units [] }

-- the logs of `count` units, in which nothing is noted
pub record AreLogs (s : SiteRows) (count : ℕ) (logs : List LogState) : Type 0 where
  pub count_is : length logs ≡ count
  pub each : (unit : ℕ) (l : LogState) → slice_get logs unit ≡ Some l → l ≡ record { register = s.register unit; asked = [] }

-- the takers of `count` rows, which have taken nothing
pub record AreTakers {I : Type 0} (r : ReachedRows) (senders count : ℕ) (takers : List (Taking I)) : Type 0 where
  pub count_is : length takers ≡ count
  pub each : (k : ℕ) (w : Taking I) → slice_get takers k ≡ Some w → w ≡ taker_of r senders k []

-- a book for each unit, in which nothing happened but openings of DCBs
pub record AreBooks {D : Type 0} (units : ℕ) (books : List (Book D)) : Type 0 where
  pub count_is : length books ≡ units
  pub opened : (unit : ℕ) (b : Book D) → slice_get books unit ≡ Some b → list_all is_opening b.trace ≡ true

-- a task that has sent nothing to any of these units, asked no control of them, and collected nothing
abbrev pub fresh_task : ℕ → ℕ → TaskState
fresh_task units number = record { number = number; sent = replicate units []; got = []; asked = replicate units [] }

-- tasks that have sent, asked and collected nothing, each at the index of its number
pub record AreTasks (count units : ℕ) (tasks : List TaskState) : Type 0 where
  pub count_is : length tasks ≡ count
  pub each : (t : ℕ) (w : TaskState) → slice_get tasks t ≡ Some w → w ≡ fresh_task units t

-- the handlers of the eight subclasses, each at the index of its subclass, which took nothing
pub record AreHandlers (handlers : List HandlerState) : Type 0 where
  pub count_is : length handlers ≡ 8
  pub each : (isc : ℕ) (h : HandlerState) → slice_get handlers isc ≡ Some h → h ≡ record { isc = isc; taken = [] }
