-- THE ROWS OF ONE SYSTEM: an intake row for each unit, a post row for each task, and a notice row for each
-- interruption subclass (profile).
use Rattle.std.specs.Prelude.{◌≡◌, ℕ, List, [], ⊤}
use Rattle.request_piece.specs.PostedState.{PostedState}
use Rattle.request_piece.specs.declared.piece.Piece.{Piece}
use Rattle.fifo_row.specs.Ends.{RowName, Sending, Taking, no_name}
use Rattle.signed_list.specs.Signed.{RegisterName, no_name as no_register}
use Rattle.excp_system.specs.declared.item.Notice.{Notice}

-- several rows that one sender reaches: how many items each holds, and which row has which tag
pub record ReachedRows : Type 0 where
  pub capacity : ℕ
  pub row : ℕ → RowName

-- how many tasks and units there are, how many items the rows hold, which row is whose, and the register of each unit's
-- controls
pub record SiteRows : Type 0 where
  pub tasks : ℕ
  pub units : ℕ
  pub intake_capacity : ℕ
  pub post_capacity : ℕ
  pub intake : ℕ → RowName
  pub post : ℕ → RowName
  pub notice : ℕ → RowName
  pub register : ℕ → RegisterName

-- the rows of no system
abbrev pub no_rows : SiteRows
no_rows = record {
  tasks = 0;
  units = 0;
  intake_capacity = 0;
  post_capacity = 0;
  intake = λ unit. no_name;
  post = λ task. no_name;
  notice = λ isc. no_name;
  register = λ unit. no_register;
}

-- the intake rows, one for each unit
abbrev pub intake_rows : SiteRows → ReachedRows
intake_rows s = record { capacity = s.intake_capacity; row = s.intake }

-- the post rows, one for each task
abbrev pub post_rows : SiteRows → ReachedRows
post_rows s = record { capacity = s.post_capacity; row = s.post }

-- a notice row has room for a notice of each unit
abbrev pub notice_rows : SiteRows → ReachedRows
notice_rows s = record { capacity = s.units; row = s.notice }

-- what a row keeps of a request: its number is its position among those of its task, and its unit is the row's
abbrev pub RequestFact : Piece → ℕ → ℕ → ℕ → Type 0
RequestFact r task place tag = (r.name.seq ≡ place) × (r.unit ≡ tag)

-- of a posted value and of a notice a row keeps nothing
abbrev pub NoFact : {I : Type 0} → I → ℕ → ℕ → ℕ → Type 0
NoFact item sender place tag = ⊤

-- the sender of a request is its task
abbrev pub task_of : Piece → ℕ
task_of r = r.name.task

-- the unit that posted a value
abbrev pub unit_of : PostedState → ℕ
unit_of p = p.unit

-- the unit that sent a notice
abbrev pub notifier_of : Notice → ℕ
notifier_of n = n.unit

-- the task that a posted value is for
abbrev pub for_task : PostedState → ℕ
for_task p = p.name.task

-- the end of the row k that sender `number` holds, into which it has sent this
abbrev pub end_of : {I : Type 0} → ReachedRows → ℕ → ℕ → List I → Sending I
end_of r number k sent = record { row = r.row k; capacity = r.capacity; tag = k; number = number; sent = sent }

-- the end of the row k that takes, which has met nobody
abbrev pub taker_of : {I : Type 0} → ReachedRows → ℕ → ℕ → List I → Taking I
taker_of r senders k taken = record { row = r.row k; capacity = r.capacity; tag = k; senders = senders; taken = taken; met = [] }
