-- WHEN A CALL OF A BOOK WANTS MEMORY: it adds entries, and the trace has not the room that is reserved for them, which
-- is that of the posts of all that they may doom too (profile).
use Rattle.std.specs.Prelude.{◌≡◌, ◌<◌, ℕ, ◌+◌, true, IsSome, length}
use Rattle.io_images.specs.declared.code.Code.{Code}
use Rattle.device_port.specs.Meaning.{Meaning}
use Rattle.subchannel.specs.declared.Status.{Status}
use Rattle.request_piece.specs.declared.piece.Name.{Name}
use Rattle.unit_book.specs.Trace.{waiting}
use Rattle.unit_book.specs.Dcbs.{is_open}
use Rattle.unit_book.specs.Legal.{FailsCheck, PostsActive}
use Rattle.unit_book.specs.Book.{Book, running_name}
use Rattle.unit_book.specs.Answers.{MayStart}

-- a purge: its entry, what it halts or posts last, and what it dooms
abbrev pub PurgeLacks : {D : Type 0} → Book D → Type 0
PurgeLacks b = b.spare < length (waiting b.trace) + 2

-- a close: the DCB is open
pub record CloseLacks {D : Type 0} (b : Book D) (dcb : ℕ) : Type 0 where
  pub open_dcb : is_open dcb b.trace ≡ true
  pub room : b.spare < length (waiting b.trace) + 1

-- a reset
abbrev pub ResetLacks : {D : Type 0} → Book D → Type 0
ResetLacks b = b.spare < 1

module _ {D : Type 0} (meaning : Meaning D) where
  -- a start: a program is to be started, or the request that waits first is to be posted for its extents
  pub data StartLacks (b : Book D) : Type 0 where
    ForStart : (name : Name) → MayStart meaning b name → b.spare < 1 → StartLacks b
    ForPost : (name : Name) → FailsCheck meaning b.mounted name b.trace → b.spare < length (waiting b.trace) + 1 → StartLacks b

  -- a run: a program runs
  pub record RunLacks (b : Book D) : Type 0 where
    pub running : IsSome (running_name meaning b)
    pub room : b.spare < 1

  -- an interruption: the active request is to be posted
  pub record InterruptLacks (b : Book D) : Type 0 where
    pub name : Name
    pub status : Status
    pub code : Code
    pub fits : PostsActive meaning b.mounted name status code b.trace
    pub room : b.spare < length (waiting b.trace) + 1

  -- settling: one of its steps
  pub data SettleLacks (b : Book D) : Type 0 where
    AtStart : StartLacks b → SettleLacks b
    AtRun : RunLacks b → SettleLacks b
    AtInterrupt : InterruptLacks b → SettleLacks b
