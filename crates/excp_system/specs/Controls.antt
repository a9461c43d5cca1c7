-- THE CONTROLS OF A UNIT: the purges, closes and resets that were asked of it, by whom, and the entries that they made
-- (DFSMSdfp Advanced Services, PURGE and CLOSE, and profile).
use Rattle.std.specs.Prelude.{◌≡◌, ℕ, ◌+◌, Bool, true, false, not, Option, Some, None, Result, Ok, Err, List, [], ◌∷◌, ◌++◌, slice_get, slice_index_or, slice_set}
use Rattle.request_piece.specs.declared.scope.Scope.TheVariants.{Dcb, Task}
use Rattle.unit_book.specs.declared.answer.DcbError.{DcbError}
use Rattle.unit_book.specs.declared.answer.DcbError.TheVariants.{NoSuchDcb, NoMemory}
use Rattle.unit_book.specs.declared.entry.Entry.{Entry}
use Rattle.unit_book.specs.declared.entry.Entry.TheVariants as entry
use Rattle.unit_book.specs.Book.{Book}
use Rattle.unit_book.specs.Dcbs.{is_open, is_opened}
use Rattle.unit_book.specs.Trace.{is_opening}
use Rattle.signed_list.specs.Signed.{ListState, RegisterName, Signing, items_of}
use Rattle.unit_book.specs.declared.control.Control.{Control}
use Rattle.unit_book.specs.declared.control.Control.TheVariants.{Purge, Close, Reset}
use Rattle.excp_system.specs.Sites.{SiteRows}

-- the control that made an entry, if one did
abbrev pub control_of : Entry → Option Control
control_of (entry.Purge scope mode) = Some (Purge scope mode)
control_of (entry.Close dcb) = Some (Close dcb)
control_of (entry.Reset dcb) = Some (Reset dcb)
control_of _ = None

-- a control that makes no entry: a purge of a DCB that was never opened, a close or a reset of one that is not open
abbrev pub makes_none : Control → List Entry → Bool
makes_none (Purge (Dcb dcb) mode) H = not (is_opened dcb H)
makes_none (Purge (Task task) mode) H = false
makes_none (Close dcb) H = not (is_open dcb H)
makes_none (Reset dcb) H = not (is_open dcb H)

-- an entry that is neither of a control nor of an opening
abbrev pub is_quiet : Entry → Bool
is_quiet (entry.Opened dcb method extents) = false
is_quiet (entry.Purge scope mode) = false
is_quiet (entry.Close dcb) = false
is_quiet (entry.Reset dcb) = false
is_quiet _ = true

-- THE CONTROLS OF A TRACE since this first one are these, in order: each made its entry, or makes none (`makes_none`) when
-- it is asked, and no other entry is of a control. A DCB is opened only if a unit's own calls may be used
pub data Controlled (own_calls : Bool) (first : List Entry) : List Control → List Entry → Type 0 where
  Begins : Controlled own_calls first [] first
  Goes : {asked : List Control} {H : List Entry} (e : Entry) → is_quiet e ≡ true → Controlled own_calls first asked H →
      Controlled own_calls first asked (e ∷ H)
  Opens : {asked : List Control} {H : List Entry} (e : Entry) → own_calls ≡ true → is_opening e ≡ true →
      Controlled own_calls first asked H → Controlled own_calls first asked (e ∷ H)
  Makes : {asked : List Control} {H : List Entry} (c : Control) (e : Entry) → control_of e ≡ Some c →
      Controlled own_calls first asked H → Controlled own_calls first (asked ++ c ∷ []) (e ∷ H)
  MakesNone : {asked : List Control} {H : List Entry} (c : Control) → makes_none c H ≡ true →
      Controlled own_calls first asked H → Controlled own_calls first (asked ++ c ∷ []) H

-- THE LOG OF A UNIT: the register of its controls, and each control that was asked, with the number of the task that
-- asked it. The number of one that a unit's own call asked is the count of tasks
pub record LogState : Type 0 where
  pub register : RegisterName
  pub asked : List (ℕ × Control)

-- the log with one control more, if memory did not run out
abbrev pub logged : Bool → ℕ → Control → LogState → LogState
logged false number c l = l
logged true number c l = record l { asked = l.asked ++ (number, c) ∷ [] }

-- the list, with a pen for each task and one more, which is the unit's own. If its own calls may not be used, that pen
-- signed nothing
pub record IsLog (own_calls : Bool) (tasks : ℕ) (list : ListState Control) (own : Signing Control) : Type 0 where
  pub pens : list.pens ≡ tasks + 1
  pub number : own.number ≡ tasks
  pub register : own.register ≡ list.register
  pub unsigned : own_calls ≡ false → own.signed ≡ []

-- a unit's log is on its register, and has the controls of its trace since that of the book that was handed in for it
pub record KeepsLog {D : Type 0} (s : SiteRows) (own_calls : Bool) (opened : List (Book D)) (unit : ℕ) (l : LogState)
    (H : List Entry) : Type 0 where
  pub register : l.register ≡ s.register unit
  pub first : Book D
  pub is : slice_get opened unit ≡ Some first
  pub controlled : Controlled own_calls first.trace (items_of l.asked) H

-- THE PENS OF A TASK, one for each unit: its number, and what it asked of each
pub record PensState : Type 0 where
  pub number : ℕ
  pub asked : List (List Control)

-- the controls that a unit was asked: the list with its number, and none after the last list
abbrev pub asked_of : List (List Control) → ℕ → List Control
asked_of asked unit = slice_index_or asked unit []

-- the lists after a unit is asked one more control: `true` adds it, `false` says that memory ran out
abbrev pub asks : Bool → ℕ → Control → List (List Control) → List (List Control)
asks false unit c asked = asked
asks true unit c asked = slice_set asked unit (asked_of asked unit ++ c ∷ [])

-- the pen of a task for a unit, which signed this
abbrev pub pen_of : SiteRows → ℕ → ℕ → List Control → Signing Control
pen_of s number unit signed = record { register = s.register unit; number = number; signed = signed }

-- each pen is of the register of its index
abbrev pub ArePens : SiteRows → ℕ → List (Signing Control) → Type 0
ArePens s number pens = (unit : ℕ) (p : Signing Control) → slice_get pens unit ≡ Some p → p ≡ pen_of s number unit p.signed

-- a control was asked: its answer is not that memory ran out
abbrev pub is_asked : {A : Type 0} → Result A DcbError → Bool
is_asked (Ok a) = true
is_asked (Err NoSuchDcb) = true
is_asked (Err NoMemory) = false
