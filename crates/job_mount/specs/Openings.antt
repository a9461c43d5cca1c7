-- THE DCBs OF A UNIT, opened in the order of their lines, or the line of the first that cannot be opened (profile).
use Rattle.std.specs.Prelude.{ℕ, ◌+◌, Bool, nat_lt, ◌&&◌, if◌then◌else◌, min, List, [], ◌∷◌, Option, Some, None, Result, Ok, Err}
use Rattle.unit_book.specs.declared.entry.Entry.TheVariants.{Opened}
use Rattle.unit_book.specs.Answers.{takes}
use Rattle.unit_book.specs.Book.{Book}
use Rattle.unit_book.specs.Dcbs.{opened_count}
use Rattle.any_device.specs.declared.device.AnyDevice.{AnyDevice}
use Rattle.any_device.specs.Devices.{any_device}
use Rattle.job_script.specs.Said.{OpeningSaid}

-- a unit has fewer than 65,535 DCBs, and its device takes the extents of one more
abbrev pub can_open : Book AnyDevice → OpeningSaid → Bool
can_open book o = nat_lt (opened_count book.trace) 65_535 && takes any_device book o.extents

-- the book with one more DCB open, which has the next number
abbrev pub with_dcb : Book AnyDevice → OpeningSaid → Book AnyDevice
with_dcb book o = record book { trace = Opened (opened_count book.trace + 1) o.method o.extents ∷ book.trace }

-- the book with all DCBs of a unit open, or the line of the first that cannot be opened
unfoldable pub open_all : Book AnyDevice → List OpeningSaid → Result (Book AnyDevice) ℕ
open_all book [] = Ok book
open_all book (o ∷ others) = if can_open book o then open_all (with_dcb book o) others else Err o.line

-- a unit's book before those of the other units; of two lines at fault, the first counts
abbrev pub beside : Result (Book AnyDevice) ℕ → Result (List (Book AnyDevice)) ℕ → Result (List (Book AnyDevice)) ℕ
beside (Ok book) (Ok books) = Ok (book ∷ books)
beside (Ok book) (Err line) = Err line
beside (Err line) (Ok books) = Err line
beside (Err line) (Err other) = Err (min line other)

-- the first of a line that was found, if one was, and another
abbrev pub earlier : Option ℕ → ℕ → ℕ
earlier None line = line
earlier (Some found) line = min found line
