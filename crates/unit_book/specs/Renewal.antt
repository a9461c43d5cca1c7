-- A BOOK BEGINS AGAIN on its device as it is now (profile).
use Rattle.std.specs.Prelude.{◌≡◌, Bool, true, false, List}
use Rattle.std.specs.List.{filter}
use Rattle.device_port.specs.Meaning.{Meaning}
use Rattle.unit_book.specs.Book.{Book, opening}
use Rattle.unit_book.specs.Media.{device}
use Rattle.unit_book.specs.declared.entry.Entry.{Entry}
use Rattle.unit_book.specs.declared.entry.Entry.TheVariants.{Opened, Close}

-- the entry is an opening or a close of a DCB
abbrev pub is_opening_or_close : Entry → Bool
is_opening_or_close (Opened d method extents) = true
is_opening_or_close (Close d) = true
is_opening_or_close _ = false

-- the openings and closes of a trace
abbrev pub openings_and_closes : List Entry → List Entry
openings_and_closes H = filter is_opening_or_close H

-- the device as it is now was just mounted. The DCBs were opened and closed as before, and nothing else happened. The interruption
-- subclass and the capacity stay. How many entries the trace has room for is left open
abbrev pub Renews : {D : Type 0} → Meaning D → Book D → Book D → Type 0
Renews meaning old new = new ≡ record (opening (device meaning old.mounted old.trace) old.isc old.capacity) {
  trace = openings_and_closes old.trace;
  spare = new.spare;
}
