-- THE ROOM OF A BOOK: what a call leaves of the room that is reserved for entries (profile).
use Rattle.std.specs.Prelude.{◌≤◌, ◌+◌, length}
use Rattle.unit_book.specs.Book.{Book}

-- RESERVED ROOM STAYS: the entries that are added take one place each, and all other reserved places remain
abbrev pub KeepsRoom : {D : Type 0} → Book D → Book D → Type 0
KeepsRoom old new = old.spare + length old.trace ≤ new.spare + length new.trace
