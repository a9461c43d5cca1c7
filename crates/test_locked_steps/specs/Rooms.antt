-- THE SIZES OF ROWS AND BOOKS of a scenario (profile).
use Rattle.std.specs.Prelude.{ℕ, ◌==◌, if◌then◌else◌, replicate, slice_index_or, slice_set}
use Rattle.test_locked_steps.specs.declared.room_line.RoomLine.{RoomLine}
use Rattle.test_locked_steps.specs.declared.room_line.RoomLine.TheVariants as lines
use Rattle.test_locked_steps.specs.declared.rooms.Rooms.{Rooms}

-- without a line there is always room: at most 36,157 lines of an EXCP, of 29 bytes or more, are in 1,048,576 bytes
abbrev pub size_of : ℕ → ℕ
size_of count = if count == 0 then 36157 else count

-- the size of the book of a unit
abbrev pub book_size : Rooms → ℕ → ℕ
book_size r unit = size_of (slice_index_or r.books unit 0)

-- no line sets a size
abbrev pub no_sizes : Rooms
no_sizes = record { intake = 0; post = 0; books = replicate 64 0 }

-- what an earlier line says of the row or the book of a line, or 0
abbrev pub said_of : Rooms → RoomLine → ℕ
said_of r (lines.Intake count) = r.intake
said_of r (lines.Post count) = r.post
said_of r (lines.Book unit count) = slice_index_or r.books unit 0

-- the sizes after a line
abbrev pub with_said : RoomLine → Rooms → Rooms
with_said (lines.Intake count) r = record r { intake = count }
with_said (lines.Post count) r = record r { post = count }
with_said (lines.Book unit count) r = record r { books = slice_set r.books unit count }
