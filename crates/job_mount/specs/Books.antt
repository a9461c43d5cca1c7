-- BOOKS before the first request.
use Rattle.std.specs.Prelude.{◌≡◌, ◌≤◌, ℕ, true}
use Rattle.std.specs.List.{list_all}
use Rattle.unit_book.specs.Book.{Book}
use Rattle.unit_book.specs.Trace.{is_opening}

-- a book that may hold a request, and in which nothing has happened but openings of DCBs
pub record IsFresh {D : Type 0} (b : Book D) : Type 0 where
  pub opened : list_all is_opening b.trace ≡ true
  pub some : 1 ≤ b.capacity

-- it has room for this many requests
abbrev pub HasRoom : {D : Type 0} → ℕ → Book D → Type 0
HasRoom capacity b = b.capacity ≡ capacity
