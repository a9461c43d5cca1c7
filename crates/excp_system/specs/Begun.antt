-- WHAT A UNIT BEGAN WITH: the book that was handed in for it when its system was made (profile).
use Rattle.std.specs.Prelude.{◌≡◌, ℕ, List, ◌++◌, Some, slice_get}
use Rattle.unit_book.specs.declared.entry.Entry.{Entry}
use Rattle.unit_book.specs.Book.{Book}

-- the book continues an earlier one: same device as it was mounted, same interruption subclass and capacity, and a trace
-- that has only grown
pub record Continues {D : Type 0} (first b : Book D) : Type 0 where
  pub mounted : b.mounted ≡ first.mounted
  pub isc : b.isc ≡ first.isc
  pub capacity : b.capacity ≡ first.capacity
  pub later : List Entry
  pub grew : b.trace ≡ later ++ first.trace

-- the book of a unit continues the one that was handed in for this unit
pub record Began {D : Type 0} (opened : List (Book D)) (unit : ℕ) (b : Book D) : Type 0 where
  pub first : Book D
  pub is : slice_get opened unit ≡ Some first
  pub continues : Continues first b

-- each of these books, in order of unit, continues the one that was handed in for its unit
abbrev pub AreBegun : {D : Type 0} → List (Book D) → List (Book D) → Type 0
AreBegun {D} opened books = (unit : ℕ) (b : Book D) → slice_get books unit ≡ Some b → Began opened unit b
