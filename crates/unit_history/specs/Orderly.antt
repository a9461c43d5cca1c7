-- WHAT FOLLOWS WHAT in a legal trace, with no word of its device: laws of each entry and those before it.
use Rattle.std.specs.Prelude.{◌≡◌, ◌≢◌, ℕ, ◌+◌, ◌≤◌, ◌⊎◌, true, false, Option, Some, None, List, [], ◌∷◌, slice_get}
use Rattle.io_images.specs.Codes.{is_error}
use Rattle.io_images.specs.declared.code.Code.{Code}
use Rattle.io_images.specs.declared.code.Code.TheVariants.{ExtentViolated, Purged}
use Rattle.request_piece.specs.declared.piece.Name.{Name}
use Rattle.unit_book.specs.Trace.{active, has_arrived, has_started, is_covered, is_halted, request_named, starts_of, waiting}
use Rattle.request_piece.specs.declared.piece.Piece.{Piece}
use Rattle.unit_book.specs.Dcbs.{doomed, is_open, is_opened, opened_count}
use Rattle.unit_book.specs.declared.entry.Entry.{Entry}
use Rattle.unit_book.specs.declared.entry.Entry.TheVariants.{Opened, Arrive, Start, Purge, Close, Reset, Post}

-- the active request is started once more, or one that was not started while nothing is active
pub record StartFollows (n : Name) (H : List Entry) : Type 0 where
  pub arrived : has_arrived n H ≡ true
  pub few : starts_of n H ≤ 10
  pub whom : (active H ≡ Some n) ⊎ ((active H ≡ None) × (has_started n H ≡ false))
  pub after : active (Start n ∷ H) ≡ Some n

-- a request is posted that is active, or one that was not started; what is active after it
pub data PostFollows (n : Name) (code : Code) (H : List Entry) (after : Option Name) : Type 0 where
  Ended : active H ≡ Some n → after ≡ None → is_halted n H ≡ false → code ≢ Purged → PostFollows n code H after
  Stopped : active H ≡ Some n → after ≡ None → is_covered (request_named n H) H ≡ true → code ≡ Purged → PostFollows n code H after
  Failed : active H ≡ None → after ≡ None → has_started n H ≡ false → slice_get (waiting H) 0 ≡ Some (request_named n H) → code ≡ ExtentViolated → PostFollows n code H after
  Doomed : active H ≢ Some n → after ≡ active H → has_started n H ≡ false →
      (rest : List Piece) → doomed H ≡ request_named n H ∷ rest → code ≡ Purged → PostFollows n code H after

-- it is posted next, with this code
pub record IsPostedNext (n : Name) (code : Code) (H : List Entry) : Type 0 where
  pub after : Option Name
  pub follows : PostFollows n code H after

-- a request is posted with an error: nothing is doomed, and the DCB of a related request was opened
pub record ErrorFollows (n : Name) (H : List Entry) : Type 0 where
  pub arrived : has_arrived n H ≡ true
  pub spared : doomed H ≡ []
  pub opened : (request_named n H).related ≡ true → is_opened (request_named n H).dcb H ≡ true

-- a DCB is opened under the next number, and nothing is doomed
pub record OpenFollows (d : ℕ) (e : Entry) (H : List Entry) : Type 0 where
  pub spared : doomed (e ∷ H) ≡ []
  pub next : d ≡ opened_count H + 1
  pub new : is_opened d H ≡ false

-- an entry may follow these entries
abbrev pub IsAfter : Entry → List Entry → Type 0
IsAfter (Arrive r) H = (has_arrived r.name H ≡ false) × (doomed H ≡ [])
IsAfter (Start n) H = StartFollows n H
IsAfter (Post n csw sense code) H = PostFollows n code H (active (Post n csw sense code ∷ H)) × (is_error code ≡ true → ErrorFollows n H)
IsAfter (Opened d method extents) H = OpenFollows d (Opened d method extents) H
IsAfter (Purge scope mode) H = doomed H ≡ []
IsAfter (Close d) H = (doomed H ≡ []) × (is_open d H ≡ true)
IsAfter (Reset d) H = doomed (Reset d ∷ H) ≡ []
IsAfter _ H = Unit {0}

-- each entry follows those before it
unfoldable pub Orderly : List Entry → Type 0
Orderly [] = Unit {0}
Orderly (e ∷ H) = IsAfter e H × Orderly H
