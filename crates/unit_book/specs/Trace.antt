-- THE TRACE of a unit, newest entry first: the entries before an entry are its tail. Each word below reads a whole
-- trace (profile).
use Rattle.std.specs.Prelude.{ℕ, ◌==◌, Bool, true, false, not, ◌&&◌, ◌||◌, if◌then◌else◌, Option, List, [], ◌∷◌, ◌++◌, length}
use Rattle.std.specs.List.{filter, find, list_any}
use Rattle.request_piece.specs.declared.piece.Name.{Name}
use Rattle.request_piece.specs.declared.piece.Piece.{Piece}
use Rattle.request_piece.specs.Scope.{covers}
use Rattle.unit_book.specs.declared.entry.Mode.{Mode}
use Rattle.unit_book.specs.declared.entry.Mode.TheVariants.{Quiesce, Halt}
use Rattle.unit_book.specs.declared.dcb.ProcessingMethod.{ProcessingMethod}
use Rattle.unit_book.specs.declared.dcb.ProcessingMethod.TheVariants.{Input, Output}
use Rattle.unit_book.specs.declared.entry.Entry.{Entry}
use Rattle.unit_book.specs.declared.entry.Entry.TheVariants.{Opened, Arrive, Start, Halted, Purge, Close, Post}

-- THE KINDS OF ENTRY

-- two names are one
abbrev pub same : Name → Name → Bool
same a b = (a.task == b.task) && (a.seq == b.seq)

-- the entry is a Start of this name
abbrev pub starts : Name → Entry → Bool
starts n (Start m) = same m n
starts n _ = false

-- the entry is a Post of this name
abbrev pub posts : Name → Entry → Bool
posts n (Post m csw sense code) = same m n
posts n _ = false

-- the entry is a Halted of this name
abbrev pub halts : Name → Entry → Bool
halts n (Halted m) = same m n
halts n _ = false

-- the entry is the Arrive of this name
abbrev pub arrives : Name → Entry → Bool
arrives n (Arrive r) = same r.name n
arrives n _ = false

-- the entry is a purge that covers the request
abbrev pub purges : Piece → Entry → Bool
purges r (Purge scope mode) = covers scope r
purges r _ = false

abbrev pub is_halt : Mode → Bool
is_halt Quiesce = false
is_halt Halt = true

-- the entry is a purge with Halt that covers the request
abbrev pub purges_halting : Piece → Entry → Bool
purges_halting r (Purge scope mode) = covers scope r && is_halt mode
purges_halting r _ = false

-- the entry opens this DCB
abbrev pub opens : ℕ → Entry → Bool
opens d (Opened c method extents) = c == d
opens d _ = false

abbrev pub is_input : ProcessingMethod → Bool
is_input Input = true
is_input Output = false

-- the entry opens this DCB for input
abbrev pub opens_for_input : ℕ → Entry → Bool
opens_for_input d (Opened c method extents) = (c == d) && is_input method
opens_for_input d _ = false

-- the entry opens a DCB
abbrev pub is_opening : Entry → Bool
is_opening (Opened c method extents) = true
is_opening _ = false

-- the entry closes this DCB
abbrev pub closes : ℕ → Entry → Bool
closes d (Close c) = c == d
closes d _ = false

-- THE FILTERS

-- the requests that arrived, in order
unfoldable pub arrivals : List Entry → List Piece
arrivals [] = []
arrivals (Arrive r ∷ H) = arrivals H ++ r ∷ []
arrivals (_ ∷ H) = arrivals H

-- how many requests of a task arrived
abbrev pub arrived_of : ℕ → List Entry → ℕ
arrived_of task H = length (filter (λ r. r.name.task == task) (arrivals H))

-- a request of this name arrived
abbrev pub has_arrived : Name → List Entry → Bool
has_arrived n H = list_any (arrives n) H

-- the name has a Start
abbrev pub has_started : Name → List Entry → Bool
has_started n H = list_any (starts n) H

-- the name has a Post
abbrev pub is_posted : Name → List Entry → Bool
is_posted n H = list_any (posts n) H

-- WAITING: the requests that arrived and have neither Start nor Post, in order of arrival
unfoldable pub waiting : List Entry → List Piece
waiting H = filter (λ r. not (has_started r.name H || is_posted r.name H)) (arrivals H)

-- the names of the Starts, newest first
unfoldable pub started : List Entry → List Name
started [] = []
started (Start n ∷ H) = n ∷ started H
started (_ ∷ H) = started H

-- ACTIVE: the name with a Start and no Post
unfoldable pub active : List Entry → Option Name
active H = find (λ n. not (is_posted n H)) (started H)

-- this request never comes
abbrev pub no_request : Piece
no_request = record {
  name = record { task = 0; seq = 0 };
  unit = 0;
  dcb = 0;
  related = false;
  start = 0;
  seek = record { extent = 0; bin = 0; cylinder = 0; head = 0; «record» = 0 };
  iob = 0;
  ecb = 0;
  area = record { base = 0; bytes = [] };
}

-- the request of a name
unfoldable pub request_named : Name → List Entry → Piece
request_named n [] = no_request
request_named n (Arrive r ∷ H) = if same r.name n then r else request_named n H
request_named n (_ ∷ H) = request_named n H

-- how many Starts of a name are in the trace
abbrev pub starts_of : Name → List Entry → ℕ
starts_of n H = length (filter (starts n) H)

-- the entries after the last one that passes
abbrev pub since : (Entry → Bool) → List Entry → List Entry
since test [] = []
since test (e ∷ H) = if test e then [] else e ∷ since test H

-- a Halted of the name is after its last Start
abbrev pub is_halted : Name → List Entry → Bool
is_halted n H = list_any (halts n) (since (starts n) H)

-- COVERED: a purge with Halt that covers the request is after its last Start
abbrev pub is_covered : Piece → List Entry → Bool
is_covered r H = list_any (purges_halting r) (since (starts r.name) H)

-- a purge that covers the request is after its Arrive
abbrev pub is_purged : Piece → List Entry → Bool
is_purged r H = list_any (purges r) (since (arrives r.name) H)
