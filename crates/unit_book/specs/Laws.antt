-- LAWS OF LEGAL TRACES (profile).
use Rattle.std.specs.Prelude.{◌≡◌, ◌≤◌, ℕ, ◌+◌, Bool, true, false, if◌then◌else◌, Option, Some, None, List, [], ◌∷◌, ◌++◌, map}
use Rattle.std.specs.List.{filter, list_any}
use Rattle.io_images.specs.declared.csw.Csw.{Csw}
use Rattle.io_images.specs.declared.code.Code.{Code}
use Rattle.device_port.specs.Meaning.{Meaning}
use Rattle.request_piece.specs.declared.piece.Name.{Name}
use Rattle.request_piece.specs.declared.piece.Piece.{Piece}
use Rattle.unit_book.specs.declared.entry.Entry.{Entry}
use Rattle.unit_book.specs.declared.entry.Entry.TheVariants.{Arrive, Start, Ran, Halted, Close, Post}
use Rattle.unit_book.specs.Trace.{same, starts, arrivals, has_arrived, has_started, is_posted, waiting, active, request_named, starts_of}
use Rattle.unit_book.specs.Trace.{is_covered}
use Rattle.unit_book.specs.Dcbs.{is_closed, flag, doomed}
use Rattle.unit_book.specs.Legal.{Legal}

-- the entry is of this name
abbrev pub is_of_name : Name → Entry → Bool
is_of_name n (Arrive r) = same r.name n
is_of_name n (Start m) = same m n
is_of_name n (Ran m j) = same m n
is_of_name n (Halted m) = same m n
is_of_name n (Post m csw sense code) = same m n
is_of_name n _ = false

-- A POST IS THE LAST ENTRY of its name: no later one is of it, so there is one Post at most
abbrev pub PostsLast : {D : Type 0} → Meaning D → Type 0
PostsLast {D} meaning = (mounted : D) (n : Name) (csw : Csw) (sense : ℕ) (code : Code) (later earlier : List Entry) →
    Legal meaning mounted (later ++ Post n csw sense code ∷ earlier) → list_any (is_of_name n) later ≡ false

-- a request of the name waits
abbrev pub waits : Name → List Entry → Bool
waits n H = list_any (λ r. same r.name n) (waiting H)

-- the name is that of the active request
abbrev pub is_one : Name → Option Name → Bool
is_one n None = false
is_one n (Some m) = same m n

abbrev pub is_active : Name → List Entry → Bool
is_active n H = is_one n (active H)

abbrev pub times : Bool → ℕ
times b = if b then 1 else 0

-- A NAME THAT ARRIVED HAS ONE PLACE: it waits, is active or was posted, and just one of these
abbrev pub OnePlace : {D : Type 0} → Meaning D → Type 0
OnePlace {D} meaning = (mounted : D) (n : Name) (H : List Entry) → Legal meaning mounted H → has_arrived n H ≡ true →
    times (waits n H) + times (is_active n H) + times (is_posted n H) ≡ 1

-- the names of the first Starts, in order
unfoldable pub first_starts : List Entry → List Name
first_starts [] = []
first_starts (Start n ∷ H) = if has_started n H then first_starts H else first_starts H ++ n ∷ []
first_starts (_ ∷ H) = first_starts H

-- THE FIRST STARTS ARE A SUBSEQUENCE OF THE ARRIVALS: they are the arrivals that were started, in order of arrival
abbrev pub StartsInOrder : {D : Type 0} → Meaning D → Type 0
StartsInOrder {D} meaning = (mounted : D) (H : List Entry) → Legal meaning mounted H →
    first_starts H ≡ map (λ r. r.name) (filter (λ r. has_started r.name H) (arrivals H))

-- NOTHING DOOMED IS STARTED
pub record NoDoomedStarts {D : Type 0} (meaning : Meaning D) : Type 0 where
  -- what was doomed has no later Start
  pub of_doomed : (mounted : D) (r : Piece) (later earlier : List Entry) → Legal meaning mounted (later ++ earlier) →
      list_any (λ q. same q.name r.name) (doomed earlier) ≡ true → list_any (starts r.name) later ≡ false
  -- what was started and then covered by a purge with Halt has no later Start
  pub of_covered : (mounted : D) (n : Name) (later earlier : List Entry) → Legal meaning mounted (later ++ earlier) →
      has_started n earlier ≡ true → is_covered (request_named n earlier) earlier ≡ true → list_any (starts n) later ≡ false
  -- a Start for a DCB that was closed is no first one
  pub of_closed : (mounted : D) (n : Name) (H : List Entry) → Legal meaning mounted (Start n ∷ H) →
      is_closed (request_named n H).dcb H ≡ true → has_started n H ≡ true
  -- it is of the request that was active when the DCB was closed
  pub of_closing : (mounted : D) (n : Name) (d : ℕ) (later earlier : List Entry) →
      Legal meaning mounted (Start n ∷ later ++ Close d ∷ earlier) →
      (request_named n (later ++ Close d ∷ earlier)).dcb ≡ d → active earlier ≡ Some n
  -- a Start of a related request whose DCB has the flag is no first one
  pub of_flagged : (mounted : D) (n : Name) (H : List Entry) → Legal meaning mounted (Start n ∷ H) →
      (request_named n H).related ≡ true → flag (request_named n H).dcb H ≡ true → has_started n H ≡ true

-- AT MOST ONE REQUEST IS ACTIVE, and each has at most eleven Starts
pub record FewStarts {D : Type 0} (meaning : Meaning D) : Type 0 where
  pub one_active : (mounted : D) (n m : Name) (H : List Entry) → Legal meaning mounted H →
      has_started n H ≡ true → is_posted n H ≡ false → has_started m H ≡ true → is_posted m H ≡ false → n ≡ m
  pub eleven_starts : (mounted : D) (n : Name) (H : List Entry) → Legal meaning mounted H → starts_of n H ≤ 11
