-- LAWS OF TRACES WITHOUT CONTROLS: each request has the post that it has if the unit serves one at a time (profile).
use Rattle.std.specs.Prelude.{◌≡◌, ◌<◌, ◌==◌, ℕ, Bool, true, false, not, ◌&&◌, Option, Some, List, [], ◌∷◌, map, slice_get}
use Rattle.std.specs.List.{find, list_all}
use Rattle.io_images.specs.Codes.{is_error}
use Rattle.io_images.specs.declared.code.Code.TheVariants.{Purged}
use Rattle.device_port.specs.Meaning.{Meaning}
use Rattle.request_piece.specs.PostedState.{PostedState}
use Rattle.request_piece.specs.declared.piece.Name.{Name}
use Rattle.request_piece.specs.declared.piece.Piece.{Piece}
use Rattle.unit_book.specs.declared.entry.Entry.{Entry}
use Rattle.unit_book.specs.declared.entry.Entry.TheVariants.{Opened, Purge, Close, Reset}
use Rattle.unit_book.specs.Trace.{same, is_posted, arrivals}
use Rattle.unit_book.specs.Dcbs.{is_opened, openings}
use Rattle.unit_book.specs.Legal.{Legal}
use Rattle.unit_book.specs.Media.{device}
use Rattle.unit_book.specs.Posts.{posted}
use Rattle.unit_book.specs.Settle.{IsIdle}
use Rattle.serial_order.specs.OneAtATime.{one_at_a_time, device_after}

-- the entry is a purge, a close or a reset
abbrev pub is_controlling : Entry → Bool
is_controlling (Purge scope mode) = true
is_controlling (Close d) = true
is_controlling (Reset d) = true
is_controlling _ = false

-- each DCB was opened before the first request for it arrived
unfoldable pub opens_before : List Entry → Bool
opens_before [] = true
opens_before (Opened d method extents ∷ H) = list_all (λ r. not (d == r.dcb)) (arrivals H) && opens_before H
opens_before (_ ∷ H) = opens_before H

-- the posted value of a name
abbrev pub value_of : Name → List PostedState → Option PostedState
value_of n vs = find (λ v. same v.name n) vs

module _ {D : Type 0} (meaning : Meaning D) (mounted : D) where
  -- A TRACE WITHOUT CONTROLS
  pub record IsUncontrolled (H : List Entry) : Type 0 where
    -- it is legal
    pub legal : Legal meaning mounted H
    -- nothing is purged, closed or reset
    pub uncontrolled : list_all (λ e. not (is_controlling e)) H ≡ true
    -- each DCB is opened before the first request for it arrives
    pub opened : opens_before H ≡ true

  -- the posted values of the arrivals, in their order, each found by its name
  abbrev pub by_arrival : List Entry → List (Option PostedState)
  by_arrival H = map (λ r. value_of r.name (posted meaning mounted H)) (arrivals H)

  -- the posted values of the arrivals if the unit serves them one at a time
  abbrev pub served_in_order : List Entry → List PostedState
  served_in_order H = one_at_a_time meaning mounted (openings H) (arrivals H)

-- the request at an index comes after a related one to its DCB that ended in error: of these requests and their posted values
pub record FollowsError (rs : List Piece) (vs : List PostedState) (at : ℕ) (r : Piece) : Type 0 where
  pub earlier : ℕ
  pub before : earlier < at
  pub cause : Piece
  pub arrived : slice_get rs earlier ≡ Some cause
  pub related : cause.related ≡ true
  pub same_dcb : cause.dcb ≡ r.dcb
  pub value : PostedState
  pub posted : slice_get vs earlier ≡ Some value
  pub in_error : is_error value.code ≡ true

-- A UNIT SERVES ITS REQUESTS AS IF ONE AT A TIME, in order of arrival
pub record ServesInOrder {D : Type 0} (meaning : Meaning D) : Type 0 where
  -- at any time, a request that was posted has its value of one at a time
  pub posts : (mounted : D) (H : List Entry) → IsUncontrolled meaning mounted H → (at : ℕ) (r : Piece) →
      slice_get (arrivals H) at ≡ Some r → is_posted r.name H ≡ true →
      value_of r.name (posted meaning mounted H) ≡ slice_get (served_in_order meaning mounted H) at
  -- in an idle trace all arrivals have theirs
  pub values : (mounted : D) (H : List Entry) → IsUncontrolled meaning mounted H → IsIdle H →
      by_arrival meaning mounted H ≡ map Some (served_in_order meaning mounted H)
  -- the device of an idle trace is the one after serving the arrivals one at a time
  pub same_device : (mounted : D) (H : List Entry) → IsUncontrolled meaning mounted H → IsIdle H →
      device meaning mounted H ≡ device_after meaning mounted (openings H) (arrivals H)
  -- of a DCB that was opened, only a related request after an error has code 48
  pub purged : (mounted : D) (O : List Entry) (rs : List Piece) (at : ℕ) (r : Piece) (v : PostedState) → slice_get rs at ≡ Some r →
      slice_get (one_at_a_time meaning mounted O rs) at ≡ Some v → v.code ≡ Purged → is_opened r.dcb O ≡ true →
      (r.related ≡ true) × FollowsError rs (one_at_a_time meaning mounted O rs) at r
  -- in idle traces, openings and arrivals determine each request's value and the device, but not the order of posts
  pub determined : (mounted : D) (G H : List Entry) → IsUncontrolled meaning mounted G → IsUncontrolled meaning mounted H →
      IsIdle G → IsIdle H → openings G ≡ openings H → arrivals G ≡ arrivals H →
      (by_arrival meaning mounted G ≡ by_arrival meaning mounted H) × (device meaning mounted G ≡ device meaning mounted H)
