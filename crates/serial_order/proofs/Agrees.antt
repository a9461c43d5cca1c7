-- HOW A TRACE AGREES with a unit that serves its requests one at a time.
use Rattle.unit_book.proofs.Names.{PostedState, ◌≡◌, ℕ, ◌+◌, ◌≤◌, ◌⊎◌, true, false, Some, None, List, [], ◌∷◌, Purged, Meaning, Program}
use Rattle.unit_book.proofs.Names.{after, length_of, Piece, has_started, is_posted, active, starts_of, current, device, flag}
use Rattle.unit_book.proofs.Names.{posted, Each}
use Rattle.unit_book.specs.declared.entry.Entry.{Entry}
use Rattle.serial_order.specs.OneAtATime.{IdleUnit, without_start, is_turned_away, attempts_from, serve, unit_after}
use Rattle.serial_order.specs.Laws.{value_of}

-- a request waits
pub record Waits (H : List Entry) (r : Piece) : Type 0 where
  pub unstarted : has_started r.name H ≡ false
  pub unposted : is_posted r.name H ≡ false

module _ {D : Type 0} (meaning : Meaning D) (mounted : D) where
  -- nothing is active, and the device and the flags of the trace are those of the unit
  pub record Rests (H : List Entry) (u : IdleUnit D) : Type 0 where
    pub idle : active H ≡ None
    pub equals : device meaning mounted H ≡ u.device
    pub flags : (d : ℕ) → flag d H ≡ u.in_error d

  -- a request was posted with this value
  pub record WasPosted (H : List Entry) (r : Piece) (v : PostedState) : Type 0 where
    pub done : is_posted r.name H ≡ true
    pub value : value_of r.name (posted meaning mounted H) ≡ Some v

  module _ (openings : List Entry) where
    -- a request was posted 48 before its turn, and would be turned away in its turn too
    pub record Away (H : List Entry) (u : IdleUnit D) (r : Piece) : Type 0 where
      pub away : is_turned_away openings u r ≡ true
      pub was : WasPosted H r (without_start u r Purged).value

    -- a request whose turn comes later
    abbrev pub Later : List Entry → IdleUnit D → Piece → Type 0
    Later H u r = Waits H r ⊎ Away H u r

    -- a request is active: its newest attempt did some commands, and the attempts from it on give what serving the request gives
    pub record Runs (H : List Entry) (u : IdleUnit D) (r : Piece) : Type 0 where
      pub active : active H ≡ Some r.name
      pub flags : (d : ℕ) → flag d H ≡ u.in_error d
      pub left : ℕ
      pub number : ℕ
      pub eleven : number + left ≡ 11
      pub started : starts_of r.name H ≡ number
      pub begins : Program D
      pub commands : ℕ
      pub fetched : begins.place.fetched ≤ 4096
      pub few : commands ≤ length_of meaning begins
      pub equals : current meaning mounted H ≡ after meaning commands begins
      pub serving : serve meaning mounted openings u r ≡ attempts_from meaning mounted openings left number r begins

    -- the turn of a request: it was served, or is active, or is the first that waits
    pub data Turn (H : List Entry) (u : IdleUnit D) (r : Piece) (served unserved : Type 0) : Type 0 where
      Was : WasPosted H r (serve meaning mounted openings u r).value → served → Turn H u r served unserved
      Is : Runs H u r → unserved → Turn H u r served unserved
      Will : Rests H u → Waits H r → unserved → Turn H u r served unserved

    -- THE TRACE AGREES with a unit that is to serve these requests
    abbrev pub Agrees : List Entry → IdleUnit D → List Piece → Type 0
    Agrees H u [] = Rests H u
    Agrees H u (r ∷ rs) = Turn H u r (Agrees H (unit_after meaning mounted openings u r) rs) (Each (Later H u) rs)
