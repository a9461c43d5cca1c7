-- Worked rows, by computation: the words on concrete traces, newest entry first.
use Rattle.unit_book.proofs.Names.{◌≡◌, ℕ, Bool, true, false, Some, None, List, [], ◌∷◌, refl, Ended, ExtentViolated, Purged, Extent}
use Rattle.unit_book.proofs.Names.{Printer, no_status, Retry, Final, Name, Piece, Quiesce, Halt, Entry, Opened, Arrive, Start, Ran, Halted}
use Rattle.unit_book.proofs.Names.{Purge, Close, Reset, Post, arrivals, arrived_of, waiting, started, active, request_named, starts_of}
use Rattle.unit_book.proofs.Names.{is_covered, is_halted, passes_check, extents_of, mask_of, flag, doomed, after_dooms, Input, Output}
use Rattle.io_images.specs.declared.code.Code.TheVariants.{PermanentError}
use Rattle.io_images.specs.declared.seek.Seek.{Seek}
use Rattle.device_port.specs.declared.kind.Kind.TheVariants.{Disk, Tape}
use Rattle.request_piece.specs.declared.scope.Scope.TheVariants.{Dcb, Task}
use Rattle.unit_book.specs.declared.dcb.DcbState.TheVariants.{Unknown, Open, Closing, Closed}
use Rattle.unit_book.specs.Trace.{no_request}
use Rattle.unit_book.specs.Extents.{takes_extents}
use Rattle.unit_book.specs.Dcbs.{dcb_state, is_refused}
use Rattle.unit_book.specs.Fields.{ended_code}
use Rattle.unit_book.specs.Laws.{first_starts, waits, is_active}

-- request k of task 0
n : ℕ → Name
n k = record { task = 0; seq = k }

-- it is for this DCB, related or not
r : ℕ → ℕ → Bool → Piece
r k d related = record no_request { name = record { task = 0; seq = k }; dcb = d; related = related }

-- an extent from one track to another
extent : ℕ → ℕ → ℕ → ℕ → ℕ → Extent
extent start_cylinder start_head end_cylinder end_head tracks = record {
  file_mask = 0x18;
  unit_block = 0;
  bin = 0;
  start_cylinder = start_cylinder;
  start_head = start_head;
  end_cylinder = end_cylinder;
  end_head = end_head;
  tracks = tracks;
}

-- the one track of the fixture, and tracks 1 and 2 of a disk with two heads
one_track : Extent
one_track = extent 0 0 0 0 1

across : Extent
across = extent 0 1 1 0 2

seek : ℕ → ℕ → ℕ → ℕ → Seek
seek m bin cylinder head = record { extent = m; bin = bin; cylinder = cylinder; head = head; «record» = 1 }

-- 1. A purge that quiesces while r1 (DCB 1) is active and r2 (DCB 1), r3 (DCB 2) wait
quiesced : List Entry
quiesced =
    Purge (Dcb 1) Quiesce ∷ Start (n 1) ∷ Arrive (r 3 2 false) ∷ Arrive (r 2 1 false) ∷ Arrive (r 1 1 false)
    ∷ Opened 2 Output [] ∷ Opened 1 Output [] ∷ []

quiesce_lets_active_end : (waiting quiesced ≡ r 2 1 false ∷ r 3 2 false ∷ []) × (active quiesced ≡ Some (n 1))
    × (doomed quiesced ≡ r 2 1 false ∷ [])
    × (waiting (after_dooms quiesced) ≡ r 3 2 false ∷ []) × (active (after_dooms quiesced) ≡ Some (n 1))
    × (doomed (after_dooms quiesced) ≡ [])
unfolding quiesced r n waiting arrivals active started flag
quiesce_lets_active_end = (refl, refl, refl, refl, refl, refl)

-- 2. A purge of a task takes the requests of all its DCBs
of_task : (doomed (Purge (Task 0) Quiesce ∷ Arrive (r 2 2 false) ∷ Arrive (r 1 1 false) ∷ Opened 2 Output [] ∷ Opened 1 Output [] ∷ [])
    ≡ r 1 1 false ∷ r 2 2 false ∷ [])
    × (doomed (Arrive (r 1 1 false) ∷ Purge (Task 0) Quiesce ∷ Opened 1 Output [] ∷ []) ≡ [])
unfolding r waiting arrivals flag
of_task = (refl, refl)

-- 3. A related request ended in error; a related one behind it is doomed, an unrelated one is not
in_error : List Entry
in_error =
    Post (n 1) no_status 0 PermanentError ∷ Start (n 1) ∷ Arrive (r 3 1 false) ∷ Arrive (r 2 1 true) ∷ Arrive (r 1 1 true)
    ∷ Opened 1 Output [] ∷ []

related_error_flags_dcb_until_reset : (flag 1 in_error ≡ true) × (doomed in_error ≡ r 2 1 true ∷ [])
    × (is_refused (r 4 1 true) in_error ≡ true)
    × (is_refused (r 4 1 false) in_error ≡ false) × (flag 1 (Reset 1 ∷ in_error) ≡ false)
    × (is_refused (r 4 1 true) (Reset 1 ∷ in_error) ≡ false)
unfolding in_error r n waiting arrivals flag request_named
related_error_flags_dcb_until_reset = (refl, refl, refl, refl, refl, refl)

-- 4. The same error of an unrelated request dooms nothing
unrelated : List Entry
unrelated =
    Post (n 1) no_status 0 PermanentError ∷ Start (n 1) ∷ Arrive (r 3 1 false) ∷ Arrive (r 2 1 true) ∷ Arrive (r 1 1 false)
    ∷ Opened 1 Output [] ∷ []

unrelated_error_dooms_nothing : (flag 1 unrelated ≡ false) × (doomed unrelated ≡ [])
unfolding unrelated r n waiting arrivals flag request_named
unrelated_error_dooms_nothing = (refl, refl)

-- 5. A close while r1 is active and r2 waits, then the post of r1
closing : List Entry
closing = Close 1 ∷ Start (n 1) ∷ Arrive (r 2 1 false) ∷ Arrive (r 1 1 false) ∷ Opened 1 Output [] ∷ []

close_lets_active_retry : (dcb_state 1 closing ≡ Closing) × (doomed closing ≡ r 2 1 false ∷ [])
    × (dcb_state 1 (Post (n 1) no_status 0 Ended ∷ after_dooms closing) ≡ Closed) × (is_refused (r 5 1 false) closing ≡ true)
unfolding closing r n waiting arrivals active started request_named flag
close_lets_active_retry = (refl, refl, refl, refl)

-- 6. A DCB that was never opened
unknown_dcb : (dcb_state 9 closing ≡ Unknown) × (flag 9 closing ≡ false) × (is_refused (r 3 9 false) closing ≡ true)
    × (dcb_state 1 (Opened 1 Output [] ∷ []) ≡ Open)
unfolding closing r flag active started
unknown_dcb = (refl, refl, refl, refl)

-- 7. Extents that may not be opened on a disk of one track: two tracks where there is one, an end outside, none at
-- all; on a tape one
extent_faults : (takes_extents Disk 1 1 (extent 0 0 0 0 2 ∷ []) ≡ false) × (takes_extents Disk 1 1 (extent 0 0 1 0 2 ∷ []) ≡ false)
    × (takes_extents Disk 1 1 [] ≡ false) × (takes_extents Tape 0 0 (one_track ∷ []) ≡ false)
unfolding extent one_track
extent_faults = (refl, refl, refl, refl)

-- 8. Extents that may be
extents_taken : (takes_extents Disk 1 1 (one_track ∷ []) ≡ true) × (takes_extents Disk 2 2 (one_track ∷ across ∷ []) ≡ true)
    × (takes_extents Tape 0 0 [] ≡ true) × (takes_extents Printer 0 0 [] ≡ true)
unfolding extent one_track across
extents_taken = (refl, refl, refl, refl)

-- 9. THE EXTENT CHECK on two cylinders with two heads: in the second extent, behind its end, in no extent of that
--    number, before
-- the first one's, past the heads, with a bin
extent_check : (passes_check Disk 2 (one_track ∷ across ∷ []) (seek 1 0 1 0) ≡ true)
    × (passes_check Disk 2 (one_track ∷ across ∷ []) (seek 1 0 1 1) ≡ false)
    × (passes_check Disk 2 (one_track ∷ across ∷ []) (seek 2 0 0 0) ≡ false)
    × (passes_check Disk 2 (one_track ∷ across ∷ []) (seek 0 0 1 0) ≡ false)
    × (passes_check Disk 2 (one_track ∷ across ∷ []) (seek 1 0 0 2) ≡ false)
    × (passes_check Disk 2 (one_track ∷ across ∷ []) (seek 0 1 0 0) ≡ false)
    × (passes_check Tape 0 [] (seek 7 1 2 3) ≡ true)
unfolding extent one_track across seek
extent_check = (refl, refl, refl, refl, refl, refl, refl)

-- 10. Each DCB has its extents and its mask
masks : List Entry
masks = Opened 2 Input (across ∷ []) ∷ Opened 1 Output (one_track ∷ []) ∷ []

dcbs_differ : (mask_of 1 masks ≡ 0x18) × (mask_of 2 masks ≡ 0x58) × (extents_of 1 masks ≡ one_track ∷ [])
    × (extents_of 2 masks ≡ across ∷ [])
unfolding masks extents_of
dcbs_differ = (refl, refl, refl, refl)

-- 11. A purge covers the active request if it is with Halt, of its DCB or its task, and behind its last Start
covering : List Entry → Entry → Bool
covering H e = is_covered (r 1 1 false) (e ∷ H)

once : List Entry
once = Start (n 1) ∷ Arrive (r 1 1 false) ∷ Opened 1 Output [] ∷ []

halts_cover : (covering once (Purge (Dcb 1) Halt) ≡ true) × (covering once (Purge (Task 0) Halt) ≡ true)
    × (covering once (Purge (Dcb 1) Quiesce) ≡ false)
    × (covering once (Purge (Dcb 2) Halt) ≡ false) × (is_covered (r 1 1 false) (Start (n 1) ∷ Purge (Dcb 1) Halt ∷ once) ≡ false)
    × (is_halted (n 1) (Halted (n 1) ∷ Purge (Dcb 1) Halt ∷ once) ≡ true)
unfolding covering once r n
halts_cover = (refl, refl, refl, refl, refl, refl)

-- 12. A covered request that would be tried again is purged, one with a final verdict is not
covered_codes : (ended_code Retry true ≡ Some Purged) × (ended_code Retry false ≡ None) × (ended_code (Final Ended) true ≡ Some Ended)
    × (ended_code (Final PermanentError) true ≡ Some PermanentError)
covered_codes = (refl, refl, refl, refl)

-- 13. Two Starts of r1, whose Post lets r2 start: places, numbers and order of first Starts
retried : List Entry
retried =
    Start (n 2) ∷ Post (n 1) no_status 0 Ended ∷ Start (n 1) ∷ Ran (n 1) 1 ∷ Start (n 1) ∷ Arrive (r 3 1 false) ∷ Arrive
    (r 2 1 false) ∷ Arrive (r 1 1 false)
    ∷ Opened 1 Output [] ∷ []

starts_and_places : (starts_of (n 1) retried ≡ 2) × (first_starts retried ≡ n 1 ∷ n 2 ∷ []) × (active retried ≡ Some (n 2))
    × (waits (n 3) retried ≡ true)
    × (waits (n 1) retried ≡ false) × (is_active (n 1) retried ≡ false) × (arrived_of 0 retried ≡ 3) × (arrived_of 1 retried ≡ 0)
unfolding retried r n waiting arrivals active started first_starts
starts_and_places = (refl, refl, refl, refl, refl, refl, refl, refl)

-- 14. A first request that violates its extents is posted without a Start, and flags its DCB if it is related
violated : List Entry
violated = Post (n 1) no_status 0 ExtentViolated ∷ Arrive (r 2 1 true) ∷ Arrive (r 1 1 true) ∷ Opened 1 Output (one_track ∷ []) ∷ []

extent_violation_dooms_related : (flag 1 violated ≡ true) × (doomed violated ≡ r 2 1 true ∷ []) × (waiting (after_dooms violated) ≡ [])
    × (first_starts (after_dooms violated) ≡ [])
unfolding violated r n waiting arrivals flag request_named first_starts
extent_violation_dooms_related = (refl, refl, refl, refl)
