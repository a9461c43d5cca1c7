-- Worked rows of worlds, by computation: one step after another, from an opening world to a finished one.
use Rattle.unit_book.proofs.Names.{◌≡◌, ℕ, true, List, [], ◌∷◌, refl, arith, Csw, Code, Ended, Purged, Meaning, Printer, after, no_status}
use Rattle.unit_book.proofs.Names.{PostedState, Name, Piece, Started, RanSome, WasPosted, Quiesce, Entry, Opened, Arrive, Ran, Post}
use Rattle.unit_book.proofs.Names.{arrivals, waiting, started, active, request_named, extents_of, flag, attempts, stand, newest, Legal}
use Rattle.unit_book.proofs.Names.{WithVerdict, due, posted, posted_value, MayFirst, Output}
use Rattle.std.proofs.Common.{replicate}
use Rattle.device_port.specs.declared.kind.Flow.TheVariants.{None as NoFlow}
use Rattle.ccw_programs.specs.Links.{chain_within}
use Rattle.ccw_programs.specs.Step.{step, steps_within}
use Rattle.request_piece.specs.declared.scope.Scope.TheVariants.{Dcb}
use Rattle.unit_book.specs.declared.answer.Purging.TheVariants.{Quiet}
use Rattle.unit_book.specs.declared.control.Control.TheVariants.{Purge as PurgeControl}
use Rattle.unit_book.specs.declared.control.Controlling.TheVariants.{Purged as PurgedBy}
use Rattle.unit_book.specs.declared.step.UnitAnswer.TheVariants as answer
use Rattle.unit_book.specs.declared.step.UnitStep.TheVariants as call
use Rattle.unit_book.specs.declared.entry.Entry.TheVariants.{Start as StartOf, Purge as PurgeOf}
use Rattle.unit_book.specs.Trace.{no_request}
use Rattle.unit_book.specs.Book.{opening}
use Rattle.unit_book.specs.World.{World, one_more_of_task, without_first, Accepts, Accept, Take, Call, Deliver}
use Rattle.unit_book.specs.World.{Collect, Reaches, Stay, Go, IsOpening, IsFinished}
use Rattle.unit_book.specs.WorldLaws.{posts_of}

-- a device of which every command ends normally, without data
abbrev quiet : Meaning (Unit {0})
quiet = record {
  kind = λ d. Printer;
  cylinders = λ d. 0;
  heads = λ d. 0;
  flow = λ d command. NoFlow;
  prefix = λ d seek mask. d;
  act = λ d command bytes. record {
    acted = record { unit = record { 0 = 12 }; sub = record { 0 = 0 }; sense = 0; want = 0 };
    device = d;
    bytes = [];
  };
}

-- request k of task 0 for DCB 1: its program is one CCW with a count of 1; the IOB stands behind it, and then the ECB
abbrev n : ℕ → Name
n k = record { task = 0; seq = k }

abbrev r : ℕ → Piece
r k = record no_request {
  name = record { task = 0; seq = k };
  dcb = 1;
  iob = 8;
  ecb = 48;
  area = record { base = 0; bytes = 3 ∷ 0 ∷ 0 ∷ 0 ∷ 0 ∷ 0 ∷ 0 ∷ 1 ∷ replicate 44 0 };
}

-- a world where nothing happened yet but the opening of DCBs, with room for one request on each way
abbrev world : List Entry → World (Unit {0})
world H = record {
  unit = 0;
  intake_room = 1;
  post_room = 1;
  sent = λ task. [];
  flight = [];
  book = record (opening tt 0 1) { trace = H };
  back = λ task. [];
  got = λ task. [];
}

-- task 0 has sent its request 1
abbrev sent : World (Unit {0}) → World (Unit {0})
sent w = record w { sent = one_more_of_task w.sent 0 (r 1); flight = r 1 ∷ [] }

-- the book has this trace, and these values are out
abbrev taken : List Entry → List PostedState → World (Unit {0}) → World (Unit {0})
taken H out w = record w { flight = []; book = record w.book { trace = H; out = out } }

-- the value goes on its way back to task 0
abbrev delivered : PostedState → World (Unit {0}) → World (Unit {0})
delivered v w = record w { book = record w.book { out = [] }; back = one_more_of_task w.back 0 v }

-- task 0 collects it
abbrev collected : PostedState → World (Unit {0}) → World (Unit {0})
collected v w = record w { back = without_first w.back 0; got = one_more_of_task w.got 0 v }

-- the posted value of request 1
abbrev value : Csw → Code → PostedState
value csw code = posted_value (r 1) csw 0 code (r 1).area

-- 1. A REQUEST OF A DCB THAT WAS NEVER OPENED is posted as purged as it arrives
abbrev purged : List Entry
purged = Post (n 1) no_status 0 Purged ∷ Arrive (r 1) ∷ []

abbrev stray_sent : World (Unit {0})
stray_sent = sent (world [])

abbrev stray_taken : World (Unit {0})
stray_taken = taken purged (value no_status Purged ∷ []) stray_sent

abbrev stray_delivered : World (Unit {0})
stray_delivered = delivered (value no_status Purged) stray_taken

abbrev stray_collected : World (Unit {0})
stray_collected = collected (value no_status Purged) stray_delivered

stray_opens : IsOpening quiet (world [])
unfolding Legal
stray_opens = record { legal = tt; opened = refl; out = refl; sent = λ task. refl; flight = refl; back = λ task. refl; got = λ task. refl }

stray_is_purged : Reaches quiet (world []) stray_collected
unfolding arrivals waiting started active request_named flag attempts stand posted posted_value
stray_is_purged =
    Go (Go (Go (Go Stay
    (Accept (r 1) (record { of_unit = refl; next = refl; room = omega arith; is = refl })))
    (Take (record { request = r 1; first = refl; room = omega arith; arrives = refl; is = refl })))
    (Deliver (record { value = value no_status Purged; first = refl; room = omega arith; is = refl })))
    (Collect 0 (record { value = value no_status Purged; first = refl; is = refl }))

stray_is_finished : IsFinished stray_collected × (posts_of (n 1) stray_collected.book.trace ≡ 1)
    × (stray_collected.got 0 ≡ value no_status Purged ∷ [])
unfolding arrivals waiting started active
stray_is_finished = (record { flight = refl; waiting = refl; active = refl }, refl, refl)

-- 2. A REQUEST WHOSE PROGRAM IS ONE COMMAND is started, run to its end and posted 7F
abbrev normal_end : Csw
normal_end = record { address = 8; unit = record { 0 = 12 }; sub = record { 0 = 0 }; residual = 1 }

abbrev opened : List Entry
opened = Opened 1 Output [] ∷ []

abbrev arrived : List Entry
arrived = Arrive (r 1) ∷ opened

abbrev running : List Entry
running = StartOf (n 1) ∷ arrived

abbrev ended : List Entry
ended = Ran (n 1) 1 ∷ running

abbrev over : List Entry
over = Post (n 1) normal_end 0 Ended ∷ ended

abbrev began : World (Unit {0})
began = world opened

abbrev ready : World (Unit {0})
ready = sent began

abbrev posted_world : World (Unit {0})
posted_world = taken over (value normal_end Ended ∷ []) ready

abbrev done : World (Unit {0})
done = collected (value normal_end Ended) (delivered (value normal_end Ended) posted_world)

began_opens : IsOpening quiet began
unfolding Legal due arrivals waiting started active flag
began_opens = record {
  legal = (record { next = refl; few = omega arith; taken = refl }, tt);
  opened = refl;
  out = refl;
  sent = λ task. refl;
  flight = refl;
  back = λ task. refl;
  got = λ task. refl;
}

request_is_posted : Reaches quiet began done
unfolding arrivals waiting started active request_named flag extents_of attempts stand newest chain_within step after steps_within posted
    posted_value
request_is_posted =
    let w1 : Reaches quiet began ready = Go Stay (Accept (r 1) (record { of_unit = refl; next = refl; room = omega arith; is = refl })) in
    let w2 : Reaches quiet began (taken arrived [] ready)
    = Go w1 (Take (record { request = r 1; first = refl; room = omega arith; arrives = refl; is = refl })) in
    let w3 : Reaches quiet began (taken running [] ready)
    = Go w2 (Call call.Start (answer.Started (Started (n 1))) (MayFirst (record { none = refl; request = r 1; first = refl; name = refl; passes = refl }), refl)
    refl) in
    let w4 : Reaches quiet began (taken ended [] ready)
    = Go w3 (Call (call.Run 5) (answer.Ran (RanSome 1 true))
    (omega arith, record { name = n 1; running = refl; count = refl; adds = refl; pending_is = refl }) refl) in
    let w5 : Reaches quiet began posted_world
    = Go w4 (Call call.Interrupt (answer.Interrupted (WasPosted (n 1) Ended)) (
      refl,
      record {
        status = record { csw = normal_end; sense = 0 };
        fits = record { active = refl; as_ended = WithVerdict refl refl };
        extends = refl;
      },
    )
    refl) in
    let w6 : Reaches quiet began (delivered (value normal_end Ended) posted_world)
    = Go w5 (Deliver (record { value = value normal_end Ended; first = refl; room = omega arith; is = refl })) in
    Go w6 (Collect 0 (record { value = value normal_end Ended; first = refl; is = refl }))

request_is_finished : IsFinished done × (posts_of (n 1) done.book.trace ≡ 1) × (done.got 0 ≡ value normal_end Ended ∷ [])
unfolding arrivals waiting started active
request_is_finished = (record { flight = refl; waiting = refl; active = refl }, refl, refl)

-- 3. A PURGE OF ITS DCB posts a request that waits, which leaves the world finished though the value is still out
abbrev swept : List Entry
swept = Post (n 1) no_status 0 Purged ∷ PurgeOf (Dcb 1) Quiesce ∷ arrived

abbrev swept_world : World (Unit {0})
swept_world = taken swept (value no_status Purged ∷ []) ready

purge_posts : Reaches quiet began swept_world × IsFinished swept_world × (posts_of (n 1) swept_world.book.trace ≡ 1)
unfolding arrivals waiting started active request_named flag attempts stand posted posted_value due
purge_posts =
    let w1 : Reaches quiet began ready = Go Stay (Accept (r 1) (record { of_unit = refl; next = refl; room = omega arith; is = refl })) in
    let w2 : Reaches quiet began (taken arrived [] ready)
    = Go w1 (Take (record { request = r 1; first = refl; room = omega arith; arrives = refl; is = refl })) in
    let w3 : Reaches quiet began swept_world
    = Go w2 (Call (call.Control (PurgeControl (Dcb 1) Quiesce)) (answer.Controlled (PurgedBy Quiet))
    (refl, record { purges = refl; answer_is = refl }) refl) in
    (w3, record { flight = refl; waiting = refl; active = refl }, refl)

-- 4. A task's second request is not accepted before its first, nor one for another unit, nor a second one where the
--    intake is full
none_out_of_turn : (w : World (Unit {0})) → Accepts (world []) (r 2) w → ⊥
none_out_of_turn w s = omega (arith, s.next)

none_for_another : (w : World (Unit {0})) → Accepts (record (world []) { unit = 1 }) (r 1) w → ⊥
none_for_another w s = omega (arith, s.of_unit)

none_beyond_room : (w : World (Unit {0})) → Accepts (sent (world [])) (r 2) w → ⊥
none_beyond_room w s = omega (arith, s.room)
