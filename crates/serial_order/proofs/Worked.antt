-- Worked row, by computation: a trace without controls, of three requests whose programs end at once. The first, which is
-- related, ends in error, so the third, which is related, is posted before the second. Another DCB is opened between.
use Rattle.unit_book.proofs.Names.{◌≡◌, ℕ, ◌+◌, Bool, true, false, List, [], ◌∷◌, map, refl, arith, Purged, Printer, Name, Piece, Meaning}
use Rattle.unit_book.proofs.Names.{after, posted, posted_value, extents_of, flag, attempts, stand, newest, request_named, active, started}
use Rattle.unit_book.proofs.Names.{Csw, waiting, arrivals, due, Legal, First, OfActive, WithVerdict, no_status}
use Rattle.io_images.specs.Bits.{program_check_bit}
use Rattle.io_images.specs.declared.code.Code.TheVariants.{PermanentError}
use Rattle.device_port.specs.declared.kind.Flow.TheVariants.{None as NoFlow}
use Rattle.ccw_programs.specs.Step.{step, steps_within}
use Rattle.ccw_programs.specs.Links.{chain_within}
use Rattle.unit_book.specs.declared.dcb.ProcessingMethod.TheVariants.{Output}
use Rattle.unit_book.specs.declared.entry.Entry.{Entry}
use Rattle.unit_book.specs.declared.entry.Entry.TheVariants.{Opened, Arrive, Start, Ran, Post}
use Rattle.unit_book.specs.Settle.{IsIdle}
use Rattle.unit_book.specs.Trace.{no_request}
use Rattle.unit_book.specs.Dcbs.{openings}
use Rattle.serial_order.specs.OneAtATime.{attempts_from, serve_all, after_all, one_at_a_time, device_after}
use Rattle.serial_order.specs.Laws.{IsUncontrolled, opens_before}

-- a device that counts its prefixes
counter : Meaning ℕ
counter = record {
  kind = λ d. Printer;
  cylinders = λ d. 0;
  heads = λ d. 0;
  flow = λ d command. NoFlow;
  prefix = λ d seek mask. d + 1;
  act = λ d command bytes. record {
    acted = record { unit = record { 0 = 12 }; sub = record { 0 = 0 }; want = 0; sense = 0 };
    device = d;
    bytes = [];
  };
}

-- request k of task 0, for DCB 1, related or not; its area has no CCW
r : ℕ → Bool → Piece
r k related = record no_request { name = record { task = 0; seq = k }; dcb = 1; related = related }

-- the name of request k
n : ℕ → Name
n k = record { task = 0; seq = k }

-- the status of a program check at address 0
checked : Csw
checked = record { address = 8; unit = record { 0 = 0 }; sub = record { 0 = program_check_bit }; residual = 0 }

-- the first request and the third were posted
half : List Entry
half =
    Post (n 3) no_status 0 Purged ∷ Post (n 1) checked 0 PermanentError ∷ Ran (n 1) 1 ∷ Start (n 1)
    ∷ Arrive (r 3 true) ∷ Arrive (r 2 false) ∷ Opened 2 Output [] ∷ Arrive (r 1 true) ∷ Opened 1 Output [] ∷ []

-- then the second was served
run : List Entry
run = Post (n 2) checked 0 PermanentError ∷ Ran (n 2) 1 ∷ Start (n 2) ∷ half

half-legal : Legal counter 5 half
unfolding counter r n checked half Legal due after step steps_within chain_within extents_of flag attempts stand newest request_named active started waiting arrivals
half-legal = (
  refl,
  (
    OfActive (record { active = refl; as_ended = WithVerdict refl refl }),
    (
      record { active = refl; running = refl; some = omega arith; left = omega arith },
      (
        First (record { none = refl; request = r 1 true; first = refl; name = refl; passes = refl }),
        (
          refl,
          (
            refl,
            (
              record { next = refl; few = omega arith; taken = refl },
              (refl, (record { next = refl; few = omega arith; taken = refl }, tt)),
            ),
          ),
        ),
      ),
    ),
  ),
)

run-legal : Legal counter 5 run
unfolding counter r n checked half run Legal due after step steps_within chain_within extents_of flag attempts stand newest request_named active started waiting arrivals
run-legal = (
  OfActive (record { active = refl; as_ended = WithVerdict refl refl }),
  (
    record { active = refl; running = refl; some = omega arith; left = omega arith },
    (First (record { none = refl; request = r 2 false; first = refl; name = refl; passes = refl }), half-legal),
  ),
)

codes : (map (λ v. v.code) (one_at_a_time counter 5 (openings run) (arrivals run)) ≡ PermanentError ∷ PermanentError ∷ Purged ∷ [])
    × (map (λ v. v.name) (posted counter 5 run) ≡ n 1 ∷ n 3 ∷ n 2 ∷ [])
    × (device_after counter 5 (openings run) (arrivals run) ≡ 7)
unfolding counter r n checked half run after step steps_within chain_within posted posted_value extents_of attempts_from serve_all after_all arrivals attempts stand request_named
codes = (refl, refl, refl)

idle : IsIdle run
unfolding counter r n checked half run waiting arrivals active started
idle = record { none_waits = refl; none_active = refl }

uncontrolled : IsUncontrolled counter 5 run
unfolding half run opens_before arrivals r
uncontrolled = record { legal = run-legal; uncontrolled = refl; opened = refl }
