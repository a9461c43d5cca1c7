-- Worked rows, by computation: the stored script with two EXCPs prints this text and no other.
use Rattle.std.proofs.Common.{◌≡◌, ℕ, Ok, List, [], ◌∷◌, refl, arith}
use Rattle.std.specs.Prelude.{codes}
use Rattle.std.specs.Fmt.{digits}
use Rattle.std.specs.List.{join_with_byte}
use Rattle.post_lines.specs.Digits.{in_digits}
use Rattle.ccw_programs.specs.Areas.{parts_from}
use Rattle.ccw_programs.specs.Links.{chain_within}
use Rattle.ccw_programs.specs.Step.{after, step, steps_within}
use Rattle.ckd_disk.specs.Record.{record_at}
use Rattle.device_port.specs.Packed.{items_at}
use Rattle.unit_book.specs.Dcbs.{extents_of}
use Rattle.unit_book.specs.Posts.{posted_value}
use Rattle.serial_order.specs.OneAtATime.{attempts_from, serve_all}
use Rattle.job_script.specs.Runs.{stored_excp_on, stored_with, wait_on_7}
use Rattle.job_script.specs.Said.{Said}
use Rattle.job_mount.specs.Mounting.{books_with, devices_with, opened, tried, units_with}
use Rattle.job_mount.specs.Openings.{open_all}
use Rattle.job_run.specs.Requests.{excps, requests_from}
use Rattle.job_run.specs.OneTask.{AreOfOneTask, expected_text}
use Rattle.job_run.specs.Orders.{AsksNothing}
use Rattle.job_run.specs.Serving.{IsOneAtATime}

-- the stored script with an EXCP, a WAIT and the EXCP again
abbrev two_reads : Said
two_reads = stored_with (stored_excp_on 6 ∷ wait_on_7 ∷ stored_excp_on 8 ∷ [])

asks_nothing : AsksNothing two_reads
asks_nothing = refl

of_one_task : AreOfOneTask two_reads
of_one_task unit few = record { owner = 0; no_other = λ task of_script apart. absurd (omega (arith, of_script, apart)) }

-- two lines and the count
abbrev two_lines : List ℕ
two_lines = join_with_byte 10 (codes "post 0 0 1 7F 001048 0C00 0000 0000 C1C2C3C4" ∷ codes "post 0 0 2 7F 001048 0C00 0000 0000 C1C2C3C4"
    ∷ codes "end 2" ∷ [] ∷ [])

two_reads_are_expected : expected_text [] two_reads ≡ Ok two_lines
unfolding digits in_digits parts_from chain_within after step steps_within record_at items_at extents_of posted_value attempts_from
    serve_all excps requests_from books_with devices_with opened tried units_with open_all
two_reads_are_expected = refl

-- A RUN OF IT prints nothing else
nothing_else : (text : List ℕ) → IsOneAtATime [] two_reads text → text ≡ two_lines
nothing_else text one =
    let expected : expected_text [] two_reads ≡ Ok text = one.expected of_one_task in
    cc (expected, two_reads_are_expected)
