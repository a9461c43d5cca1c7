-- Worked runs, by computation: what is printed of the stored script, by what its unit did.
use Rattle.std.proofs.Common.{◌≡◌, ℕ, List, [], ◌∷◌, refl}
use Rattle.std.specs.Prelude.{codes}
use Rattle.std.specs.Fmt.{digits}
use Rattle.std.specs.List.{join_with_byte}
use Rattle.post_lines.specs.Digits.{in_digits}
use Rattle.ccw_programs.specs.Areas.{parts_from}
use Rattle.ccw_programs.specs.Links.{chain_within}
use Rattle.ccw_programs.specs.Step.{after, step, steps_within}
use Rattle.ckd_disk.specs.Record.{record_at}
use Rattle.device_port.specs.Packed.{items_at}
use Rattle.io_images.specs.declared.code.Code.TheVariants.{Ended}
use Rattle.request_piece.specs.Requests.{request_of}
use Rattle.request_piece.specs.declared.piece.Name.{Name}
use Rattle.any_device.specs.declared.device.AnyDevice.{AnyDevice}
use Rattle.unit_book.specs.Book.{Book}
use Rattle.unit_book.specs.Dcbs.{extents_of}
use Rattle.unit_book.specs.Media.{attempts, stand}
use Rattle.unit_book.specs.Posts.{posted, posted_value}
use Rattle.unit_book.specs.Trace.{request_named}
use Rattle.unit_book.specs.declared.entry.Entry.{Entry}
use Rattle.unit_book.specs.declared.entry.Entry.TheVariants.{Arrive, Post, Ran, Start}
use Rattle.job_script.specs.Runs.{stored_area, stored_excp_on, stored_with, wait_on_7}
use Rattle.job_script.specs.Said.{CommandSaid}
use Rattle.job_mount.specs.Runs.{stored_book}
use Rattle.job_run.specs.Printing.{posts_text}
use Rattle.job_run.specs.Requests.{excps}

-- a request of task 0
abbrev own_name : ℕ → Name
own_name k = record { task = 0; seq = k }

-- after these entries the request arrived, read the record by three commands, and was posted
abbrev reads : ℕ → List Entry → List Entry
reads k before =
    Post (own_name k) (record { address = 4168; unit = record { 0 = 12 }; sub = record { 0 = 0 }; residual = 0 }) 0 Ended
    ∷ Ran (own_name k) 3 ∷ Start (own_name k) ∷ Arrive (request_of (own_name k) 0 1 4096 stored_area) ∷ before

-- the book of the stored script, after its unit did this
abbrev book_after : (List Entry → List Entry) → Book AnyDevice
book_after done = record stored_book { trace = done stored_book.trace }

-- what is printed of the stored script with these commands is these lines, the last of which is empty
abbrev IsPrinted : List CommandSaid → Book AnyDevice → List (List ℕ) → Type 0
IsPrinted commands book lines = posts_text (stored_with commands) (book ∷ []) ≡ join_with_byte 10 lines

nothing_is_printed : IsPrinted [] stored_book (codes "end 0" ∷ [] ∷ [])
unfolding digits in_digits parts_from chain_within after step steps_within record_at items_at extents_of attempts stand posted posted_value
    request_named excps
nothing_is_printed = refl

a_read_is_printed : IsPrinted (stored_excp_on 6 ∷ []) (book_after (reads 1))
    (codes "post 0 0 1 7F 001048 0C00 0000 0000 C1C2C3C4" ∷ codes "end 1" ∷ [] ∷ [])
unfolding digits in_digits parts_from chain_within after step steps_within record_at items_at extents_of attempts stand posted posted_value
    request_named excps
a_read_is_printed = refl

two_reads_are_printed : IsPrinted (stored_excp_on 6 ∷ wait_on_7 ∷ stored_excp_on 8 ∷ []) (book_after (λ H. reads 2 (reads 1 H)))
    (codes "post 0 0 1 7F 001048 0C00 0000 0000 C1C2C3C4" ∷ codes "post 0 0 2 7F 001048 0C00 0000 0000 C1C2C3C4" ∷ codes "end 2" ∷ [] ∷ [])
unfolding digits in_digits parts_from chain_within after step steps_within record_at items_at extents_of attempts stand posted posted_value
    request_named excps
two_reads_are_printed = refl
