-- The names that many proofs cite, passed on from one place. Declares nothing.
pub use Rattle.std.proofs.Common.{◌≡◌, ℕ, Bool, true, ◌&&◌, Some, None, List, [], ◌∷◌, ◌++◌, append_assoc, length, refl, sym, ap, ◌∙◌, eqb}
pub use Rattle.std.proofs.Common.{inl, inr, false, Option, subst, not, map, if◌then◌else◌, ◌≤◌, ◌+◌, Ok, Err, arith, ◌||◌, ◌==◌}
pub use Rattle.std.proofs.Common.{length-append, ◌⊎◌, zero, suc, ◌-◌, ◌<◌, reverse}
pub use Rattle.std.specs.List.{filter, list_any, list_all}
pub use Rattle.std.specs.Prelude.{is_some, OnOk, OnErr, drop, slice_get}
pub use Rattle.std.proofs.lemmas.Bool.{cases_Bool, or_left, or_right, eq-eqb, and_parts, and_from, or_parts, eqb-true}
pub use Rattle.std.proofs.lemmas.List.{append-nil}
pub use Rattle.std.proofs.lemmas.List.Elements.{filter-append}
pub use Rattle.circular_buffer.proofs.Places.{slice_get-append_right}
pub use Rattle.circular_buffer.specs.Buffer.{Buffer}
pub use Rattle.io_images.specs.Codes.{is_error}
pub use Rattle.io_images.specs.Images.{no_status}
pub use Rattle.io_images.specs.declared.code.Code.{Code}
pub use Rattle.io_images.specs.declared.code.Code.TheVariants.{Purged, ExtentViolated, Ended}
pub use Rattle.io_images.specs.declared.csw.Csw.{Csw}
pub use Rattle.io_images.specs.declared.extent.Extent.{Extent}
pub use Rattle.io_area.specs.Storage.{Storage}
pub use Rattle.device_port.specs.Meaning.{Meaning}
pub use Rattle.device_port.specs.declared.kind.Kind.{Kind}
pub use Rattle.device_port.specs.declared.kind.Kind.TheVariants.{Printer}
pub use Rattle.ccw_programs.specs.Place.{Place}
pub use Rattle.ccw_programs.specs.Step.{Program, length_of, is_running}
unfoldable pub use Rattle.ccw_programs.specs.Step.{after}
pub use Rattle.ccw_programs.specs.declared.context.State.{State}
pub use Rattle.subchannel.specs.declared.Status.{Status}
pub use Rattle.subchannel.specs.Subchannel.{Channel, empty_status, Phase, Absent, Idle, Running, Pending, after_ssch as ssch_started}
pub use Rattle.recovery.specs.Verdict.{verdict}
pub use Rattle.recovery.specs.declared.answer.Verdict.TheVariants.{Retry, Final}
pub use Rattle.request_piece.specs.Places.{Placed}
pub use Rattle.request_piece.specs.PostedState.{PostedState}
pub use Rattle.request_piece.specs.Scope.{covers}
pub use Rattle.request_piece.specs.declared.piece.Name.{Name}
pub use Rattle.request_piece.specs.declared.piece.Piece.{Piece}
pub use Rattle.request_piece.specs.declared.scope.Scope.{Scope}
pub use Rattle.unit_queue.specs.Queue.{Queue, queue}
pub use Rattle.unit_book.specs.declared.active.Active.{Active}
pub use Rattle.unit_book.specs.declared.active.Standing.{Standing}
pub use Rattle.unit_book.specs.declared.active.Standing.TheVariants.{OnChannel, AwaitsRestart}
pub use Rattle.unit_book.specs.declared.answer.Interruption.{Interruption}
pub use Rattle.unit_book.specs.declared.answer.Interruption.TheVariants.{Quiet as NothingPending, Again as TriedAgain, Ended as WasPosted}
pub use Rattle.unit_book.specs.declared.answer.Running.TheVariants.{Quiet as NothingRuns, Ran as RanSome}
pub use Rattle.unit_book.specs.declared.answer.Starting.{Starting}
pub use Rattle.unit_book.specs.declared.answer.Starting.TheVariants.{Busy, Started, Violated}
pub use Rattle.unit_book.specs.declared.dcb.Dcb.{Dcb}
pub use Rattle.unit_book.specs.declared.dcb.ProcessingMethod.{ProcessingMethod}
pub use Rattle.unit_book.specs.declared.dcb.ProcessingMethod.TheVariants.{Input, Output}
pub use Rattle.unit_book.specs.declared.entry.Entry.{Entry}
pub use Rattle.unit_book.specs.declared.entry.Entry.TheVariants.{Post, Arrive, Purge, Opened, Close, Halted, Reset, Start, Ran}
pub use Rattle.unit_book.specs.declared.entry.Mode.{Mode}
pub use Rattle.unit_book.specs.declared.entry.Mode.TheVariants.{Quiesce, Halt}
pub use Rattle.unit_book.specs.Answers.{Adds, Extends, RunsBook, StartsBook, InterruptsBook, MayStart, MayFirst, MayAgain}
pub use Rattle.unit_book.specs.Book.{running_name_by, Book}
pub use Rattle.unit_book.specs.Controls.{active_of, after_purge, halted_by, PurgesBy, covers_awaiting, after_halt, covered_by}
pub use Rattle.unit_book.specs.Dcbs.{is_opened, doomed, opened_count, is_doomed, is_open, is_closed, mask_of}
unfoldable pub use Rattle.unit_book.specs.Dcbs.{extents_of, flag}
pub use Rattle.unit_book.specs.Dooms.{all_posted, after_dooms, purged}
pub use Rattle.unit_book.specs.Extents.{passes_check}
pub use Rattle.unit_book.specs.Fields.{StandingTies, Ties, BookFields, dcb_at, dcb_of, noted, awaits_by, pending_phase, ActivityTies}
pub use Rattle.unit_book.specs.Fields.{mask_at}
pub use Rattle.unit_book.specs.Legal.{Free, PostsActive, WithVerdict, OfActive, Fits, doomed_first, CanPurge, Due, ToHalt, ToPost}
pub use Rattle.unit_book.specs.Legal.{StartsAgain, FitsBy, StartFits, First, Again, is_to_halt, due_by, PostFits, OfFirst, StartsFirst}
unfoldable pub use Rattle.unit_book.specs.Legal.{Legal, due}
pub use Rattle.unit_book.specs.Lists.{Each}
pub use Rattle.unit_book.specs.Media.{current, area, StillRunning, HasEnded, active_phase, active_phase_by, still_runs, Attempt, device}
pub use Rattle.unit_book.specs.Media.{beginning}
unfoldable pub use Rattle.unit_book.specs.Media.{attempts, stand, newest}
pub use Rattle.unit_book.specs.Posts.{posted_since}
unfoldable pub use Rattle.unit_book.specs.Posts.{posted, posted_value}
pub use Rattle.unit_book.specs.Selected.{doomed_by_post, DoomedBy}
pub use Rattle.unit_book.specs.Trace.{same, has_arrived, is_covered, is_halt, is_halted, arrived_of, starts, has_started, is_posted}
pub use Rattle.unit_book.specs.Trace.{starts_of}
unfoldable pub use Rattle.unit_book.specs.Trace.{request_named, active, started, waiting, arrivals}
