-- HOW A RUN OF A SCRIPT ENDS, by what its reader gave (profile).
use Rattle.std.specs.Prelude.{◌≡◌, ◌<◌, ◌≤◌, ◌⊎◌, ◌-◌, ◌^◌, ℕ, List, [], ◌∷◌, ◌++◌, Option, Some, Result, Ok, Err, length, slice_get}
use Rattle.unit_book.specs.Book.{Book}
use Rattle.any_device.specs.declared.device.AnyDevice.{AnyDevice}
use Rattle.job_script.specs.declared.fault.JobError.{JobError}
use Rattle.job_script.specs.declared.fault.JobError.TheVariants as faults
use Rattle.job_script.specs.Grammar.{FaultAt, script_of}
use Rattle.job_script.specs.Reading.{ReadsAll, ReadsAtMost, ReadsMore}
use Rattle.job_script.specs.Said.{CommandSaid, ExcpSaid, Said, excp}
use Rattle.job_script.specs.declared.fault.FaultName.TheVariants as names
use Rattle.job_run.specs.declared.task_error.TaskError.{TaskError}
use Rattle.job_run.specs.declared.task_error.TaskError.TheVariants as errors
use Rattle.job_run.specs.Beginning.{AreBegunWith}
use Rattle.job_run.specs.Ran.{Ran}
use Rattle.job_run.specs.Printing.{posts_text}
use Rattle.std.specs.Io.KnownBytes.{Appends}
use Rattle.post_lines.specs.Writing.{AppendsPart}
use Rattle.job_run.specs.Requests.{excps}
use Rattle.job_mount.specs.Mounting.{◌>>=◌, books_of, books_with}

-- the books of a text, each for this many requests at a time, or its first fault
abbrev pub books_of_text : ℕ → List ℕ → Result (List (Book AnyDevice)) FaultAt
books_of_text capacity text = script_of text >>= books_of capacity

-- the text is a script that has no fault
abbrev pub IsFaultless : List ℕ → Type 0
IsFaultless text = (capacity : ℕ) × (books : List (Book AnyDevice)) × (books_of_text capacity text ≡ Ok books)

-- the first fault of the text is this one
abbrev pub HasFault : List ℕ → FaultAt → Type 0
HasFault text fault = (capacity : ℕ) × (books_of_text capacity text ≡ Err fault)

-- all bytes were read, at most n, and they are a script without a fault
pub record RunsWhole (n : ℕ) (old new : Option (List ℕ)) : Type 0 where
  pub text : List ℕ
  pub whole : ReadsAll n old new text
  pub faultless : IsFaultless text

-- all bytes were read, at most n, and their first fault is this one
pub record RejectsWhole (n : ℕ) (old new : Option (List ℕ)) (fault : FaultAt) : Type 0 where
  pub text : List ℕ
  pub whole : ReadsAll n old new text
  pub rejected : HasFault text fault

-- a task of a script comes to an EXCP after its last number at the unit: the fault is `Request` in the line of that EXCP
pub record StopsTask (s : Said) (fault : FaultAt) : Type 0 where
  pub task : ℕ
  pub of_script : task < s.set_up.tasks
  pub before : List CommandSaid
  pub command : CommandSaid
  pub others : List CommandSaid
  pub split : s.commands ≡ before ++ command ∷ others
  pub own : command.task ≡ task
  pub issued : ExcpSaid
  pub issues : command.action ≡ excp issued
  pub last : 2 ^ 32 - 1 ≤ length (excps task issued.dcb.unit before)
  pub named : fault ≡ record { line = command.line; name = names.Request }

-- all bytes were read, at most n; they are a script without a fault, a task of which stops by this one
pub record StopsWhole (n : ℕ) (old new : Option (List ℕ)) (fault : FaultAt) : Type 0 where
  pub runs : RunsWhole n old new
  pub says : Said
  pub parsed : script_of runs.text ≡ Ok says
  pub stops : StopsTask says fault

-- FROM BYTES TO BOOKS: all bytes were read, at most n; they are this script without a fault; these books began as it says, and
-- their units have done what it asks for
pub record IsRunOf (n : ℕ) (old new : Option (List ℕ)) (says : Said) (books : List (Book AnyDevice)) : Type 0 where
  pub text : List ℕ
  pub whole : ReadsAll n old new text
  pub parsed : script_of text ≡ Ok says
  pub began : AreBegunWith [] says books
  pub ran : Ran says books

-- FROM BYTES TO BYTES: there are a script and books that are a run of what was read, and what was written is the text of their
-- posts
pub record PrintsPosts (n : ℕ) (old new before after : Option (List ℕ)) : Type 0 where
  pub says : Said
  pub books : List (Book AnyDevice)
  pub run : IsRunOf n old new says books
  pub printed : Appends before after (posts_text says books)

-- there are a script and books that are a run of what was read, and a first part of the text of their posts was written
pub record WritesPart (n : ℕ) (old new before after : Option (List ℕ)) : Type 0 where
  pub says : Said
  pub books : List (Book AnyDevice)
  pub run : IsRunOf n old new says books
  pub part : AppendsPart before after (posts_text says books)

-- the fault of a line is what a task left
abbrev pub IsOfTask : {L : Type 0} → List (Result L TaskError) → TaskError → Type 0
IsOfTask outcomes (errors.Line line name) = (task : ℕ) × (slice_get outcomes task ≡ Some (Err (errors.Line line name)))
IsOfTask outcomes errors.NoMemory = Unit {0}

-- the faults that a run may end with, by what its tasks left
abbrev pub EndsBeside : {L : Type 0} → List (Result L TaskError) → JobError → Type 0
EndsBeside outcomes (faults.Line line name) = IsOfTask outcomes (errors.Line line name)
EndsBeside outcomes faults.NoMemory = Unit {0}
EndsBeside outcomes faults.Unmatched = ⊥
EndsBeside outcomes faults.NoThread = ⊥
EndsBeside outcomes faults.NotWritten = ⊥
EndsBeside outcomes faults.TooLong = ⊥
EndsBeside outcomes faults.Unreadable = ⊥

-- why a run ends: the first fault of its script; or that of a task, of a script without a fault; or why it was not read whole
abbrev pub EndsBy : ℕ → Option (List ℕ) → Option (List ℕ) → JobError → Type 0
EndsBy n old new (faults.Line line name) = RejectsWhole n old new (record { line = line; name = name })
    ⊎ StopsWhole n old new (record { line = line; name = name })
EndsBy n old new faults.TooLong = ReadsMore n old new
EndsBy n old new faults.Unreadable = ReadsAtMost n old new
EndsBy n old new faults.NotWritten = ⊥
EndsBy n old new faults.Unmatched = ⊥
EndsBy n old new faults.NoMemory = Unit {0}
EndsBy n old new faults.NoThread = Unit {0}

-- why a run ends whose posts are written: as above, before its posts are written; or after a first part of their text
abbrev pub EndsWriting : ℕ → Option (List ℕ) → Option (List ℕ) → Option (List ℕ) → Option (List ℕ) → JobError → Type 0
EndsWriting n old new before after faults.NotWritten = WritesPart n old new before after
EndsWriting n old new before after fault = EndsBy n old new fault

-- a parsed script, whose units are given these devices, has no fault
abbrev pub IsFaultlessWith : List (Option AnyDevice) → Said → Type 0
IsFaultlessWith given s = (capacity : ℕ) × (books : List (Book AnyDevice)) × (books_with given capacity s ≡ Ok books)

-- its first fault is this one
abbrev pub HasFaultWith : List (Option AnyDevice) → Said → FaultAt → Type 0
HasFaultWith given s fault = (capacity : ℕ) × (books_with given capacity s ≡ Err fault)

-- why a run of a parsed script ends, whose units are given these devices: its first fault; or that of a task, of a
-- script without a fault
abbrev pub EndsParsed : List (Option AnyDevice) → Said → JobError → Type 0
EndsParsed given s (faults.Line line name) = HasFaultWith given s (record { line = line; name = name })
    ⊎ (IsFaultlessWith given s × StopsTask s (record { line = line; name = name }))
EndsParsed given s faults.Unmatched = ⊥
EndsParsed given s faults.NoMemory = Unit {0}
EndsParsed given s faults.NoThread = Unit {0}
EndsParsed given s faults.TooLong = ⊥
EndsParsed given s faults.Unreadable = ⊥
EndsParsed given s faults.NotWritten = ⊥

-- what ends a run after its script was read and mounted: a task stops, or memory runs out
abbrev pub IsLate : Said → JobError → Type 0
IsLate s (faults.Line line name) = StopsTask s (record { line = line; name = name })
IsLate s faults.NoMemory = Unit {0}
IsLate s faults.NoThread = Unit {0}
IsLate s faults.Unmatched = ⊥
IsLate s faults.NotWritten = ⊥
IsLate s faults.TooLong = ⊥
IsLate s faults.Unreadable = ⊥
