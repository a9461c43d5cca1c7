-- THE FIRST WORD of a line: which kind of line it begins (profile).
use Rattle.std.specs.Prelude.{ℕ, List, Option, Some, None, codes, if◌then◌else◌}
use Rattle.std.specs.Str.{bytes_eq}
use Rattle.job_script.specs.declared.line.verb.Verb.{Verb}
use Rattle.job_script.specs.declared.line.verb.Verb.TheVariants.{SetUp, Excp, Purge, PurgeTask, Close, Reset, Wait}
use Rattle.job_script.specs.declared.line.verb.SetUpVerb.TheVariants.{Tasks, Disk, Tape, Printer, Record, Block, Mark, Fault, Open, Area}

-- the kind of a line, by its first word
unfoldable pub verb_of : List ℕ → Option Verb
verb_of word =
    if bytes_eq word (codes "excp") then Some Excp
    else if bytes_eq word (codes "wait") then Some Wait
    else if bytes_eq word (codes "fault") then Some (SetUp Fault)
    else if bytes_eq word (codes "rec") then Some (SetUp Record)
    else if bytes_eq word (codes "area") then Some (SetUp Area)
    else if bytes_eq word (codes "open") then Some (SetUp Open)
    else if bytes_eq word (codes "purge") then Some Purge
    else if bytes_eq word (codes "purgetask") then Some PurgeTask
    else if bytes_eq word (codes "close") then Some Close
    else if bytes_eq word (codes "reset") then Some Reset
    else if bytes_eq word (codes "block") then Some (SetUp Block)
    else if bytes_eq word (codes "mark") then Some (SetUp Mark)
    else if bytes_eq word (codes "disk") then Some (SetUp Disk)
    else if bytes_eq word (codes "tape") then Some (SetUp Tape)
    else if bytes_eq word (codes "printer") then Some (SetUp Printer)
    else if bytes_eq word (codes "tasks") then Some (SetUp Tasks)
    else None
