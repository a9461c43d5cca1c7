-- THE FIRST WORD of a line that scripts do not have (profile).
use Rattle.std.specs.Prelude.{ℕ, List, Option, Some, None, codes, if◌then◌else◌}
use Rattle.std.specs.Str.{bytes_eq}
use Rattle.test_locked_steps.specs.declared.verb.EventVerb.{EventVerb}
use Rattle.test_locked_steps.specs.declared.verb.EventVerb.TheVariants.{Room, Take, Start, Run, Interrupt, Deliver, Collect, Settle, Serve}
use Rattle.test_locked_steps.specs.declared.verb.EventVerb.TheVariants.{PurgeTaskAt}
use Rattle.test_locked_steps.specs.declared.verb.EventVerb.TheVariants.{Finish, Expect}

unfoldable pub event_verb_of : List ℕ → Option EventVerb
event_verb_of word =
    if bytes_eq word (codes "expect") then Some Expect
    else if bytes_eq word (codes "serve") then Some Serve
    else if bytes_eq word (codes "take") then Some Take
    else if bytes_eq word (codes "start") then Some Start
    else if bytes_eq word (codes "run") then Some Run
    else if bytes_eq word (codes "interrupt") then Some Interrupt
    else if bytes_eq word (codes "deliver") then Some Deliver
    else if bytes_eq word (codes "collect") then Some Collect
    else if bytes_eq word (codes "purgetaskat") then Some PurgeTaskAt
    else if bytes_eq word (codes "settle") then Some Settle
    else if bytes_eq word (codes "finish") then Some Finish
    else if bytes_eq word (codes "room") then Some Room
    else None
