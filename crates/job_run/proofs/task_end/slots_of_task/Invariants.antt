use Rattle.std.proofs.Common.{[], drop, replicate}
use Rattle.std.specs.Prelude.{vec_len}
use Rattle.job_script.specs.Tasks.{places_of}
use Rattle.post_lines.specs.Slots.{slots_of}
use Rattle.job_run.specs.Filling.{expects}
use Rattle.job_run.proofs.Walk.{Reached}
use Rattle.job_run.proofs.task_end.slots_of_task.Given as goal

abbrev pub invariant-loop-place : goal.invariant-loop-place
invariant-loop-place l =
    let commands = l.script.commands.items in
    Reached expects l.task commands (replicate (vec_len l.script.set_up.units) []) (drop l.place-index (places_of l.task commands))
    (slots_of l.slots)
