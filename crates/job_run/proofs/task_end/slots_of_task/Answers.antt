use Rattle.std.proofs.Common.{◌+◌, [], drop, refl, replicate}
use Rattle.std.specs.Prelude.{vec_len}
use Rattle.job_script.specs.Tasks.{places_of}
use Rattle.post_lines.specs.Slots.{slots_of}
use Rattle.job_run.specs.Filling.{expects}
use Rattle.job_run.proofs.Walk.{at_place, begins, ends, goes_on}
use Rattle.job_run.proofs.task_end.slots_of_task.Goals as goal

pub loop-place-init : goal.loop-place-init
loop-place-init c = rw (c.in_ok-slots.ensures, c.len.ensures)
    (begins expects c.args.task c.args.script.now.commands.items (replicate (vec_len c.args.script.now.set_up.units) []))

pub loop-place-preserved : goal.loop-place-preserved
loop-place-preserved c =
    let task = c.args.task in
    let commands = c.args.script.now.commands.items in
    let none = replicate (vec_len c.args.script.now.set_up.units) [] in
    let i = c.loop-place.place-index in
    let slots = slots_of c.loop-place.slots in
    let command = c.index.result.now in
    let n = at_place expects task task commands none slots c.places_of-place-items.result.now i command
    c.places_of-place-items.ensures.value refl c.loop-place-test.true c.loop-place.invariant c.index.ensures in
    goes_on expects task commands none command (drop (i + 1) (places_of task commands)) slots (slots_of c.expect.new.slots) n
    (c.in_ok-expect.ensures {u = tt})

pub returns : goal.returns
returns c = ends expects c.args.task c.args.task c.args.script.now.commands.items (replicate (vec_len c.args.script.now.set_up.units) [])
    (slots_of c.loop-place.slots) c.places_of-place-items.result.now c.loop-place.place-index c.places_of-place-items.ensures.value refl
    c.loop-place-test.false c.loop-place.invariant
