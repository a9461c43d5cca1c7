use Rattle.std.proofs.Common.{◌≡◌, ◌≤◌, ◌+◌, ℕ, List, [], length, drop, drop_of_length-le, get_or, map, ap, arith, subst}
use Rattle.std.proofs.KnownBytes.{Appends-kept, Appends-trans}
use Rattle.std.proofs.lemmas.List.{length-map}
use Rattle.std.specs.Io.KnownBytes.{Appends}
use Rattle.post_lines.specs.Writing.{AppendsPart}
use Rattle.post_lines.proofs.Putting.{if-failed, part-after, part-before, part-more, part-whole, wrote-all, wrote-more}
use Rattle.post_lines.specs.Slots.{SlotState}
use Rattle.post_lines.specs.Lines.{count_text, task_text}
use Rattle.post_lines.proofs.Left.{next_of}
use Rattle.job_run.specs.Printing.{ended_slots, tasks_text}
use Rattle.job_run.proofs.output.write_posts.Goals as goal

pub loop-task-preserved : goal.loop-task-preserved
loop-task-preserved g c =
    let ends = c.args.tasks.now in
    let k = c.loop-task.task in
    let end = get_or ends k c.index-tasks-task.result in
    let left : List (List (List SlotState)) = drop (k + 1) (map ended_slots ends) in
    wrote-more _ _ _ (task_text k (ended_slots end)) (tasks_text (k + 1) left) _ _ c.loop-task.invariant
    (ap (λ (l : List (List (List SlotState))). tasks_text k l) (next_of ended_slots ends k end c.loop-task-test.true (ap (get_or ends k) c.index-tasks-task.is)))
    (c.in_ok-write_task.ensures {u = tt}).whole

pub returns-in_err-write_task-clause-part : goal.returns-in_err-write_task-clause-part
returns-in_err-write_task-clause-part g c =
    let ends = c.args.tasks.now in
    let k = c.loop-task.task in
    let end = get_or ends k c.index-tasks-task.result in
    let left : List (List (List SlotState)) = drop (k + 1) (map ended_slots ends) in
    if-failed c.from_residual.result
    (part-before _ _ (tasks_text 0 (map ended_slots ends)) _
    (part-more _ _ _ (task_text k (ended_slots end)) (tasks_text (k + 1) left) _ _ c.loop-task.invariant
    (ap (λ (l : List (List (List SlotState))). tasks_text k l) (next_of ended_slots ends k end c.loop-task-test.true (ap (get_or ends k) c.index-tasks-task.is)))
    (c.in_err-write_task.ensures {u = tt}).part))

pub returns-in_err-write_count-clause-part : goal.returns-in_err-write_count-clause-part
returns-in_err-write_count-clause-part g c =
    let all = map ended_slots c.args.tasks.now in
    let k = c.loop-task.task in
    let middle = g.W.Write.contents c.loop-task.out in
    let new = g.W.Write.contents c.write_count.new.out in
    let end : length all ≤ k = omega (arith, length-map c.args.tasks.now ended_slots, c.loop-task-test.false) in
    let none : tasks_text k (drop k all) ≡ [] = ap (λ (l : List (List (List SlotState))). tasks_text k l) (drop_of_length-le all {i = k} end) in
    let lines = wrote-all _ middle (tasks_text k (drop k all)) (tasks_text 0 all) c.loop-task.invariant none in
    let last = subst (λ (n : ℕ). AppendsPart middle new (count_text n)) c.excp_count.ensures (c.in_err-write_count.ensures {u = tt}).part in
    if-failed c.from_residual-in_err-write_count.result (part-after _ middle new (tasks_text 0 all) _ lines last)

pub returns-clause-part : goal.returns-clause-part
returns-clause-part g c =
    let all = map ended_slots c.args.tasks.now in
    let k = c.loop-task.task in
    let middle = g.W.Write.contents c.loop-task.out in
    let new = g.W.Write.contents c.write_count.new.out in
    let end : length all ≤ k = omega (arith, length-map c.args.tasks.now ended_slots, c.loop-task-test.false) in
    let none : tasks_text k (drop k all) ≡ [] = ap (λ (l : List (List (List SlotState))). tasks_text k l) (drop_of_length-le all {i = k} end) in
    let lines = wrote-all _ middle (tasks_text k (drop k all)) (tasks_text 0 all) c.loop-task.invariant none in
    let last = subst (λ (n : ℕ). Appends middle new (count_text n)) c.excp_count.ensures (c.in_ok-write_count.ensures {u = tt}).whole in
    let whole = Appends-trans _ middle new (tasks_text 0 all) _ lines last in
    if-failed c.flush.result (part-whole _ _ _ (Appends-kept _ _ _ _ whole c.flush.ensures.bytes))
