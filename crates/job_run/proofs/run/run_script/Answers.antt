use Rattle.std.proofs.Common.{◌++◌, List, ap, length, map, ◌∙◌}
use Rattle.std.proofs.lemmas.Result.{on_err_weaker, on_ok_weaker}
use Rattle.std.specs.Io.KnownBytes.{Appends}
use Rattle.std.specs.List.{filter}
use Rattle.post_lines.specs.Writing.{AppendsPart}
use Rattle.job_script.specs.Commands.{is_excp}
use Rattle.post_lines.specs.Lines.{count_text}
use Rattle.job_run.specs.Printing.{ended_slots, tasks_text}
use Rattle.job_run.specs.declared.task_end.TaskEnd.{TaskEnd}
use Rattle.job_run.proofs.Prints.{ends_writing, prints, prints_part}
use Rattle.job_run.proofs.Serial.{writes_one_at_a_time}
use Rattle.job_run.proofs.run.run_script.Goals as goal

pub returns-in-Ok-clause-fault : goal.returns-in-Ok-clause-fault
returns-in-Ok-clause-fault g c =
    let before = g.W.Write.contents c.args.writer.now in
    let after = g.W.Write.contents c.write.new.writer in
    let tasks = c.deref-in-Ok.result.now in
    let commands = c.deref.result.now in
    ends_writing c.write.result _ _ _ before after c.write.ensures.fault
    (on_err_weaker c.write.result
    (λ (written : AppendsPart before after (tasks_text 0 (map ended_slots tasks) ++ count_text (length (filter (λ c. is_excp c.action) commands)))).
    prints_part _ _ _ before after c.in-Ok.script c.in-Ok.run'.report.books _ commands c.in-Ok.ensures.run
    (ap (λ (l : List (TaskEnd (Unit {0}))). tasks_text 0 (map ended_slots l)) c.deref-in-Ok.ensures.value ∙ c.in-Ok.ensures.text)
    c.deref.ensures.value written) c.write.ensures.part)

pub returns-in-Ok-clause-printed : goal.returns-in-Ok-clause-printed
returns-in-Ok-clause-printed g c =
    let tasks = c.deref-in-Ok.result.now in
    let commands = c.deref.result.now in
    on_ok_weaker c.write.result
    (λ (written : Appends (g.W.Write.contents c.args.writer.now) (g.W.Write.contents c.write.new.writer) (tasks_text 0 (map ended_slots tasks) ++ count_text (length (filter (λ c. is_excp c.action) commands)))).
    prints _ _ _ _ _ c.in-Ok.script c.in-Ok.run'.report.books _ commands c.in-Ok.ensures.run
    (ap (λ (l : List (TaskEnd (Unit {0}))). tasks_text 0 (map ended_slots l)) c.deref-in-Ok.ensures.value ∙ c.in-Ok.ensures.text)
    c.deref.ensures.value written) c.write.ensures.text

pub returns-in-Ok-clause-serial : goal.returns-in-Ok-clause-serial
returns-in-Ok-clause-serial g c = on_ok_weaker c.write.result writes_one_at_a_time (returns-in-Ok-clause-printed g c)
