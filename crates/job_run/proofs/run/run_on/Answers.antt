use Rattle.std.proofs.Common.{◌≡◌, IfErr, IfOk, map, subst, ap, ◌∙◌}
use Rattle.std.specs.Prelude.{vec_len}
use Rattle.std.proofs.lemmas.Result.{on_ok_weaker}
use Rattle.excp_system.specs.Begun.{AreBegun}
use Rattle.job_script.specs.Views.{said}
use Rattle.job_script.specs.declared.script.Script.{Script}
use Rattle.job_run.specs.Ending.{IsLate}
use Rattle.std.specs.List.{All}
use Rattle.job_run.specs.Controls.{AreControlledAs}
use Rattle.job_run.specs.Ran.{IsDone, Ran}
use Rattle.job_run.proofs.Rans.{are_controlled, of_report, ran, with_done}
use Rattle.job_run.specs.Printing.{ended_slots, script_text, tasks_text}
use Rattle.job_run.proofs.Printed.{does_accounts, printed_of}
use Rattle.job_run.proofs.Stops.{ends_late_by}
use Rattle.job_run.proofs.run.run_on.Goals as goal

pub returns-in-Ok-clause-fault : goal.returns-in-Ok-clause-fault
returns-in-Ok-clause-fault g c =
    let own = c.new-tasks.result.script.now in
    let same = c.new-tasks.ensures in
    let a = does_accounts own c.args.rows.units c.args.rows.tasks c.args.books.items c.in-Ok.report c.in-Ok.outcomes.items c.in-Ok.ensures.accounts in
    subst (λ (s : Script). IfErr c.ended.result (IsLate (said s))) same
    (ends_late_by c.ended.result own c.args.rows.units c.args.rows.tasks c.in-Ok.outcomes.items a.tasks a.placed a.run
    (ap (λ (s : Script). s.set_up.tasks) same ∙ c.requires.tasks) c.ended.ensures.fault)

pub returns-in-Ok-clause-ran : goal.returns-in-Ok-clause-ran
returns-in-Ok-clause-ran g c =
    let own = c.new-tasks.result.script.now in
    let same = c.new-tasks.ensures in
    let e = c.in-Ok.ensures in
    let a = does_accounts own c.args.rows.units c.args.rows.tasks c.args.books.items c.in-Ok.report c.in-Ok.outcomes.items e.accounts in
    of_report c.ended.result (Ran (said c.args.script.now)) c.in-Ok.report c.ended.ensures.report
    (with_done c.ended.result (All IsDone c.in-Ok.outcomes.items) (Ran (said c.args.script.now) c.in-Ok.report.books) c.ended.ensures.done
    (λ (done : All IsDone c.in-Ok.outcomes.items). subst (λ (s : Script). Ran (said s) c.in-Ok.report.books) same
    (ran own c.args.rows.units c.args.rows.tasks c.args.books.items c.in-Ok.report c.in-Ok.outcomes.items a done c.requires.books e.report e.legal e.idle e.of_tasks
    (ap (λ (s : Script). s.set_up.tasks) same ∙ c.requires.tasks)
    (ap (λ (s : Script). vec_len s.set_up.units) same ∙ c.requires.units))))

pub returns-in-Ok-clause-began : goal.returns-in-Ok-clause-began
returns-in-Ok-clause-began g c =
    of_report c.ended.result (AreBegun c.args.books.items) c.in-Ok.report c.ended.ensures.report
    (on_ok_weaker c.ended.result (λ (done : All IsDone c.in-Ok.outcomes.items). c.in-Ok.ensures.began) c.ended.ensures.done)

pub returns-in-Ok-clause-controlled : goal.returns-in-Ok-clause-controlled
returns-in-Ok-clause-controlled g c =
    let own = c.new-tasks.result.script.now in
    let same = c.new-tasks.ensures in
    let books = c.args.books.items in
    let a = does_accounts own c.args.rows.units c.args.rows.tasks c.args.books.items c.in-Ok.report c.in-Ok.outcomes.items c.in-Ok.ensures.accounts in
    of_report c.ended.result (AreControlledAs (said c.args.script.now) books) c.in-Ok.report c.ended.ensures.report
    (with_done c.ended.result (All IsDone c.in-Ok.outcomes.items) (AreControlledAs (said c.args.script.now) books c.in-Ok.report.books)
    c.ended.ensures.done
    (λ (done : All IsDone c.in-Ok.outcomes.items). subst (λ (s : Script). AreControlledAs (said s) books c.in-Ok.report.books) same
    (are_controlled own c.args.rows.units c.args.rows.tasks c.args.books.items c.in-Ok.report c.in-Ok.outcomes.items a done c.in-Ok.ensures.report
    (ap (λ (s : Script). s.set_up.tasks) same ∙ c.requires.tasks))))

pub returns-in-Ok-clause-text : goal.returns-in-Ok-clause-text
returns-in-Ok-clause-text g c =
    let own = c.new-tasks.result.script.now in
    let same = c.new-tasks.ensures in
    let e = c.in-Ok.ensures in
    subst (λ (s : Script). IfOk c.ended.result
    (λ finished. tasks_text 0 (map ended_slots finished.tasks.items) ≡ script_text (said s) finished.report.books)) same
    (printed_of c.ended.result own c.args.rows.units c.args.rows.tasks c.args.books.items c.in-Ok.report c.in-Ok.outcomes.items e.accounts e.report
    (ap (λ (s : Script). s.set_up.tasks) same ∙ c.requires.tasks)
    (ap (λ (s : Script). vec_len s.set_up.units) same ∙ c.requires.units) c.ended.ensures.report c.ended.ensures.slots)
