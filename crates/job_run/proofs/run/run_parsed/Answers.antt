use Rattle.std.specs.Prelude.{Vec}
use Rattle.std.specs.declared.alloc.Global.{Global}
use Rattle.any_device.specs.declared.device.AnyDevice.{AnyDevice}
use Rattle.excp_system.specs.Opening.{RowsState}
use Rattle.unit_book.specs.Book.{Book}
use Rattle.job_mount.specs.Outcomes.{all_without_spare}
use Rattle.job_script.specs.Views.{said}
use Rattle.job_run.specs.Ending.{EndsParsed, IsFaultlessWith}
use Rattle.job_run.specs.Rooms.{room_of_a_unit}
use Rattle.job_run.proofs.Beginnings.{begun_with}
use Rattle.job_run.proofs.Ends.{ends_with, late_result, not_mounted}
use Rattle.job_run.proofs.Serial.{leaves_one_at_a_time}
use Rattle.job_run.proofs.run.run_parsed.Goals as goal

pub returns-in_err-rows-clause-fault : goal.returns-in_err-rows-clause-fault
returns-in_err-rows-clause-fault g c =
    let given = c.args.given.items in
    let script = said c.args.script.now in
    let fault = c.in_err-rows.field-0.0 in
    ends_with c.from_residual.result fault (EndsParsed given script) c.from_residual.ensures.1
    (not_mounted (λ (made : RowsState × Vec (Book AnyDevice) Global). all_without_spare made.1) given script
    (room_of_a_unit c.args.script.now) fault c.in_err-rows.ensures.exact)

pub returns-clause-began : goal.returns-clause-began
returns-clause-began g c =
    begun_with c.run_on.result c.args.given.items (said c.args.script.now) (room_of_a_unit c.args.script.now) c.in_ok-rows.books
    c.in_ok-rows.ensures.exact c.run_on.ensures.began c.run_on.ensures.controlled

pub returns-clause-fault : goal.returns-clause-fault
returns-clause-fault g c =
    let runs : IsFaultlessWith c.args.given.items (said c.args.script.now) =
    (room_of_a_unit c.args.script.now, all_without_spare c.in_ok-rows.books, c.in_ok-rows.ensures.exact) in
    late_result c.run_on.result c.args.given.items (said c.args.script.now) runs c.run_on.ensures.fault

pub returns-clause-serial : goal.returns-clause-serial
returns-clause-serial g c =
    leaves_one_at_a_time c.run_on.result c.args.given.items (said c.args.script.now) (returns-clause-began g c) c.run_on.ensures.ran
    c.run_on.ensures.text
