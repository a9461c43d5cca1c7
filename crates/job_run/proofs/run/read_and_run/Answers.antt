use Rattle.std.proofs.Common.{List, Option, subst, sym}
use Rattle.any_device.specs.declared.device.AnyDevice.{AnyDevice}
use Rattle.job_script.specs.Reading.{ReadsAll}
use Rattle.job_script.specs.Views.{said}
use Rattle.job_script.specs.declared.reading.TheConstants.{LIMIT}
use Rattle.job_run.specs.Beginning.{AreBegunWith}
use Rattle.job_run.specs.Ending.{EndsBy, EndsParsed}
use Rattle.job_run.proofs.Ends.{ends_parsed, ends_with}
use Rattle.job_run.proofs.run.read_and_run.Goals as goal

pub returns-in_err-run-clause-fault : goal.returns-in_err-run-clause-fault
returns-in_err-run-clause-fault g c =
    let old = g.I.Read.remaining c.args.reader.now in
    let new = g.I.Read.remaining c.read_script.new.reader in
    let whole = subst (ReadsAll LIMIT old new) (sym c.deref.ensures.value) c.in_ok-text.ensures.whole in
    let fault = c.in_err-run.field-0.0 in
    let script = said c.in_ok-script.script in
    ends_with c.from_residual-in_err-run.result fault (EndsBy LIMIT old new) c.from_residual-in_err-run.ensures.1
    (ends_parsed LIMIT old new c.deref.result.now script fault whole c.in_ok-script.ensures.grammar
    (subst (λ (given : List (Option AnyDevice)). EndsParsed given script fault) c.new.ensures.items c.in_err-run.ensures.fault))

pub returns-clause-run : goal.returns-clause-run
returns-clause-run g c =
    let script = said c.in_ok-script.script in
    record {
      text = c.deref.result.now;
      whole = subst (ReadsAll LIMIT (g.I.Read.remaining c.args.reader.now) (g.I.Read.remaining c.read_script.new.reader))
          (sym c.deref.ensures.value) c.in_ok-text.ensures.whole;
      parsed = c.in_ok-script.ensures.grammar;
      began = subst (λ (given : List (Option AnyDevice)). AreBegunWith given script c.in_ok-run.run'.report.books) c.new.ensures.items
          c.in_ok-run.ensures.began;
      ran = c.in_ok-run.ensures.ran;
    }
