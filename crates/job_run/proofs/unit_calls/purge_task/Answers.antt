use Rattle.std.proofs.Common.{◌≡◌, ◌<◌, ◌∙◌, length, refl, ap, arith}
use Rattle.std.proofs.lemmas.Result.{on_ok_weaker}
use Rattle.request_piece.specs.declared.scope.Scope.TheVariants.{Task}
use Rattle.unit_book.specs.declared.control.Control.{Control}
use Rattle.unit_book.specs.declared.control.Control.TheVariants.{Purge}
use Rattle.excp_system.specs.States.{TaskState}
use Rattle.job_run.proofs.Asked.{asks_first, first_all, first_and, of_error, some_and, some_none}
use Rattle.job_run.proofs.unit_calls.purge_task.Goals as goal

pub loop-unit-init : goal.loop-unit-init
loop-unit-init g c = record {
  others = refl;
  some = some_none (Purge (Task c.args.task) c.args.mode) c.args.client.now.asked;
  asked = refl;
}

pub loop-unit-preserved : goal.loop-unit-preserved
loop-unit-preserved g c =
    let i = c.loop-unit.invariant in
    let e = c.control-here.ensures in
    let first = c.args.client.now.asked in
    let new = c.control-here.new.client.asked in
    let within : c.loop-unit.unit < length first = omega (arith, c.loop-unit-test.true, c.holds.ensures.asked, c.requires) in
    record {
      others = e.others ∙ ap (λ (v : TaskState). record { number = v.number; sent = v.sent; got = v.got; asked = new }) i.others;
      some = some_and c.loop-unit.unit (Purge (Task c.args.task) c.args.mode) first c.loop-unit.client.asked new c.control-here.result within
          i.some e.asked e.unasked;
      asked = first_and c.loop-unit.unit (Purge (Task c.args.task) c.args.mode) first c.loop-unit.client.asked new c.loop-unit.purged
          c.control-here.result c.and-purged.result c.and-purged.ensures within i.asked e.asked;
    }

pub returns-clause-asked : goal.returns-clause-asked
returns-clause-asked g c =
    let purge : Control = Purge (Task c.args.task) c.args.mode in
    let first = c.args.client.now.asked in
    let all : length first ≡ c.loop-unit.unit =
    omega (arith, c.loop-unit-test.false, c.loop-unit.auto.unit-end, c.holds.ensures.asked, c.requires) in
    on_ok_weaker c.loop-unit.purged
    (λ (e : c.loop-unit.client.asked ≡ asks_first c.loop-unit.unit purge first). e ∙ first_all c.loop-unit.unit purge first all)
    c.loop-unit.invariant.asked

pub returns-clause-unasked : goal.returns-clause-unasked
returns-clause-unasked g c = of_error c.loop-unit.purged c.loop-unit.invariant.some.some
