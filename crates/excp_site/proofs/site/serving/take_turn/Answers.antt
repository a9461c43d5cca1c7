use Rattle.std.proofs.Common.{◌+◌, arith, sym}
use Rattle.excp_site.specs.Serving.{Begins, Takes, Delivers, StopsServing, commands_done, posts_sent}
use Rattle.excp_site.proofs.Refused.{errs}
use Rattle.excp_site.proofs.Serving.{counted, few-commands, stops, then-interrupt, then-run, then-start}
use Rattle.excp_site.proofs.Standing.{stands}
use Rattle.excp_site.proofs.site.serving.take_turn.Goals as goal

pub returns-in_err-taken-clause-stops : goal.returns-in_err-taken-clause-stops
returns-in_err-taken-clause-stops c =
    let old = c.args.plain.now in
    errs c.from_residual.result (StopsServing old c.args.unit c.args.max c.take.new.self)
    (stops old c.args.unit c.args.max 0 0 old c.take.new.self Begins c.in_err-taken.ensures.err (omega arith))

pub returns-in_err-started-clause-stops : goal.returns-in_err-started-clause-stops
returns-in_err-started-clause-stops c =
    let old = c.args.plain.now in
    let took = Takes Begins c.in_ok-taken.taken c.in_ok-taken.ensures.ok in
    errs c.from_residual-in_err-started.result (StopsServing old c.args.unit c.args.max c.step.new.plain)
    (stops old c.args.unit c.args.max 0 0 c.take.new.self c.step.new.plain took c.in_err-started.ensures.err (omega arith))

pub returns-in_err-ran-clause-stops : goal.returns-in_err-ran-clause-stops
returns-in_err-ran-clause-stops c =
    let old = c.args.plain.now in
    let took = Takes Begins c.in_ok-taken.taken c.in_ok-taken.ensures.ok in
    let started = then-start c.in_ok-started.started c.step.new.plain took c.in_ok-started.ensures.ok in
    errs c.from_residual-in_err-ran.result (StopsServing old c.args.unit c.args.max c.step-2.new.plain)
    (stops old c.args.unit c.args.max 0 0 c.step.new.plain c.step-2.new.plain started c.in_err-ran.ensures.err (omega arith))

pub returns-in_err-interrupted-clause-stops : goal.returns-in_err-interrupted-clause-stops
returns-in_err-interrupted-clause-stops c =
    let old = c.args.plain.now in
    let unit = c.args.unit in
    let max = c.args.max in
    let ran = c.in_ok-ran.ran in
    let took = Takes Begins c.in_ok-taken.taken c.in_ok-taken.ensures.ok in
    let started = then-start c.in_ok-started.started c.step.new.plain took c.in_ok-started.ensures.ok in
    let runs = then-run max ran c.step-2.new.plain started c.in_ok-ran.ensures.ok in
    let few = few-commands c.step.new.plain unit max ran c.step-2.new.plain c.in_ok-ran.ensures.ok in
    errs c.from_residual-in_err-interrupted.result (StopsServing old unit max c.step-3.new.plain)
    (stops old unit max 0 (commands_done ran) c.step-2.new.plain c.step-3.new.plain runs c.in_err-interrupted.ensures.err few)

pub returns-clause-serves : goal.returns-clause-serves
returns-clause-serves c =
    let ran = c.in_ok-ran.ran in
    let took = Takes Begins c.in_ok-taken.taken c.in_ok-taken.ensures.ok in
    let started = then-start c.in_ok-started.started c.step.new.plain took c.in_ok-started.ensures.ok in
    let runs = then-run c.args.max ran c.step-2.new.plain started c.in_ok-ran.ensures.ok in
    let interrupted = then-interrupt c.in_ok-interrupted.interrupted c.step-3.new.plain runs c.in_ok-interrupted.ensures.ok in
    let delivered = Delivers interrupted c.deliver-delivery.result c.deliver-delivery.ensures.answer in
    counted c.args.plain.now c.args.unit (0 + posts_sent c.deliver-delivery.result) (commands_done ran) (posts_sent c.deliver-delivery.result)
    c.commands_done.result c.deliver-delivery.new.self (omega arith) (sym c.commands_done.ensures) delivered

pub returns-clause-most : goal.returns-clause-most
returns-clause-most c =
    omega (
      arith,
      c.commands_done.ensures,
      few-commands c.step.new.plain c.args.unit c.args.max c.in_ok-ran.ran c.step-2.new.plain
          c.in_ok-ran.ensures.ok,
    )

pub returns-clause-still : goal.returns-clause-still
returns-clause-still c = λ quiet.
    stands c.args.plain.now c.take.new.self c.step.new.plain c.step-2.new.plain c.step-3.new.plain c.deliver-delivery.new.self
    c.args.unit c.args.max c.in_ok-taken.taken c.in_ok-started.started c.in_ok-ran.ran c.in_ok-interrupted.interrupted
    c.deliver-delivery.result (c.has_moved.ensures.0 quiet) c.in_ok-taken.ensures.ok c.in_ok-started.ensures.ok c.in_ok-ran.ensures.ok
    c.in_ok-interrupted.ensures.ok c.deliver-delivery.ensures.answer
