use Rattle.std.proofs.Common.{rules, arith, subst, List}
use Rattle.io_images.specs.declared.extent.Extent.{Extent}
use Rattle.unit_book.specs.Answers.{OpensBook, OpenRefused}
use Rattle.any_device.specs.Devices.{any_device}
use Rattle.job_mount.proofs.Openings.{dcb_opened, dcb_refused, dcbs_opened}
use Rattle.job_mount.proofs.mounting.open_dcbs.Goals as goal

pub returns-in-Err : goal.returns-in-Err
returns-in-Err c =
    let o = c.opening-item.result in
    let refused = subst (λ (xs : List Extent). OpenRefused any_device c.loop-opening.book xs c.in-Err.field-0) c.deref.ensures.value
    (c.in-Err.ensures.refused) in
    record {
      exact = dcb_refused c.loop-opening.book c.args.openings.now c.loop-opening.opening-index o c.in-Err.field-0 _
          c.loop-opening-test.true c.opening-item.is refused (λ none. search rules) c.loop-opening.invariant.exact;
      fresh = search rules;
      room = search rules;
    }

pub loop-opening-preserved : goal.loop-opening-preserved
loop-opening-preserved c =
    let o = c.opening-item.result in
    let opens = subst (λ (xs : List Extent). OpensBook any_device c.loop-opening.book c.in-Ok.field-0 o.method xs c.open.new.self)
    c.deref.ensures.value (c.in-Ok.ensures.ok) in
    record {
      exact = dcb_opened c.loop-opening.book c.open.new.self c.in-Ok.field-0 c.args.openings.now c.loop-opening.opening-index o _
          c.loop-opening-test.true c.opening-item.is opens c.loop-opening.invariant.exact;
      fresh = search rules;
      room = search rules;
    }

pub returns-clause-exact : goal.returns-clause-exact
returns-clause-exact c =
    dcbs_opened c.loop-opening.book c.args.openings.now c.loop-opening.opening-index _
    (omega (arith, c.loop-opening-test.false)) c.loop-opening.invariant.exact
