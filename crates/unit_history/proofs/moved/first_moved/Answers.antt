use Rattle.std.proofs.Common.{◌≡◌, ◌+◌, ◌-◌, ◌∙◌, arith, false, get_or, length, min, sym}
use Rattle.device_port.specs.declared.chain.Segment.{Segment}
use Rattle.unit_history.specs.MovedData.{first_moved, first_of_part}
use Rattle.unit_history.proofs.MovedLaws.{moved-all, moved-on, moved-until}
use Rattle.unit_history.proofs.moved.first_moved.Goals as goal
use Rattle.unit_history.proofs.moved.first_moved.Goals.{else-loop-part-test, then-loop-part-test+then-is_kept_out}

pub loop-part-preserved : goal.loop-part-preserved
loop-part-preserved c =
    let d : Segment = record { address = 0; count = 0; skip = false } in
    let parts = c.args.parts.now in
    let s = get_or parts c.loop-part.part-index d in
    let bytes = c.loop-part.bytes.items in
    let n = c.min-count.result in
    let is : n ≡ min s.count (c.args.most - length bytes) = omega (arith, c.min-count.ensures, c.from.ensures, c.len.ensures.value) in
    let on = moved-on c.args.way c.args.area.now parts c.loop-part.part-index d c.args.most n bytes
    (first_moved c.args.way c.args.area.now c.args.most parts) c.loop-part-test.true c.loop-part.invariant.few
    (sym c.is_kept_out.ensures ∙ c.if-is_kept_out.false) is c.loop-part.invariant.told in
    let p : c.in_ok-first_of_part.field-0.now ≡ first_of_part c.args.way c.args.area.now s n = c.in_ok-first_of_part.ensures.0 in
    let more : length c.with_later-bytes.result.items ≡ length bytes + n =
    omega (arith, c.with_later-bytes.ensures.length, c.in_ok-first_of_part.ensures.1) in
    record { few = omega (arith, more, is, c.loop-part.invariant.few); told = rw (more, c.with_later-bytes.ensures.bytes, p) on }

pub returns : goal.returns
returns c =
    let d : Segment = record { address = 0; count = 0; skip = false } in
    let parts = c.args.parts.now in
    let bytes = c.loop-part.bytes.items in
    let whole = first_moved c.args.way c.args.area.now c.args.most parts in
    let left = c.args.most - length bytes in
    elim c.loop-part-test.branch [
      | else-loop-part-test w ↦ moved-all c.args.way c.args.area.now parts c.loop-part.part-index left bytes whole
          (omega (arith, w.loop-part-test.false)) c.loop-part.invariant.told
      | then-loop-part-test+then-is_kept_out w ↦ moved-until c.args.way c.args.area.now parts c.loop-part.part-index left d bytes whole
          w.loop-part-test.true (sym w.is_kept_out.ensures ∙ w.if-is_kept_out.true) c.loop-part.invariant.told
    ]
