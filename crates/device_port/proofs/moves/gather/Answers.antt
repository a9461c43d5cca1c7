use Rattle.std.proofs.Common.{◌∙◌, ℕ, sym, arith, ◌-◌, length, false, refl, rules, get_or, ap, min}
use Rattle.device_port.specs.declared.chain.Segment.{Segment}
use Rattle.device_port.specs.Moves.{padded, gathered}
use Rattle.device_port.proofs.Gathering.{gathers-on}
use Rattle.device_port.proofs.moves.gather.Goals as goal

pub loop-segment-preserved : goal.loop-segment-preserved
loop-segment-preserved c =
    let d : Segment = record { address = 0; count = 0; skip = false } in
    let m = c.args.area.now in
    let segments = c.args.segments.now in
    let i = c.loop-segment.segment-index in
    let s = get_or segments i d in
    let n = min s.count (length c.loop-segment.into - c.loop-segment.at) in
    let on = gathers-on m segments i d c.loop-segment.into c.gather_part-at.new.into
    (padded (length c.loop-segment.into) (gathered m segments)) c.loop-segment.at n
    c.loop-segment-test.true c.loop-segment.invariant.within (search rules) refl c.gather_part-at.ensures.wrote
    c.loop-segment.invariant.rest in
    record {
      within = omega (arith, c.gather_part-at.auto.into);
      rest =
          rw c.gather_part-at.ensures.place (on ∙ ap (λ (k : ℕ). padded k (gathered m segments)) (sym c.gather_part-at.auto.into));
    }
