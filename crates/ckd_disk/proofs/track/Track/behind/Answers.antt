use Rattle.std.proofs.Common.{arith}
use Rattle.ckd_disk.proofs.Tracks.{bounds}
use Rattle.ckd_disk.proofs.track.Track.behind.Goals as goal

pub overflow_add-place : goal.overflow_add-place
overflow_add-place c =
    let b = bounds c.args.self.now c.self.inside.bytes.items c.self.inside.used c.self.inside.count c.self.invariant c.self.view_is in
    omega (arith, b.wide, b.counted, b.within, c.requires.there)

pub returns-then-place-count : goal.returns-then-place-count
returns-then-place-count c =
    let b = bounds c.args.self.now c.self.inside.bytes.items c.self.inside.used c.self.inside.count c.self.invariant c.self.view_is in
    omega (arith, b.counted)

pub returns : goal.returns
returns c =
    let b = bounds c.args.self.now c.self.inside.bytes.items c.self.inside.used c.self.inside.count c.self.invariant c.self.view_is in
    record { is = record { there = omega (arith, b.counted, c.requires.there); offset = c.end_of.ensures.end }; place = omega arith }
