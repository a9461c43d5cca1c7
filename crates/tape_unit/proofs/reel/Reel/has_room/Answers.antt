use Rattle.std.proofs.Common.{arith}
use Rattle.tape_unit.proofs.Reels.{bounds}
use Rattle.tape_unit.proofs.reel.Reel.has_room.Goals as goal

pub overflow_add-result : goal.overflow_add-result
overflow_add-result c =
    let i = c.self.inside in
    let b = bounds c.args.self.now i.bytes.items i.used i.count c.args.at c.self.invariant c.self.view_is c.requires.on in
    omega (arith, b.within, b.whole, b.small)

pub overflow_add-result-2 : goal.overflow_add-result-2
overflow_add-result-2 c =
    let i = c.self.inside in
    let b = bounds c.args.self.now i.bytes.items i.used i.count c.args.at c.self.invariant c.self.view_is c.requires.on in
    omega (arith, b.within, b.whole, b.small, c.requires.len)
