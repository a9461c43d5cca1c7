use Rattle.std.proofs.Common.{arith}
use Rattle.tape_unit.proofs.Reels.{after}
use Rattle.tape_unit.proofs.reel.Reel.next.Goals as goal

pub read_length-len-requires : goal.read_length-len-requires
read_length-len-requires c =
    let a = after c.args.self.now.items c.from.result.now c.args.at c.requires.on c.requires.before c.from.ensures.item in
    omega (arith, a.long)

pub overflow_add-result-3 : goal.overflow_add-result-3
overflow_add-result-3 c =
    let a = after c.args.self.now.items c.from.result.now c.args.at c.requires.on c.requires.before c.from.ensures.item in
    omega (arith, a.size, c.read_length-len.ensures.length, c.from.ensures.within)

pub returns-clause-on : goal.returns-clause-on
returns-clause-on c =
    let a = after c.args.self.now.items c.from.result.now c.args.at c.requires.on c.requires.before c.from.ensures.item in
    record { within = omega (arith, c.requires.before); before = omega (arith, a.size, c.read_length-len.ensures.length) }
