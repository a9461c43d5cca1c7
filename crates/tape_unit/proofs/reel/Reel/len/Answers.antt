use Rattle.tape_unit.proofs.Reels.{shown}
use Rattle.tape_unit.proofs.reel.Reel.len.Goals as goal

pub returns : goal.returns
returns c =
    let i = c.self.inside in
    (shown c.args.self.now i.bytes.items i.used i.count c.self.invariant c.self.view_is).packs.counted
