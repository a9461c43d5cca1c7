use Rattle.tape_unit.proofs.Reels.{shown, at_end}
use Rattle.tape_unit.proofs.reel.Reel.end.Goals as goal

pub returns : goal.returns
returns c =
    let i = c.self.inside in
    record {
      on = at_end c.args.self.now i.bytes.items i.used i.count c.self.invariant c.self.view_is;
      last = (shown c.args.self.now i.bytes.items i.used i.count c.self.invariant c.self.view_is).packs.counted;
    }
