use Rattle.ckd_disk.proofs.Tracks.{bounds}
use Rattle.ckd_disk.proofs.track.Track.len.Goals as goal

pub returns : goal.returns
returns c = (bounds c.args.self.now c.self.inside.bytes.items c.self.inside.used c.self.inside.count c.self.invariant
    c.self.view_is).counted
