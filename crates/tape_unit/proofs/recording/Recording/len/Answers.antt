use Rattle.std.proofs.Common.{length, ap, ◌∙◌}
use Rattle.device_port.proofs.Items.{packs-held}
use Rattle.tape_unit.specs.Item.{on_tape}
use Rattle.tape_unit.specs.Reel.{ReelState}
use Rattle.tape_unit.proofs.Recordings.{few}
use Rattle.tape_unit.proofs.recording.Recording.len.Goals as goal

pub returns-clause-len : goal.returns-clause-len
returns-clause-len c =
    let i = c.self.inside in
    (packs-held on_tape i.bytes.items (length i.bytes.items) i.count c.self.invariant.holds).counted
    ∙ ap (λ (r : ReelState). length r.items) c.self.view_is

pub returns-clause-few : goal.returns-clause-few
returns-clause-few c =
    let i = c.self.inside in
    few i.bytes.items i.count i.size c.self.invariant
