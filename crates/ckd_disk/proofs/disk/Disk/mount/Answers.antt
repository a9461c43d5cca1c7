use Rattle.std.proofs.Common.{◌≡◌, length, ◌∙◌, rules}
use Rattle.std.proofs.lemmas.List.{with_items_is}
use Rattle.std.specs.Vec.{with_items}
use Rattle.ckd_disk.specs.Mount.{opening_tracks}
use Rattle.ckd_disk.specs.MountFacts.{IsGeometry}
use Rattle.ckd_disk.proofs.Opening.{IsDisk-opening}
use Rattle.ckd_disk.proofs.disk.Disk.mount.Goals as goal

pub invariant_of-result : goal.invariant_of-result
invariant_of-result c =
    let same : length c.place.new.tracks ≡ c.in-Ok.tracks.len = search rules in
    let ok : IsGeometry c.args.geometry = search rules in
    let placed : c.place.new.tracks ≡ opening_tracks c.args.geometry c.args.records.now = search rules in
    let tracks = (with_items c.in-Ok.tracks c.place.new.tracks).items in
    IsDisk-opening c.args.geometry c.args.records.now tracks c.start.result c.in-Ok-new.faults ok
    (with_items_is c.in-Ok.tracks c.place.new.tracks same ∙ placed) c.start.ensures
