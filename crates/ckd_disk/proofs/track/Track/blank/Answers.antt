use Rattle.std.proofs.Common.{◌≡◌, length, rules}
use Rattle.ckd_disk.proofs.Tracks.{blank_kept}
use Rattle.ckd_disk.proofs.track.Track.blank.Goals as goal

pub invariant_of-result : goal.invariant_of-result
invariant_of-result c =
    let len : length c.in_ok-vec.field-0.items ≡ c.args.size = search rules in
    (blank_kept c.args.size c.in_ok-vec.field-0.items len).holds

pub returns : goal.returns
returns c =
    let len : length c.in_ok-vec.field-0.items ≡ c.args.size = search rules in
    (blank_kept c.args.size c.in_ok-vec.field-0.items len).view
