use Rattle.std.proofs.Common.{◌≡◌, ◌<◌, rules, true, ℕ, subst, length, ap, arith}
use Rattle.std.proofs.lemmas.Bool.Decides.{nat_tests}
use Rattle.ckd_disk.specs.Volume.{VolumeState, Stops, has_room}
use Rattle.ckd_disk.proofs.Volumes.{stopped}
use Rattle.ckd_disk.proofs.volume.Volume.record_track.Goals as goal

pub returns-in-Err-clause-answer : goal.returns-in-Err-clause-answer
returns-in-Err-clause-answer c =
    let v = c.args.self.now in
    let len : length c.self.inside.tracks.items ≡ c.self.inside.tracks.len = search rules in
    let same : length c.self.inside.tracks.items ≡ length v.tracks = ap (λ (x : VolumeState). length x.tracks) c.self.view_is in
    let few : length v.tracks < 65_535 = omega (arith, len, same, c.len.ensures) in
    let room : has_room v ≡ true = grind (arith, nat_tests, few) in
    let size : c.self.inside.track_bytes ≡ v.track_bytes = ap (λ (x : VolumeState). x.track_bytes) c.self.view_is in
    stopped v v c.args.bytes.now c.in-Err.error room
    (subst (λ (n : ℕ). Stops n c.args.bytes.now c.in-Err.error) size ((c.in-Err.ensures {u = tt}).refused))
