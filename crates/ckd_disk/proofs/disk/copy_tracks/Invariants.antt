use Rattle.std.proofs.Common.{◌≡◌, take}
use Rattle.ckd_disk.proofs.disk.copy_tracks.Given as goal

abbrev pub invariant-loop-track : goal.invariant-loop-track
invariant-loop-track l = l.copies.items ≡ take l.track-index l.tracks.items
