use Rattle.std.proofs.Common.{◌≡◌, ◌≤◌, ℕ, take}
use Rattle.ckd_disk.specs.Mount.{opening_tracks}
use Rattle.ckd_disk.proofs.Opening.{opening_bytes}
use Rattle.ckd_disk.proofs.mount.place.Given as goal

abbrev pub invariant-loop-initial : goal.invariant-loop-initial
invariant-loop-initial l = record {
  placed : l.tracks ≡ opening_tracks l.geometry (take l.initial-index l.records);
  room : (track : ℕ) → opening_bytes l.geometry (take l.initial-index l.records) track ≤ l.geometry.track_bytes;
}
