use Rattle.std.proofs.Common.{◌≡◌, ◌≤◌, take}
use Rattle.ckd_disk.proofs.Opening.{opening_bytes}
use Rattle.ckd_disk.proofs.mount.fits_on.Given as goal

abbrev pub invariant-loop-initial : goal.invariant-loop-initial
invariant-loop-initial l = record {
  counted : l.total ≡ opening_bytes l.geometry (take l.initial-index l.records) l.track;
  room : l.total ≤ l.geometry.track_bytes;
}
