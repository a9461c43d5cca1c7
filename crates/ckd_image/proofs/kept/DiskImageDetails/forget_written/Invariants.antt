use Rattle.std.proofs.Common.{◌≡◌}
use Rattle.ckd_image.proofs.Forgotten.{Forgotten}
use Rattle.ckd_image.proofs.kept.DiskImageDetails.forget_written.Given as goal

abbrev pub invariant-loop-number : goal.invariant-loop-number
invariant-loop-number l = record {
  header : l.self-inside.header ≡ l.fn.self.header;
  so_far : Forgotten l.fn.self l.mounted.tracks l.disk.tracks l.number l.self-inside.tracks.items;
}
