use Rattle.std.proofs.Common.{take}
use Rattle.std.specs.Io.KnownBytes.{Appends}
use Rattle.std.specs.List.{AllByRecursion}
use Rattle.ckd_image.specs.Image.{IsRecorded}
use Rattle.ckd_image.proofs.Writing.{first_tracks}
use Rattle.ckd_image.proofs.saver.save.Given as goal

abbrev pub invariant-loop-number : goal.invariant-loop-number
invariant-loop-number g l = record {
  written : Appends (g.W.Write.contents l.fn.writer) (g.W.Write.contents l.writer) (first_tracks l.kept l.mounted l.disk l.number);
  each : AllByRecursion (IsRecorded l.size) (take l.number l.disk.tracks);
}
