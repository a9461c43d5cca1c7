use Rattle.std.proofs.Common.{◌≡◌, ◌-◌, length}
use Rattle.ckd_image.proofs.Reading.{Far}
use Rattle.ckd_image.proofs.loader.Loader.read.Given as goal

abbrev pub invariant-tracks : goal.invariant-tracks
invariant-tracks g l = record {
  far : Far l.self.format l.header (g.R.Read.remaining l.fn.reader) (g.R.Read.remaining l.reader) l.self.volume l.self.tracks.items
      l.self.zeros.items l.offset;
  bytes : l.bytes ≡ l.self.format.bytes;
  buffer : length l.buffer.items ≡ l.bytes;
}

abbrev pub decreases-tracks : goal.decreases-tracks
decreases-tracks g l = 65_536 - length l.self.volume.tracks
