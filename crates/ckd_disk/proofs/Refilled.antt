-- A track whose image is written over with that of another.
use Rattle.std.proofs.Common.{◌≡◌, ℕ, ◌+◌, ◌≤◌, List, length, drop, ap, ◌∙◌, arith}
use Rattle.device_port.specs.Moves.{written}
use Rattle.device_port.specs.Packed.{HoldsItems, image_of}
use Rattle.device_port.proofs.Items.{length-written, used-within}
use Rattle.ckd_disk.specs.Record.{ckd}
use Rattle.ckd_disk.specs.Track.{TrackState}
use Rattle.ckd_disk.proofs.Tracks.{Kept, kept, seen, shown}

-- it shows the other one
pub refilled : (from : TrackState) (bytes after source : List ℕ) (used count : ℕ) → HoldsItems ckd source used count →
    seen source count ≡ from → length bytes ≡ from.size → after ≡ written bytes 0 (image_of ckd from.records) → Kept from after used count
refilled from bytes after source used count h e size is =
    let s = shown from source used count h e in
    let image = image_of ckd from.records in
    let fit : 0 + length image ≤ length bytes =
    omega (arith, s.packs.taken, used-within ckd from.records source used count s.packs, s.size, size) in
    kept from after used count (record {
      packs = record {
        unused = drop (0 + length image) bytes;
        parts = is;
        fits = s.packs.fits;
        taken = s.packs.taken;
        counted = s.packs.counted;
      };
      size = ap length is ∙ length-written bytes 0 image fit ∙ size;
    })
