use Rattle.std.proofs.Common.{length, ap, ◌∙◌, sym, refl, subst, List, ℕ}
use Rattle.device_port.proofs.Items.{take-begins, item_at-packed, size_at-packed, begins-within}
use Rattle.ckd_disk.specs.Record.{ckd, record_at, IsRecord, size_at}
use Rattle.ckd_disk.specs.Track.{record_of}
use Rattle.ckd_disk.proofs.Packing.{reads, length-packed}
use Rattle.ckd_disk.proofs.track.Track.stored.Goals as goal

pub first-requires : goal.first-requires
first-requires c = begins-within ckd reads c.from.result.now (record_of c.args.self.now.records c.args.spot.place) c.from.ensures.found

pub returns : goal.returns
returns c =
    let r = record_of c.args.self.now.records c.args.spot.place in
    let b = c.from.ensures.found in
    let e = c.first.ensures ∙ take-begins ckd reads c.from.result.now r (size_at c.from.result.now) b refl in
    record {
      packed = e;
      found = ap record_at e ∙ item_at-packed ckd reads r b.fits;
      whole = subst (λ (x : List ℕ). IsRecord x) (sym e) (sym (size_at-packed ckd reads r b.fits));
      fits = b.fits;
      len = ap length e ∙ length-packed r b.fits;
    }
