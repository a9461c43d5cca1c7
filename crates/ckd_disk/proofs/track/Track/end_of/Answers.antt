use Rattle.std.proofs.Common.{◌∙◌, arith}
use Rattle.device_port.proofs.Items.{offset_of-more, size_at-begins, begins-within}
use Rattle.ckd_disk.specs.Record.{ckd, blank}
use Rattle.ckd_disk.specs.Track.{record_of}
use Rattle.ckd_disk.proofs.Packing.{reads, length-packed}
use Rattle.ckd_disk.proofs.track.Track.end_of.Goals as goal

pub overflow_add-result : goal.overflow_add-result
overflow_add-result c =
    let within = begins-within ckd reads c.from.result.now (record_of c.args.self.now.records c.args.spot.place) c.from.ensures.found in
    omega (arith, within, c.size_of_first.ensures, c.from.ensures.start, c.from.ensures.small)

pub returns : goal.returns
returns c =
    let r = record_of c.args.self.now.records c.args.spot.place in
    let b = c.from.ensures.found in
    let within = begins-within ckd reads c.from.result.now r b in
    let size = c.size_of_first.ensures ∙ size_at-begins ckd reads c.from.result.now r b ∙ length-packed r b.fits in
    record {
      end = omega (
        arith,
        size,
        length-packed r b.fits,
        offset_of-more ckd c.args.self.now.records c.args.spot.place blank
            c.requires.there,
        c.requires.offset,
      );
      within = omega (arith, within, c.size_of_first.ensures, c.from.ensures.start);
      behind = omega (arith, size);
    }
