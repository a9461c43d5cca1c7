use Rattle.std.proofs.Common.{take, length, ◌++◌, ap, ◌∙◌, arith}
use Rattle.std.proofs.lemmas.List.{take_at, length-take}
use Rattle.ckd_disk.specs.Record.{count_area}
use Rattle.ckd_disk.specs.Track.{record_of}
use Rattle.ckd_disk.proofs.Packing.{length-count_area}
use Rattle.ckd_disk.proofs.track.Track.count_area.Goals as goal

pub returns-clause-count_area : goal.returns-clause-count_area
returns-clause-count_area c =
    let r = record_of c.args.self.now.records c.args.spot.place in
    c.count_area_of.ensures ∙ ap (take 8) c.stored.ensures.packed ∙ take_at (count_area r) (r.key ++ r.content) 8
    (length-count_area r c.stored.ensures.fits)

pub returns-clause-len : goal.returns-clause-len
returns-clause-len c = omega (arith, ap length c.count_area_of.ensures, length-take 8 c.stored.result.now, c.stored.ensures.len)
