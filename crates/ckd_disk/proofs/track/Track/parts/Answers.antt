use Rattle.std.proofs.Common.{drop, ◌++◌, ap, ◌∙◌}
use Rattle.std.proofs.lemmas.List.{drop_at}
use Rattle.ckd_disk.specs.Record.{count_area}
use Rattle.ckd_disk.specs.Track.{record_of}
use Rattle.ckd_disk.proofs.Packing.{length-count_area}
use Rattle.ckd_disk.proofs.track.Track.parts.Goals as goal

pub returns-clause-parts : goal.returns-clause-parts
returns-clause-parts c =
    let r = record_of c.args.self.now.records c.args.spot.place in
    c.parts_of.ensures ∙ ap (drop 8) c.stored.ensures.packed ∙ drop_at (count_area r) (r.key ++ r.content) 8
    (length-count_area r c.stored.ensures.fits)
