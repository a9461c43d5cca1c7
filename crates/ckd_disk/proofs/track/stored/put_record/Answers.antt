use Rattle.ckd_disk.specs.Record.{Record}
use Rattle.ckd_disk.proofs.Packing.{put_parts}
use Rattle.ckd_disk.proofs.track.stored.put_record.Goals as goal

pub returns : goal.returns
returns c =
    let r : Record = record { id = c.args.id.now; key = c.args.key.now; content = c.args.content.now } in
    put_parts c.args.image.now c.put_at.new.image c.put_at-2.new.image c.put_at-3.new.image c.put_at-4.new.image c.args.at r c.told-id
    c.requires.content c.requires.room c.put_at.ensures c.put_at-2.ensures c.put_at-3.ensures c.put_at-4.ensures
