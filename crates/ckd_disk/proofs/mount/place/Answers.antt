use Rattle.std.proofs.Common.{◌≡◌, ◌+◌, ◌<◌, ◌≤◌, take, refl, sym, ap, arith, rules}
use Rattle.ckd_disk.specs.Record.{Record, size_of}
use Rattle.ckd_disk.specs.Track.{bytes_of}
use Rattle.ckd_disk.specs.Mount.{initial, track_of_initial}
use Rattle.ckd_disk.proofs.Opening.{opening_bytes, bytes_start, bytes_more_here, bytes_made, item_ok, length-tracks, no_room, room_more}
use Rattle.ckd_disk.proofs.Opening.{placed_more, all_placed}
use Rattle.ckd_disk.proofs.mount.place.Goals as goal

pub loop-initial-init : goal.loop-initial-init
loop-initial-init c =
    record { placed = c.requires.described; room = λ track. omega (arith, bytes_start c.args.geometry track, c.requires.geometry.short) }

pub bounds-tracks-track_of : goal.bounds-tracks-track_of
bounds-tracks-track_of c =
    omega (
      arith,
      length-tracks c.args.geometry (take c.loop-initial.initial-index c.args.records.now) c.loop-initial.tracks
          c.loop-initial.invariant.placed,
      c.track_of.ensures.there,
    )

pub returns-then-not-has_room-clause-room : goal.returns-then-not-has_room-clause-room
returns-then-not-has_room-clause-room c =
    let g = c.args.geometry in
    let records = c.args.records.now in
    let k = c.loop-initial.initial-index in
    let r = c.initial-item.result in
    let t = c.index-tracks-track_of.result in
    let ok = item_ok g records k r c.requires.each c.loop-initial-test.true c.initial-item.is in
    let made = bytes_made g (take k records) c.loop-initial.tracks c.track_of.result t c.loop-initial.invariant.placed
    c.track_of.ensures.there c.index-tracks-track_of.is in
    let here = bytes_more_here g records k r (track_of_initial g r) c.loop-initial-test.true c.initial-item.is ok refl in
    let full : t.size < bytes_of t.records + c.size_of.result = search rules in
    let over : g.track_bytes < opening_bytes g (take (k + 1) records) (track_of_initial g r) =
    omega (arith, full, here, made.0, made.1, c.size_of.ensures.value, ap (opening_bytes g (take k records)) c.track_of.ensures.number) in
    sym (no_room g records k r c.loop-initial-test.true c.initial-item.is over)

pub loop-initial-preserved : goal.loop-initial-preserved
loop-initial-preserved c =
    let g = c.args.geometry in
    let records = c.args.records.now in
    let k = c.loop-initial.initial-index in
    let r = c.initial-item.result in
    let t = c.index-tracks-track_of.result in
    let x : Record = record { id = c.id_at.result; key = c.deref.result.now; content = c.deref-in-loop-initial.result.now } in
    let x-is : x ≡ initial r = cc (c.id_at.ensures, c.deref.ensures.value, c.deref-in-loop-initial.ensures.value) in
    let ok = item_ok g records k r c.requires.each c.loop-initial-test.true c.initial-item.is in
    let made = bytes_made g (take k records) c.loop-initial.tracks c.track_of.result t c.loop-initial.invariant.placed
    c.track_of.ensures.there c.index-tracks-track_of.is in
    let fits : bytes_of t.records + c.size_of.result ≤ t.size = search rules in
    let here : opening_bytes g (take k records) (track_of_initial g r) + size_of (initial r) ≤ g.track_bytes =
    omega (arith, fits, made.0, made.1, c.size_of.ensures.value, ap (opening_bytes g (take k records)) c.track_of.ensures.number) in
    record {
      placed = placed_more g records k r c.track_of.result c.loop-initial.tracks t c.append.new.self x c.loop-initial-test.true
          c.initial-item.is (sym c.track_of.ensures.number) c.track_of.ensures.there c.loop-initial.invariant.placed c.append.ensures x-is;
      room = room_more g records k r c.loop-initial-test.true c.initial-item.is ok c.loop-initial.invariant.room here;
    }

pub returns-clause-room : goal.returns-clause-room
returns-clause-room c =
    sym (all_placed c.args.geometry c.args.records.now c.loop-initial.initial-index (omega arith) c.loop-initial.invariant.room)
