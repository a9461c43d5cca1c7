use Rattle.std.proofs.Common.{◌≡◌, ◌+◌, ◌≤◌, ℕ, List, length, ap, ◌∙◌, arith, rules}
use Rattle.std.proofs.lemmas.List.{with_items_is}
use Rattle.std.specs.Vec.{with_items}
use Rattle.device_port.specs.Moves.{padded, written}
use Rattle.ckd_disk.specs.Record.{record_written}
use Rattle.ckd_disk.specs.Track.{with_record_behind}
use Rattle.ckd_disk.proofs.Tracks.{Formatted, record_put, bounds}
use Rattle.ckd_disk.proofs.track.Track.put_behind.Goals as goal

pub overflow_add-self-2 : goal.overflow_add-self-2
overflow_add-self-2 c =
    let b = bounds c.args.self.now c.self.inside.bytes.items c.self.inside.used c.self.inside.count c.self.invariant c.self.view_is in
    omega (arith, b.wide, b.counted, b.within, c.requires.spot.there)

pub overflow_add-result : goal.overflow_add-result
overflow_add-result c =
    let b = bounds c.args.self.now c.self.inside.bytes.items c.self.inside.used c.self.inside.count c.self.invariant c.self.view_is in
    omega (arith, b.wide, b.counted, b.within, c.requires.spot.there)

formatted : (c : goal.After-struct_known-2-1) →
    Formatted (with_record_behind c.args.self.now c.args.spot.place (record_written c.args.given.now))
    (with_items c.self.inside.bytes c.fill_at.new.image).items (c.end_of-offset.result + c.size_given-len.result) (c.args.spot.place + 2)
    (record { place = c.args.spot.place + 1; offset = c.end_of-offset.result })
formatted c =
    let t = c.args.self.now in
    let v = c.self.inside.bytes in
    let image = c.fill_at.new.image in
    let given = c.args.given.now in
    let end = c.end_of-offset.result in
    let len = c.size_given-len.result in
    let same : length image ≡ v.len = search rules in
    let room : end + len ≤ t.size = omega (arith, c.requires.room, c.end_of-offset.ensures.end, c.size_given-len.ensures.size) in
    let after-is = with_items_is v image same ∙ c.fill_at.ensures.image
    ∙ ap (λ (x : List ℕ). written x end (padded len given)) c.deref_mut.ensures.value in
    record_put t v.items (with_items v image).items c.self.inside.used c.self.inside.count c.args.spot given end len c.self.invariant
    c.self.view_is c.requires.spot (λ i. c.fill_at.ensures.bytes i) c.requires.count_area c.end_of-offset.ensures.end
    c.size_given-len.ensures.size room after-is

pub invariant_of-self : goal.invariant_of-self
invariant_of-self c = (formatted c).kept.holds

pub returns-clause-track : goal.returns-clause-track
returns-clause-track c = (formatted c).kept.view

pub returns-clause-spot : goal.returns-clause-spot
returns-clause-spot c = (formatted c).stands
