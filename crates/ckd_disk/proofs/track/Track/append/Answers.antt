use Rattle.std.proofs.Common.{◌≡◌, ◌+◌, ℕ, List, length, ap, ◌∙◌, arith, rules}
use Rattle.std.proofs.lemmas.List.{with_items_is}
use Rattle.std.specs.Vec.{with_items}
use Rattle.device_port.specs.Moves.{written}
use Rattle.ckd_disk.specs.Record.{Record, FitsCountArea, packed}
use Rattle.ckd_disk.specs.Track.{with_last}
use Rattle.ckd_disk.proofs.Tracks.{Kept, appended, bounds}
use Rattle.ckd_disk.proofs.track.Track.append.Goals as goal

pub overflow_add-self-4 : goal.overflow_add-self-4
overflow_add-self-4 c =
    let b = bounds c.args.self.now c.self.inside.bytes.items c.self.inside.used c.self.inside.count c.self.invariant c.self.view_is in
    omega (arith, b.wide)

keeps : (c : goal.After-self-3-1) →
    Kept (with_last c.args.self.now (record { id = c.args.id.now; key = c.args.key.now; content = c.args.content.now }))
    (with_items c.self.inside.bytes c.put_record.new.image).items
    (c.self.inside.used + (8 + length c.args.key.now + length c.args.content.now)) (c.self.inside.count + 1)
keeps c =
    let v = c.self.inside.bytes in
    let image = c.put_record.new.image in
    let r : Record = record { id = c.args.id.now; key = c.args.key.now; content = c.args.content.now } in
    let fit : FitsCountArea r = record { id = c.told-id; key = c.requires.key; content = c.requires.content } in
    let same : length image ≡ v.len = search rules in
    let after-is = with_items_is v image same ∙ c.put_record.ensures
    ∙ ap (λ (x : List ℕ). written x c.self.inside.used (packed r)) c.deref_mut.ensures.value in
    appended c.args.self.now v.items (with_items v image).items c.self.inside.used c.self.inside.count r c.self.invariant c.self.view_is
    fit c.requires.room after-is

pub invariant_of-self : goal.invariant_of-self
invariant_of-self c = (keeps c).holds

pub returns : goal.returns
returns c = (keeps c).view
