use Rattle.std.proofs.Common.{◌≡◌, ◌+◌, ◌-◌, ℕ, List, length, ap, ◌∙◌, arith, rules}
use Rattle.std.proofs.lemmas.List.{with_items_is}
use Rattle.std.specs.Vec.{with_items}
use Rattle.device_port.specs.Moves.{padded, written}
use Rattle.ckd_disk.specs.Track.{record_of, bytes_before, with_content}
use Rattle.ckd_disk.proofs.Tracks.{Rewritten, content_written}
use Rattle.ckd_disk.proofs.track.Track.set_content.Goals as goal

rewritten : (c : goal.After-self-1) → Rewritten (with_content c.args.self.now c.args.spot.place c.args.given.now)
    (with_items c.self.inside.bytes c.fill_at.new.image).items c.self.inside.used c.self.inside.count c.args.spot
rewritten c =
    let t = c.args.self.now in
    let v = c.self.inside.bytes in
    let image = c.fill_at.new.image in
    let len = length c.content-len.result.now in
    let from = c.end_of.result - len in
    let same : length image ≡ v.len = search rules in
    let len-is : len ≡ length (record_of t.records c.args.spot.place).content = ap length c.content-len.ensures.content in
    let end : from + len ≡ bytes_before t.records (c.args.spot.place + 1) =
    omega (arith, len-is, c.end_of.ensures.end, c.end_of.ensures.behind) in
    let after-is = with_items_is v image same ∙ c.fill_at.ensures.image
    ∙ ap (λ (x : List ℕ). written x from (padded len c.args.given.now)) c.deref_mut.ensures.value in
    content_written t v.items (with_items v image).items c.self.inside.used c.self.inside.count c.args.spot c.args.given.now from len
    c.self.invariant c.self.view_is c.requires len-is end after-is

pub invariant_of-self : goal.invariant_of-self
invariant_of-self c = (rewritten c).kept.holds

pub returns-clause-track : goal.returns-clause-track
returns-clause-track c = (rewritten c).kept.view

pub returns-clause-spot : goal.returns-clause-spot
returns-clause-spot c = (rewritten c).stands
