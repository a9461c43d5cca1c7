use Rattle.std.proofs.Common.{◌≡◌, List, length, ap, ◌∙◌, rules, ℕ}
use Rattle.std.proofs.lemmas.List.{with_items_is}
use Rattle.std.specs.Vec.{with_items}
use Rattle.device_port.specs.Moves.{written}
use Rattle.ckd_disk.specs.Track.{TrackState}
use Rattle.ckd_disk.proofs.Tracks.{Kept}
use Rattle.ckd_disk.proofs.Refilled.{refilled}
use Rattle.ckd_disk.proofs.track.Track.copy_from.Goals as goal

keeps : (c : goal.After-self-3-1) → Kept c.args.from.now (with_items c.self.inside.bytes c.put_at.new.image).items c.from.inside.used
    c.from.inside.count
keeps c =
    let v = c.self.inside.bytes in
    let image = c.put_at.new.image in
    let same : length image ≡ v.len = search rules in
    let after-is = with_items_is v image same ∙ c.put_at.ensures ∙ ap (λ (l : List ℕ). written l 0 c.image.result.now) c.deref_mut.ensures.value
    ∙ ap (λ (l : List ℕ). written v.items 0 l) c.image.ensures.image in
    let size : length v.items ≡ c.args.from.now.size = ap (λ (t : TrackState). t.size) c.self.view_is ∙ c.requires in
    refilled c.args.from.now v.items (with_items v image).items c.from.inside.bytes.items c.from.inside.used c.from.inside.count
    c.from.invariant c.from.view_is size after-is

pub invariant_of-self : goal.invariant_of-self
invariant_of-self c = (keeps c).holds

pub returns : goal.returns
returns c = (keeps c).view
