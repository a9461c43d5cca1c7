use Rattle.std.proofs.Common.{◌≡◌, ◌-◌, ◌++◌, ℕ, List, length, take, replicate, ap, subst, sym, ◌∙◌, rules}
use Rattle.tape_unit.specs.Reel.{HoldsReel}
use Rattle.tape_unit.proofs.Recordings.{Wound, wound}
use Rattle.tape_unit.proofs.recording.Recording.wound.Goals as goal
use Rattle.tape_unit.proofs.recording.Recording.wound.Goals.{In-Ok-resize}

made : (c : In-Ok-resize) → Wound c.args.self c.resize.new.self.items (length c.self.inside.bytes.items) c.self.inside.count
made c =
    let i = c.self.inside in
    let room = (c.in-Ok.ensures {u = tt}) in
    let len : length i.bytes.items ≡ i.bytes.len = search rules in
    let zeros = λ (n : ℕ). replicate {A = ℕ} n 0 in
    let grown = (c.in-Ok-resize.ensures {u = tt}).items
    ∙ ap (λ (l : List ℕ). take i.size l ++ zeros (i.size - c.reserve_exact.new.self.len)) room.items
    ∙ ap (λ (n : ℕ). take i.size i.bytes.items ++ zeros (i.size - n)) (room.len ∙ sym len) in
    wound c.args.self i.bytes.items c.resize.new.self.items i.count i.size c.self.invariant c.self.view_is grown

pub of-requires : goal.of-requires
of-requires c =
    let used : length c.self.inside.bytes.items ≡ c.len-used.result = search rules in
    subst (λ (n : ℕ). HoldsReel c.resize.new.self.items n c.self.inside.count) used (made c).holds

pub returns : goal.returns
returns c =
    let i = c.self.inside in
    let room = (c.in-Ok.ensures {u = tt}) in
    let len : length i.bytes.items ≡ i.bytes.len = search rules in
    let zeros = λ (n : ℕ). replicate {A = ℕ} n 0 in
    let grown = (c.in-Ok-resize.ensures {u = tt}).items
    ∙ ap (λ (l : List ℕ). take i.size l ++ zeros (i.size - c.reserve_exact.new.self.len)) room.items
    ∙ ap (λ (n : ℕ). take i.size i.bytes.items ++ zeros (i.size - n)) (room.len ∙ sym len) in
    c.of.ensures
    ∙ (wound c.args.self i.bytes.items c.resize.new.self.items i.count i.size c.self.invariant c.self.view_is grown).view
