use Rattle.std.proofs.Common.{◌≡◌, ◌-◌, ◌++◌, ℕ, List, length, take, replicate, sym, ap, ◌∙◌, rules}
use Rattle.ckd_disk.specs.Record.{ckd}
use Rattle.device_port.specs.Packed.{items_at}
use Rattle.ckd_disk.proofs.Tracks.{Kept}
use Rattle.ckd_disk.proofs.Volumes.{recorded_kept}
use Rattle.ckd_disk.proofs.track.Track.recorded.Goals as goal

keeps : (c : goal.In_ok-resize) → Kept (record { size = c.args.size; records = items_at ckd c.args.count c.args.records.now })
    c.resize.new.self.items (length c.args.records.now) c.args.count
keeps c =
    let records = c.args.records.now in
    let size = c.args.size in
    let copy = c.extend_from_slice.new.self in
    let zeros = λ (n : ℕ). replicate {A = ℕ} n 0 in
    let copied : copy.items ≡ records = (c.in_ok-extend_from_slice.ensures {u = tt}).items
    ∙ ap (λ (l : List ℕ). l ++ records) ((c.in_ok-bytes.ensures {u = tt}).items) in
    let same : length copy.items ≡ copy.len = search rules in
    let len : copy.len ≡ length records = sym same ∙ ap length copied in
    let grown = (c.in_ok-resize.ensures {u = tt}).items
    ∙ ap (λ (n : ℕ). take size copy.items ++ zeros (size - n)) len
    ∙ ap (λ (l : List ℕ). take size l ++ zeros (size - length records)) copied in
    recorded_kept records c.resize.new.self.items size c.args.count c.requires.held c.requires.room grown

pub invariant_of-result : goal.invariant_of-result
invariant_of-result c = (keeps c).holds

pub returns : goal.returns
returns c = (keeps c).view
