use Rattle.std.proofs.Common.{◌≡◌, ◌-◌, ℕ, List, ◌∷◌, [], length, take, drop, sym, ap, subst, ◌∙◌, arith, rules}
use Rattle.device_port.specs.Packed.{items_at, HoldsItems}
use Rattle.device_port.proofs.Items.{splits, item_at-packed}
use Rattle.ckd_disk.specs.Record.{Record, ckd, packed, record_at, size_at}
use Rattle.ckd_disk.proofs.Packing.{reads}
use Rattle.ckd_disk.proofs.Tracks.{packed-wide}
use Rattle.ckd_disk.proofs.track.records.RecordsIterator.next.Goals as goal

none : (count : ℕ) (bytes : List ℕ) → count ≡ 0 → items_at ckd count bytes ≡ []
unfolding items_at
none count bytes e = ap (λ (k : ℕ). items_at ckd k bytes) e

pub returns-then-self-eq0-clause-steps : goal.returns-then-self-eq0-clause-steps
returns-then-self-eq0-clause-steps c =
    let e = sym c.self.view_is ∙ none c.self.inside.left c.self.inside.rest.now c.if-self-eq0.true in
    (e, e)

pub size_of_first-size-requires : goal.size_of_first-size-requires
size_of_first-size-requires c =
    let t = splits ckd reads c.self.inside.rest.now c.self.inside.used c.self.inside.left c.self.invariant c.if-self-eq0.false in
    omega (arith, t.long, t.size, packed-wide (record_at c.self.inside.rest.now) t.begins.fits)

pub split_at-requires : goal.split_at-requires
split_at-requires c =
    let t = splits ckd reads c.self.inside.rest.now c.self.inside.used c.self.inside.left c.self.invariant c.if-self-eq0.false in
    omega (arith, t.long, c.size_of_first-size.ensures)

pub overflow_sub-self : goal.overflow_sub-self
overflow_sub-self c =
    let t = splits ckd reads c.self.inside.rest.now c.self.inside.used c.self.inside.left c.self.invariant c.if-self-eq0.false in
    omega (arith, t.within, c.size_of_first-size.ensures)

pub invariant_of-self : goal.invariant_of-self
invariant_of-self c =
    let t = splits ckd reads c.self.inside.rest.now c.self.inside.used c.self.inside.left c.self.invariant c.if-self-eq0.false in
    subst (λ (x : List ℕ). HoldsItems ckd x (c.self.inside.used - c.size_of_first-size.result) (c.self.inside.left - 1))
    (sym c.split_at.ensures.back)
    (subst (λ (k : ℕ). HoldsItems ckd (drop k c.self.inside.rest.now) (c.self.inside.used - k) (c.self.inside.left - 1))
    (sym c.size_of_first-size.ensures) t.rest)

pub returns-clause-steps : goal.returns-clause-steps
returns-clause-steps c =
    let bytes = c.self.inside.rest.now in
    let n = c.self.inside.left - 1 in
    let t = splits ckd reads bytes c.self.inside.used c.self.inside.left c.self.invariant c.if-self-eq0.false in
    let size = c.size_of_first-size.ensures in
    let front : c.split_at.result.0.now ≡ packed (record_at bytes) = c.split_at.ensures.front ∙ ap (λ (k : ℕ). take k bytes) size
    ∙ t.front in
    let first : record_at c.split_at.result.0.now ≡ record_at bytes = ap record_at front
    ∙ item_at-packed ckd reads (record_at bytes) t.begins.fits in
    let back = c.split_at.ensures.back ∙ ap (λ (k : ℕ). drop k bytes) size in
    sym c.self.view_is ∙ t.items ∙ ap (λ (r : Record). r ∷ items_at ckd n (drop (size_at bytes) bytes)) (sym first)
    ∙ ap (λ (x : List ℕ). record_at c.split_at.result.0.now ∷ items_at ckd n x) (sym back)

pub returns-clause-goes : goal.returns-clause-goes
returns-clause-goes c =
    let e = ap length (returns-clause-steps c) in
    search rules
