use Rattle.std.proofs.Common.{◌≡◌, ◌+◌, ◌++◌, [], List, ℕ, Bool, ◌&&◌, take, drop, sym, ap, subst, ◌∙◌, arith}
use Rattle.std.specs.List.{list_all}
use Rattle.tape_unit.specs.Item.{is_item}
use Rattle.aws_tape.specs.declared.layout.Part.{Part}
use Rattle.aws_tape.specs.Layout.{own_count}
use Rattle.aws_tape.specs.Writing.{item_image, items_image, last_len}
use Rattle.aws_tape.proofs.Written.{wrote-more, wrote-all, items_step, items_end, own-le}
use Rattle.aws_tape.proofs.ReadBack.{read_back}
use Rattle.aws_tape.proofs.Kept.{saved_as_loaded}
use Rattle.aws_tape.proofs.Untouched.{saved_untouched}
use Rattle.std.specs.Io.KnownBytes.{Appends}
use Rattle.aws_tape.proofs.writer.save.Goals as goal

pub split_at-requires : goal.split_at-requires
split_at-requires g c = omega (arith, c.own_count.ensures, own-le c.in-Some.place c.loop-place.parts.now)

pub loop-place-preserved : goal.loop-place-preserved
loop-place-preserved g c =
    let l = c.loop-place in
    let parts = l.parts.now in
    let at = l.place-iterator.count in
    let x = c.in-Some.item in
    let xs = c.next.new.self.iter in
    let own = c.split_at.result.0.now in
    let others = c.split_at.result.1.now in
    let next = c.next.new.self.count in
    let last = c.in_ok-previous.previous in
    let h = (c.in-Some.ensures {u = tt}).steps in
    let w = c.in_ok-previous.ensures {u = tt} in
    let count : c.own_count.result ≡ own_count at parts = c.own_count.ensures ∙ ap (λ (n : ℕ). own_count n parts) h.1 in
    let n = own_count at parts in
    let own-is : own ≡ take n parts = c.split_at.ensures.front ∙ ap (λ (k : ℕ). take k parts) count in
    let others-is : others ≡ drop n parts = c.split_at.ensures.back ∙ ap (λ (k : ℕ). drop k parts) count in
    let step : items_image parts at l.previous l.place-iterator.iter ≡ item_image l.previous own x ++ items_image others next last xs =
    ap (items_image parts at l.previous) h.0 ∙ items_step parts at l.previous x xs
    ∙ ap (λ (o : List Part). item_image l.previous o x ++ items_image (drop n parts) (at + 1) (last_len l.previous o x) xs) (sym own-is)
    ∙ ap (λ (o : List Part). item_image l.previous own x ++ items_image o (at + 1) (last_len l.previous own x) xs) (sym others-is)
    ∙ ap (λ (k : ℕ). item_image l.previous own x ++ items_image others k (last_len l.previous own x) xs) (sym h.2)
    ∙ ap (λ (k : ℕ). item_image l.previous own x ++ items_image others next k xs) (sym w.last) in
    record {
      wrote = wrote-more _ _ _ (item_image l.previous own x) (items_image others next last xs)
          (items_image parts at l.previous l.place-iterator.iter) _ l.invariant.wrote step w.image;
      fits = l.invariant.fits ∙ ap (list_all is_item) h.0 ∙ ap (λ (b : Bool). b && list_all is_item xs) w.item;
    }

pub returns-clause-image : goal.returns-clause-image
returns-clause-image g c =
    let l = c.loop-place in
    let none : l.place-iterator.iter ≡ [] = (c.in-None.ensures {u = tt}).steps.0.0 in
    wrote-all _ _ (items_image l.parts.now l.place-iterator.count l.previous l.place-iterator.iter) _ l.invariant.wrote
    (items_end l.parts.now l.place-iterator.count l.previous l.place-iterator.iter none)

pub returns-clause-as_loaded : goal.returns-clause-as_loaded
returns-clause-as_loaded g c image loaded same =
    subst (λ (bytes : List ℕ). Appends (g.W.Write.contents c.args.writer.now) (g.W.Write.contents c.loop-place.writer) bytes)
    (saved_as_loaded c.args.layout.now c.args.mounted.now.reel.items c.args.now.now.reel.items image loaded same)
    (returns-clause-image g c)

pub returns-clause-untouched : goal.returns-clause-untouched
returns-clause-untouched g c =
    let none : c.loop-place.place-iterator.iter ≡ [] = (c.in-None.ensures {u = tt}).steps.0.0 in
    saved_untouched c.args.layout.now c.args.mounted.now.reel.items c.args.now.now.reel.items
    (c.loop-place.invariant.fits ∙ ap (list_all is_item) none)

pub returns-clause-read_back : goal.returns-clause-read_back
returns-clause-read_back g c =
    let none : c.loop-place.place-iterator.iter ≡ [] = (c.in-None.ensures {u = tt}).steps.0.0 in
    read_back c.args.layout.now c.args.mounted.now.reel.items c.args.now.now.reel.items
    (c.loop-place.invariant.fits ∙ ap (list_all is_item) none)
