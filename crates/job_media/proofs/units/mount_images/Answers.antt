use Rattle.std.proofs.Common.{◌≡◌, ◌⊎◌, length, inl, inr, arith, rules}
use Rattle.std.specs.Iterator.Adapters.{zip_first, zip_second}
use Rattle.std.specs.Slice.Iter.{iter_rest}
use Rattle.std.specs.Vec.Iter.{into_iter_items}
use Rattle.job_media.proofs.InTurn.{all_mounted, none_so_far, one_more, refused_next}
use Rattle.job_media.proofs.units.mount_images.Goals as goal

pub loop-unit-init : goal.loop-unit-init
loop-unit-init c =
    let it = c.into_iter-unit-iterator.result in
    let first : iter_rest (zip_first it) ≡ c.args.units.now = search rules in
    let second : into_iter_items (zip_second it) ≡ c.args.images.items = search rules in
    none_so_far _ _ _ _ _ first second c.new.ensures.items c.new-2.ensures.items

pub loop-unit-preserved : goal.loop-unit-preserved
loop-unit-preserved c =
    let steps = c.in-Some.ensures.steps in
    one_more _ _ _ _ _ c.in-Some.unit.now c.in-Some.image c.in-Ok.mounted _ _ c.loop-unit.invariant steps.0 steps.1.0
    c.in-Ok.ensures (c.in_ok-push.ensures {u = tt}).devices (c.in_ok-push.ensures {u = tt}).kept

pub returns-in-Err : goal.returns-in-Err
returns-in-Err c =
    let steps = c.in-Some.ensures.steps in
    refused_next _ _ _ _ _ c.in-Some.unit.now c.in-Some.image _ c.in-Err.error c.loop-unit.invariant steps.0 steps.1.0 c.in-Err.ensures

pub returns : goal.returns
returns c =
    let it = c.loop-unit.unit-iterator in
    let ended : (length (iter_rest (zip_first it)) ≡ 0) ⊎ (length (into_iter_items (zip_second it)) ≡ 0) =
    elim c.in-None.ensures.steps [ inl e ↦ inl e.1.0 | inr e ↦ inr (omega (arith, e.1.0, it.b.rest.ok)) ] in
    all_mounted _ _ _ c.loop-unit.mounted c.loop-unit.invariant ended
