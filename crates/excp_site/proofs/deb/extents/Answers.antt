use Rattle.std.proofs.Common.{◌≡◌, ◌+◌, ◌-◌, ◌*◌, ◌∷◌, ◌++◌, ◌∙◌, [], ap, arith, drop, map, sym, take}
use Rattle.std.specs.List.{range_with_len}
use Rattle.io_images.specs.declared.extent.Extent.{Extent}
use Rattle.io_images.specs.Images.{extent_of}
use Rattle.excp_site.specs.Extents.{extent_at}
use Rattle.excp_site.proofs.Ranges.{range-push}
use Rattle.excp_site.proofs.deb.extents.Goals as goal

pub loop-place-preserved : goal.loop-place-preserved
loop-place-preserved c =
    let place = c.loop-place.place in
    let long : 16 * (place + 1) - 16 * place ≡ 16 = omega arith in
    let same : place ≡ 0 + place = omega arith in
    let one : c.read.result ≡ extent_at c.args.bytes.now (0 + place) =
    c.read.ensures ∙ ap extent_of c.copy_from_slice.ensures.after ∙ ap (λ n. extent_of (take n (drop (16 * place) c.args.bytes.now))) long ∙ ap (extent_at c.args.bytes.now) same in
    c.in_ok-push.ensures.items ∙ ap (λ xs. xs ++ c.read.result ∷ []) c.loop-place.invariant
    ∙ ap (λ (x : Extent). map (extent_at c.args.bytes.now) (range_with_len 0 place) ++ x ∷ []) one ∙ sym (range-push (extent_at c.args.bytes.now) 0 place)
