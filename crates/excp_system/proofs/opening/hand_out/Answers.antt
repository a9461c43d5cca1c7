use Rattle.std.proofs.Common.{◌≡◌, ◌<◌, [], ◌∷◌, ◌++◌, length, Some, rules, sym, ap, ◌∙◌, arith, append_assoc, length-append}
use Rattle.std.specs.Prelude.{slice_get}
use Rattle.std.specs.Vec.Iter.{into_iter_items}
use Rattle.std.proofs.lemmas.Grind.{common_steps}
use Rattle.signed_list.specs.Signed.{Signing}
use Rattle.excp_system.proofs.Hands.{handed_end, handed_next, pen_fits}
use Rattle.excp_system.proofs.Places.{get_at_seam}
use Rattle.excp_system.proofs.opening.hand_out.Goals as goal

pub push-requires : goal.push-requires
push-requires g c =
    let l = c.loop-pen in
    let i = l.invariant in
    let p = c.in-Some.pen in
    let all : c.args.pens.items ≡ l.yielded ++ p ∷ into_iter_items c.next.new.self = first_of (search rules, grind (arith, common_steps)) in
    let there : slice_get c.args.pens.items l.number ≡ Some p = ap (slice_get c.args.pens.items) i.turn
    ∙ get_at_seam l.yielded (into_iter_items c.next.new.self) all in
    let lt : l.number < length l.hands.items =
    omega (arith, i.turn, i.handed.count_is, ap length all, length-append l.yielded (p ∷ into_iter_items c.next.new.self)) in
    pen_fits (length c.args.pens.items) c.args.place l.number l.hands.items i.handed c.index_mut.result.now lt c.index_mut.ensures.value
    g.S.Site.rows p (c.requires.pens l.number p there)

pub loop-pen-preserved : goal.loop-pen-preserved
loop-pen-preserved g c =
    let l = c.loop-pen in
    let i = l.invariant in
    let p = c.in-Some.pen in
    let all : c.args.pens.items ≡ l.yielded ++ p ∷ into_iter_items c.next.new.self = first_of (search rules, grind (arith, common_steps)) in
    let there : slice_get c.args.pens.items l.number ≡ Some p = ap (slice_get c.args.pens.items) i.turn
    ∙ get_at_seam l.yielded (into_iter_items c.next.new.self) all in
    let lt : l.number < length l.hands.items =
    omega (arith, i.turn, i.handed.count_is, ap length all, length-append l.yielded (p ∷ into_iter_items c.next.new.self)) in
    let none : p.signed ≡ [] = ap (λ (x : Signing _). x.signed) (c.requires.pens l.number p there) in
    record {
      all = all ∙ sym (append_assoc l.yielded (p ∷ []) (into_iter_items c.next.new.self));
      turn = omega (arith, i.turn, length-append l.yielded (p ∷ []));
      handed = handed_next (length c.args.pens.items) c.args.place l.number l.hands.items i.handed c.index_mut.result.now lt
          c.index_mut.ensures.value p.signed c.push.new.self none c.in_ok-push.ensures.pushed;
    }

pub returns : goal.returns
returns g c =
    let l = c.loop-pen in
    let all : c.args.pens.items ≡ l.yielded = first_of (search rules, grind (arith, common_steps)) in
    handed_end (length c.args.pens.items) c.args.place l.number l.hands.items l.invariant.handed
    (omega (arith, l.invariant.turn, ap length all))
