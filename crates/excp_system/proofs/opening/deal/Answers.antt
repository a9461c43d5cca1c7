use Rattle.std.proofs.Common.{◌≡◌, ◌<◌, [], ◌∷◌, ◌++◌, length, Some, rules, sym, ap, ◌∙◌, arith, append_assoc, length-append}
use Rattle.std.specs.Prelude.{slice_get}
use Rattle.std.specs.Vec.Iter.{into_iter_items}
use Rattle.std.proofs.lemmas.Grind.{common_steps}
use Rattle.fifo_row.specs.Ends.{Sending}
use Rattle.excp_system.proofs.Places.{get_at_seam}
use Rattle.excp_system.proofs.Deals.{dealt_end, dealt_next, end_is}
use Rattle.excp_system.proofs.opening.deal.Goals as goal

pub push-requires : goal.push-requires
push-requires g c =
    let l = c.loop-end in
    let i = l.invariant in
    let s = c.in-Some.end in
    let all : c.args.ends.items ≡ l.yielded ++ s ∷ into_iter_items c.next.new.self = first_of (search rules, grind (arith, common_steps)) in
    let there : slice_get c.args.ends.items l.number ≡ Some s = ap (slice_get c.args.ends.items) i.turn
    ∙ get_at_seam l.yielded (into_iter_items c.next.new.self) all in
    let lt : l.number < length l.fans.items =
    omega (arith, i.turn, i.dealt.count_is, ap length all, length-append l.yielded (s ∷ into_iter_items c.next.new.self)) in
    end_is (length c.args.ends.items) c.args.place l.number l.fans.items i.dealt c.index_mut.result.now lt c.index_mut.ensures.value
    g.F.Reach.reached s (c.requires.ends l.number s there)

pub loop-end-preserved : goal.loop-end-preserved
loop-end-preserved g c =
    let l = c.loop-end in
    let i = l.invariant in
    let s = c.in-Some.end in
    let all : c.args.ends.items ≡ l.yielded ++ s ∷ into_iter_items c.next.new.self = first_of (search rules, grind (arith, common_steps)) in
    let there : slice_get c.args.ends.items l.number ≡ Some s = ap (slice_get c.args.ends.items) i.turn
    ∙ get_at_seam l.yielded (into_iter_items c.next.new.self) all in
    let lt : l.number < length l.fans.items =
    omega (arith, i.turn, i.dealt.count_is, ap length all, length-append l.yielded (s ∷ into_iter_items c.next.new.self)) in
    let none : s.sent ≡ [] = ap (λ (x : Sending _). x.sent) (c.requires.ends l.number s there) in
    record {
      all = all ∙ sym (append_assoc l.yielded (s ∷ []) (into_iter_items c.next.new.self));
      turn = omega (arith, i.turn, length-append l.yielded (s ∷ []));
      dealt = dealt_next (length c.args.ends.items) c.args.place l.number l.fans.items i.dealt c.index_mut.result.now lt
          c.index_mut.ensures.value s.sent c.push.new.self none c.in_ok-push.ensures.pushed;
    }

pub returns : goal.returns
returns g c =
    let l = c.loop-end in
    let all : c.args.ends.items ≡ l.yielded = first_of (search rules, grind (arith, common_steps)) in
    dealt_end (length c.args.ends.items) c.args.place l.number l.fans.items l.invariant.dealt
    (omega (arith, l.invariant.turn, ap length all))
