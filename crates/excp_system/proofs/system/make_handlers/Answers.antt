use Rattle.std.proofs.Common.{◌≡◌, ℕ, ◌+◌, List, [], ◌∷◌, ◌++◌, length, Some, rules, sym, ap, ◌∙◌, subst, arith, length-append}
use Rattle.std.proofs.Common.{append_assoc}
use Rattle.std.specs.Prelude.{slice_get}
use Rattle.std.specs.Vec.Iter.{into_iter_items}
use Rattle.std.proofs.lemmas.Grind.{common_steps}
use Rattle.std.proofs.lemmas.Option.{slice_get_within}
use Rattle.fifo_row.specs.Ends.{Taking}
use Rattle.excp_system.specs.States.{HandlerState}
use Rattle.excp_system.proofs.Places.{get_at_seam, get_seam}
use Rattle.excp_system.proofs.Makes.{handlers_next, is_handler}
use Rattle.excp_system.proofs.system.make_handlers.Goals as goal

pub new-requires : goal.new-requires
new-requires g c =
    let i = c.loop-taker.invariant in
    let end = c.in-Some.taker in
    let k = length c.loop-taker.yielded in
    let rest = into_iter_items c.next.new.self in
    let all : c.args.handled.items ≡ c.loop-taker.yielded ++ end ∷ rest = first_of (search rules, grind (arith, common_steps)) in
    let there = get_at_seam c.loop-taker.yielded rest all in
    is_handler g.S.Site.rows k c.loop-taker.isc end i.turn
    (omega (arith, slice_get_within c.args.handled.items k end there, c.requires.count_is)) (c.requires.each k end there)

pub loop-taker-preserved : goal.loop-taker-preserved
loop-taker-preserved g c =
    let i = c.loop-taker.invariant in
    let end = c.in-Some.taker in
    let yielded = c.loop-taker.yielded in
    let old = c.loop-taker.handlers.items in
    let all : c.args.handled.items ≡ yielded ++ end ∷ into_iter_items c.next.new.self =
    first_of (search rules, grind (arith, common_steps)) in
    let there : slice_get c.args.handled.items (length yielded) ≡ Some end = ap (λ l. slice_get l (length yielded)) all
    ∙ get_seam yielded (into_iter_items c.next.new.self) end in
    let one : length (yielded ++ end ∷ []) ≡ length yielded + 1 = length-append yielded (end ∷ []) in
    let none : end.taken ≡ [] = ap (λ (e : Taking _). e.taken) (c.requires.each (length yielded) end there) in
    let is : c.new.result ≡ record { isc = length yielded; taken = [] } = c.new.ensures
    ∙ (λ j. record { isc = i.turn j; taken = none j }) in
    record {
      all = all ∙ sym (append_assoc yielded (end ∷ []) (into_iter_items c.next.new.self));
      here = ap length c.in_ok-push.ensures.items ∙ omega (arith, i.here, one, length-append old (c.new.result ∷ []));
      turn = omega (arith, i.turn, one);
      each = subst (λ (l : List HandlerState). (isc : ℕ) (h : HandlerState) → slice_get l isc ≡ Some h →
          h ≡ record { isc = isc; taken = [] }) (sym c.in_ok-push.ensures.items)
          (handlers_next (length yielded) old c.new.result i.here i.each is);
    }
