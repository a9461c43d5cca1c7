use Rattle.std.proofs.Common.{◌≡◌, ◌<◌, ◌%◌, [], ◌∷◌, ◌++◌, length, Some, rules, ap, sym, ◌∙◌, subst, set, arith, append_assoc}
use Rattle.std.specs.Prelude.{slice_get}
use Rattle.std.specs.Vec.Iter.{into_iter_items}
use Rattle.std.proofs.lemmas.Grind.{common_steps}
use Rattle.std.proofs.lemmas.Option.{slice_get-get_or}
use Rattle.std.proofs.Math.Nat.{mod-lt}
use Rattle.system_threads.specs.Shares.{AreShared}
use Rattle.system_threads.proofs.Sharing.{dealt}
use Rattle.system_threads.proofs.crew.handlers_of.Goals as goal

pub loop-taker-preserved : goal.loop-taker-preserved
loop-taker-preserved g c =
    let taker = c.in-Some.taker in
    let yielded = c.loop-taker.yielded in
    let handlers = c.loop-taker.handlers.items in
    let old = c.index_mut.result.now in
    let all : c.args.takers.items ≡ yielded ++ taker ∷ into_iter_items c.next.new.self =
    first_of (search rules, grind (arith, common_steps)) in
    let place : c.from.result ≡ taker.isc = c.from.ensures ∙ c.isc.ensures.is in
    let handlers_count : length handlers ≡ c.args.count = c.loop-taker.invariant.shared.count_is in
    let within : c.from.result % c.args.count < length handlers =
    subst (λ n. c.from.result % c.args.count < n) (sym handlers_count) (mod-lt c.from.result c.requires) in
    let there : slice_get handlers (taker.isc % c.args.count) ≡ Some old =
    ap (λ n. slice_get handlers (n % c.args.count)) (sym place) ∙ slice_get-get_or handlers (c.from.result % c.args.count) old within
    ∙ ap Some (sym c.index_mut.ensures.value) in
    record {
      all = all ∙ sym (append_assoc yielded (taker ∷ []) (into_iter_items c.next.new.self));
      shared = subst (λ n. AreShared (λ handler. handler.items) (λ t. t.isc) c.args.count (yielded ++ taker ∷ [])
          (set handlers (n % c.args.count) c.push-in-loop-taker.new.self)) (sym place)
          (dealt (λ t. t.isc) c.args.count (λ handler. handler.items) yielded handlers taker old c.push-in-loop-taker.new.self
          c.loop-taker.invariant.shared there c.in_ok-push-2.ensures.items);
    }
