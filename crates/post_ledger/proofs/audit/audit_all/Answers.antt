use Rattle.std.proofs.Common.{◌≡◌, ⊎_elim, ℕ, List, [], ◌∷◌, ◌++◌, length, rules, sym, ap, ◌∙◌, subst, arith, append_assoc, length-append}
use Rattle.std.specs.Prelude.{slice_get}
use Rattle.std.specs.Vec.Iter.{into_iter_items}
use Rattle.std.proofs.lemmas.Grind.{common_steps}
use Rattle.excp_system.specs.Controls.{LogState, PensState}
use Rattle.excp_system.proofs.Places.{get_snoc}
use Rattle.post_ledger.specs.Audit.{IsAudited}
use Rattle.post_ledger.proofs.audit.audit_all.Goals as goal

pub audit_unit-requires-clause-hands : goal.audit_unit-requires-clause-hands
audit_unit-requires-clause-hands g c =
    let i = c.loop-log.invariant in
    let rest = into_iter_items c.next.new.self in
    let all : c.args.logs.items ≡ c.loop-log.yielded ++ c.in-Some.log ∷ rest = first_of (search rules, grind (arith, common_steps)) in
    λ t p e.
    let known = c.requires.hands t p (ap (λ l. slice_get l t) (sym i.hands) ∙ e) in
    (known.0, omega (arith, known.1, i.turn, ap length all, length-append c.loop-log.yielded (c.in-Some.log ∷ rest)))

pub loop-log-preserved : goal.loop-log-preserved
loop-log-preserved g c =
    let i = c.loop-log.invariant in
    let log = c.in-Some.log in
    let yielded = c.loop-log.yielded in
    let rest = into_iter_items c.next.new.self in
    let alone = g.S.Site.own_calls in
    let tasks = g.S.Site.rows.tasks in
    let hands = c.args.hands.now.items in
    let all : c.args.logs.items ≡ yielded ++ log ∷ rest = first_of (search rules, grind (arith, common_steps)) in
    let here : IsAudited alone tasks (length yielded) log hands =
    subst (λ (q : ℕ × List PensState). IsAudited alone tasks q.0 log q.1) (λ j. (i.turn j, i.hands j)) c.audit_unit.ensures.audited in
    record {
      all = all ∙ sym (append_assoc yielded (log ∷ []) rest);
      turn = omega (arith, i.turn, length-append yielded (log ∷ []));
      hands = c.audit_unit.ensures.hands ∙ i.hands;
      audited = λ unit l e. ⊎_elim (λ old. i.audited unit l old)
          (λ (t : (unit ≡ length yielded) × (log ≡ l)). subst (λ (q : ℕ × LogState). IsAudited alone tasks q.0 q.1 hands)
          (λ j. (sym t.0 j, t.1 j)) here)
          (get_snoc yielded log l unit e);
    }
