use Rattle.std.proofs.Common.{◌≡◌, ◌+◌, ◌≤◌, ℕ, List, [], ◌∷◌, ◌++◌, length, sym, ap, ◌∙◌, subst, arith, refl, length-append, drop}
use Rattle.std.proofs.lemmas.Option.{slice_get_within}
use Rattle.excp_system.specs.Controls.{LogState, pen_of}
use Rattle.excp_system.specs.Opening.{AreHands, AreLogs}
use Rattle.excp_system.proofs.Places.{drop_get, drop_next}
use Rattle.excp_system.proofs.Hands.{is_log, logs_next, pen_count, pens_fit}
use Rattle.excp_system.proofs.opening.seat_registers.Goals as goal

pub hand_out-requires-clause-pens : goal.hand_out-requires-clause-pens
hand_out-requires-clause-pens g c =
    let i = c.loop-register.invariant in
    let s = g.S.Site.rows in
    let k = length c.loop-register.logs.items in
    let r = c.in-Some.register.now in
    let is = c.requires.registers k r (drop_get k c.args.registers.now.items c.next.new.self.s.now r (sym i.rest ∙ c.in-Some.ensures.steps)) in
    let at : k ≡ c.len-place.result = omega (arith, c.len-place.ensures, c.loop-register.logs.ok.0) in
    λ t p e. pens_fit s c.args.tasks k r is.0 is.1 c.in_ok-pens.pens.items c.pop.new.self.items c.in_ok-pens.list c.in_ok-pens.ensures
    c.in-Some-pop.own c.in-Some-pop.ensures.items t p e
    ∙ ap (λ j. pen_of s t j []) at

pub new-requires : goal.new-requires
new-requires g c =
    let i = c.loop-register.invariant in
    let s = g.S.Site.rows in
    let k = length c.loop-register.logs.items in
    let r = c.in-Some.register.now in
    let is = c.requires.registers k r (drop_get k c.args.registers.now.items c.next.new.self.s.now r (sym i.rest ∙ c.in-Some.ensures.steps)) in
    is_log s c.args.tasks k r is.0 is.1 c.in_ok-pens.pens.items c.pop.new.self.items c.in_ok-pens.list c.in_ok-pens.ensures
    c.in-Some-pop.own c.in-Some-pop.ensures.items g.S.Site.own_calls c.requires.tasks

pub loop-register-preserved : goal.loop-register-preserved
loop-register-preserved g c =
    let i = c.loop-register.invariant in
    let s = g.S.Site.rows in
    let old = c.loop-register.logs.items in
    let k = length old in
    let came = sym i.rest ∙ c.in-Some.ensures.steps in
    let r = c.in-Some.register.now in
    let there = drop_get k c.args.registers.now.items c.next.new.self.s.now r came in
    let is = c.requires.registers k r there in
    let pens = c.pop.new.self.items in
    let own = c.in-Some-pop.own in
    let list = c.in_ok-pens.list in
    let last = c.in-Some-pop.ensures.items in
    let log = c.new.result in
    let count = pen_count s c.args.tasks k r is.0 is.1 c.in_ok-pens.pens.items pens list c.in_ok-pens.ensures own last in
    let at : c.len-place.result + 1 ≡ length (old ++ log ∷ []) =
    omega (arith, c.len-place.ensures, c.loop-register.logs.ok.0, length-append old (log ∷ [])) in
    let more : c.push.new.self.items ≡ old ++ log ∷ [] = c.in_ok-push.ensures.items in
    let one : length (old ++ log ∷ []) ≡ k + 1 = length-append old (log ∷ []) in
    subst (λ (l : List LogState). record {
      rest : c.next.new.self.s.now ≡ drop (length l) c.args.registers.now.items;
      within : length l ≤ length c.args.registers.now.items;
      hands : AreHands c.args.tasks (length l) c.hand_out.new.hands.items;
      logs : AreLogs s (length l) l;
    }) (sym more) (record {
      rest = drop_next k c.args.registers.now.items c.next.new.self.s.now r came ∙ ap (λ n. drop n c.args.registers.now.items) (sym one);
      within = omega (arith, one, slice_get_within c.args.registers.now.items k r there);
      hands = subst (λ (n : ℕ × ℕ). AreHands n.0 n.1 c.hand_out.new.hands.items) (λ j. (count j, at j)) c.in_ok-hand_out.ensures;
      logs = logs_next s c.args.tasks k r is.0 is.1 c.in_ok-pens.pens.items pens list c.in_ok-pens.ensures own last old log refl i.logs
          c.new.ensures;
    })
