use Rattle.std.proofs.Common.{◌≡◌, ◌+◌, ◌≤◌, ℕ, List, [], ◌∷◌, ◌++◌, length, sym, ap, ◌∙◌, subst, arith, refl, length-append, drop}
use Rattle.std.proofs.lemmas.Option.{slice_get_within}
use Rattle.fifo_row.specs.Ends.{Taking}
use Rattle.excp_system.specs.Sites.{end_of}
use Rattle.excp_system.specs.Opening.{AreFans, AreTakers}
use Rattle.excp_system.proofs.Places.{drop_get, drop_next}
use Rattle.excp_system.proofs.Deals.{seat_count, seat_ends, takers_next}
use Rattle.excp_system.proofs.opening.seat_rows.Goals as goal

pub deal-requires-clause-fans : goal.deal-requires-clause-fans
deal-requires-clause-fans g c =
    let i = c.loop-row.invariant in
    let k = length c.loop-row.takers.items in
    let row = c.in-Some.row.now in
    let is = c.requires.rows k row (drop_get k c.args.rows.now.items c.next.new.self.s.now row (sym i.rest ∙ c.in-Some.ensures.steps)) in
    let count = seat_count g.F.Reach.reached c.args.senders k row is c.in_ok-ends.ends.items c.in_ok-ends.taker c.in_ok-ends.ensures in
    let at : k ≡ c.len-place.result = omega (arith, c.len-place.ensures, c.loop-row.takers.ok.0) in
    subst (λ (n : ℕ × ℕ). AreFans n.0 n.1 c.loop-row.fans.items) (λ j. (sym count j, at j)) i.fans

pub deal-requires-clause-ends : goal.deal-requires-clause-ends
deal-requires-clause-ends g c =
    let i = c.loop-row.invariant in
    let r = g.F.Reach.reached in
    let k = length c.loop-row.takers.items in
    let row = c.in-Some.row.now in
    let is = c.requires.rows k row (drop_get k c.args.rows.now.items c.next.new.self.s.now row (sym i.rest ∙ c.in-Some.ensures.steps)) in
    let at : k ≡ c.len-place.result = omega (arith, c.len-place.ensures, c.loop-row.takers.ok.0) in
    λ t s e. seat_ends r c.args.senders k row is c.in_ok-ends.ends.items c.in_ok-ends.taker c.in_ok-ends.ensures t s e
    ∙ ap (λ j. end_of r t j []) at

pub loop-row-preserved : goal.loop-row-preserved
loop-row-preserved g c =
    let i = c.loop-row.invariant in
    let r = g.F.Reach.reached in
    let old = c.loop-row.takers.items in
    let k = length old in
    let came = sym i.rest ∙ c.in-Some.ensures.steps in
    let row = c.in-Some.row.now in
    let there = drop_get k c.args.rows.now.items c.next.new.self.s.now row came in
    let is = c.requires.rows k row there in
    let ends = c.in_ok-ends.ends.items in
    let taker = c.in_ok-ends.taker in
    let seats = c.in_ok-ends.ensures in
    let count = seat_count r c.args.senders k row is ends taker seats in
    let at : c.len-place.result + 1 ≡ length (old ++ taker ∷ []) =
    omega (arith, c.len-place.ensures, c.loop-row.takers.ok.0, length-append old (taker ∷ [])) in
    let more : c.push.new.self.items ≡ old ++ taker ∷ [] = c.in_ok-push.ensures.items in
    let one : length (old ++ taker ∷ []) ≡ k + 1 = length-append old (taker ∷ []) in
    subst (λ (l : List (Taking _)). record {
      rest : c.next.new.self.s.now ≡ drop (length l) c.args.rows.now.items;
      within : length l ≤ length c.args.rows.now.items;
      fans : AreFans c.args.senders (length l) c.deal.new.fans.items;
      takers : AreTakers r c.args.senders (length l) l;
    }) (sym more) (record {
      rest = drop_next k c.args.rows.now.items c.next.new.self.s.now row came ∙ ap (λ n. drop n c.args.rows.now.items) (sym one);
      within = omega (arith, one, slice_get_within c.args.rows.now.items k row there);
      fans = subst (λ (n : ℕ × ℕ). AreFans n.0 n.1 c.deal.new.fans.items) (λ j. (count j, at j)) c.in_ok-deal.ensures;
      takers = takers_next r c.args.senders k row is ends taker seats old refl i.takers;
    })
