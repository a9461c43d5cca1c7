use Rattle.std.proofs.Common.{◌≡◌, ◌∙◌, ap, arith, length, length-append, [], ◌∷◌, ◌++◌, subst, sym}
use Rattle.std.specs.List.{All}
use Rattle.std.proofs.lemmas.List.{length-replicate}
use Rattle.std.proofs.lemmas.List.Elements.{All-push}
use Rattle.post_ledger.specs.Work.{list_of, lists_of}
use Rattle.post_ledger.proofs.Works.{lists_more}
use Rattle.post_ledger.proofs.posts.make_lists.Goals as goal

pub loop-preserved : goal.loop-preserved
loop-preserved c =
    let posts = c.loop.posts.items in
    let x = c.in_ok-new.field-0 in
    let i = c.loop.invariant in
    let pushed : c.push.new.self.items ≡ posts ++ x ∷ [] = c.in_ok-push.ensures.items in
    record {
      count = omega (arith, ap length pushed, length-append posts (x ∷ []), i.count);
      few = omega (arith, c.loop-test.true);
      lists = subst (All (λ lists. length lists ≡ c.args.units)) (sym pushed)
          (All-push (λ lists. length lists ≡ c.args.units) posts x i.lists
          (ap length c.in_ok-new.ensures ∙ length-replicate c.args.units []));
      values = λ t u. ap (λ l. list_of (lists_of l t) u) pushed ∙ lists_more posts x c.args.units c.in_ok-new.ensures t u ∙ i.values t u;
    }
