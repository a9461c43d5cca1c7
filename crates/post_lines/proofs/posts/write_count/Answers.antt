use Rattle.std.proofs.Common.{◌≤◌, ◌-◌, OnErr, [], ◌∷◌, ◌++◌, List, ℕ, length, take, ap, ◌∙◌, arith, subst, codes}
use Rattle.std.specs.Fmt.{decimal}
use Rattle.std.proofs.lemmas.List.{length-append, take_all}
use Rattle.std.proofs.lemmas.Result.{on_err_weaker}
use Rattle.post_lines.specs.Writing.{AppendsPart}
use Rattle.post_lines.proofs.Putting.{if-failed, part-after, part-before}
use Rattle.post_lines.proofs.posts.write_count.Goals as goal

pub returns-in_err-write_text-clause-part : goal.returns-in_err-write_text-clause-part
returns-in_err-write_text-clause-part g c =
    if-failed c.from_residual.result
    (part-before _ _ (codes "end ") (decimal c.args.count ++ 10 ∷ []) (c.in_err-write_text.ensures {u = tt}).part)

pub returns-clause-part : goal.returns-clause-part
returns-clause-part g c =
    let old = g.W.Write.contents c.args.out.now in
    let middle = g.W.Write.contents c.write_text.new.out in
    let new = g.W.Write.contents c.write_text-2.new.out in
    let start = c.put_decimal-start.result in
    let text : List ℕ = decimal c.args.count ++ 10 ∷ [] in
    let fits : length text ≤ 21 - start = omega (arith, length-append (decimal c.args.count) (10 ∷ []), c.put_decimal-start.ensures.start) in
    let is = ap (take (21 - start)) c.put_decimal-start.ensures.written ∙ take_all (21 - start) text fits in
    on_err_weaker c.write_text-2.result
    (λ (last : AppendsPart middle new text). part-after old middle new (codes "end ") text (c.in_ok-write_text.ensures {u = tt}).whole last)
    (subst (λ (l : List ℕ). OnErr c.write_text-2.result (AppendsPart middle new l)) is c.write_text-2.ensures.part)
