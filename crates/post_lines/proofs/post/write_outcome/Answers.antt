use Rattle.std.proofs.Common.{List, ℕ, ap, subst, ◌∙◌}
use Rattle.std.proofs.KnownBytes.{Appends-trans}
use Rattle.std.proofs.lemmas.Result.{on_err_weaker, on_ok_weaker}
use Rattle.std.specs.Io.KnownBytes.{Appends}
use Rattle.post_lines.specs.Digits.{shown_text}
use Rattle.post_lines.specs.Writing.{AppendsPart}
use Rattle.post_lines.proofs.Putting.{if-failed, part-after, part-before}
use Rattle.post_lines.specs.Slots.{posted_end}
use Rattle.post_lines.specs.Lines.{end_text}
use Rattle.post_lines.proofs.post.write_outcome.Goals as goal

pub returns-in_err-write_text-clause-part : goal.returns-in_err-write_text-clause-part
returns-in_err-write_text-clause-part g c =
    let first = g.W.Write.contents c.args.out.now in
    let second = g.W.Write.contents c.write_text.new.out in
    if-failed c.from_residual.result
    (part-before first second (end_text (posted_end c.args.posted.now)) (shown_text c.args.shown.now)
    (subst (λ (l : List ℕ). AppendsPart first second l) (c.put_end.ensures ∙ ap end_text c.of.ensures)
    (c.in_err-write_text.ensures {u = tt}).part))

pub returns : goal.returns
returns g c =
    let first = g.W.Write.contents c.args.out.now in
    let second = g.W.Write.contents c.write_text.new.out in
    let new = g.W.Write.contents c.write_bytes.new.out in
    let end : Appends first second (end_text (posted_end c.args.posted.now)) =
    subst (λ (l : List ℕ). Appends first second l) (c.put_end.ensures ∙ ap end_text c.of.ensures) (c.in_ok-write_text.ensures {u = tt}).whole in
    record {
      whole = on_ok_weaker c.write_bytes.result
          (λ (last : Appends second new (shown_text c.args.shown.now)). Appends-trans _ _ _ _ _ end last) c.write_bytes.ensures.whole;
      part = on_err_weaker c.write_bytes.result
          (λ (last : AppendsPart second new (shown_text c.args.shown.now)). part-after _ _ _ _ _ end last) c.write_bytes.ensures.part;
    }
