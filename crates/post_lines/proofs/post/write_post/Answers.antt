use Rattle.std.proofs.KnownBytes.{Appends-trans}
use Rattle.std.proofs.lemmas.Result.{on_err_weaker, on_ok_weaker}
use Rattle.std.specs.Io.KnownBytes.{Appends}
use Rattle.post_lines.specs.Digits.{shown_text}
use Rattle.post_lines.specs.Writing.{AppendsPart}
use Rattle.post_lines.proofs.Putting.{if-failed, part-after, part-before}
use Rattle.post_lines.specs.Lines.{head_text}
use Rattle.post_lines.proofs.post.write_post.Goals as goal

pub returns-in_err-write_head-clause-part : goal.returns-in_err-write_head-clause-part
returns-in_err-write_head-clause-part g c =
    if-failed c.from_residual.result
    (part-before _ _ (head_text c.args.task c.args.unit c.args.number c.args.end.now) (shown_text c.args.shown.now)
    (c.in_err-write_head.ensures {u = tt}).part)

pub returns : goal.returns
returns g c =
    let middle = g.W.Write.contents c.write_head.new.out in
    let new = g.W.Write.contents c.write_bytes.new.out in
    let head = (c.in_ok-write_head.ensures {u = tt}).whole in
    record {
      whole = on_ok_weaker c.write_bytes.result
          (λ (last : Appends middle new (shown_text c.args.shown.now)). Appends-trans _ _ _ _ _ head last) c.write_bytes.ensures.whole;
      part = on_err_weaker c.write_bytes.result
          (λ (last : AppendsPart middle new (shown_text c.args.shown.now)). part-after _ _ _ _ _ head last) c.write_bytes.ensures.part;
    }
