use Rattle.std.proofs.Common.{◌≡◌, List, ℕ, [], ◌∷◌, Some, refl, subst, sym, ◌∙◌}
use Rattle.std.proofs.KnownBytes.{Appends-trans}
use Rattle.std.proofs.lemmas.Result.{on_err_weaker, on_ok_weaker}
use Rattle.std.specs.Io.KnownBytes.{Appends}
use Rattle.post_lines.specs.Writing.{AppendsPart}
use Rattle.post_lines.proofs.Putting.{if-failed, part-after, part-before}
use Rattle.post_lines.specs.Slots.{SlotState, slot_of}
use Rattle.post_lines.specs.declared.end.End.{End}
use Rattle.post_lines.specs.Lines.{post_line, post_text, slot_line}
use Rattle.post_lines.proofs.posts.write_slot.Goals as goal

-- the line of a slot whose request was posted
posted_line : (task unit number : ℕ) (slot : SlotState) (end : End) (shown : List ℕ) → slot.end ≡ Some end → shown ≡ slot.shown →
    post_line task unit number end shown ≡ slot_line task unit number slot
posted_line task unit number slot end shown is same =
    rw (is, same) refl

pub returns-in_err-write_post-clause-part : goal.returns-in_err-write_post-clause-part
returns-in_err-write_post-clause-part g c =
    let old = g.W.Write.contents c.args.out.now in
    let new = g.W.Write.contents c.write_post.new.out in
    if-failed c.from_residual.result
    (subst (λ (l : List ℕ). AppendsPart old new l)
    (posted_line c.args.task c.args.unit c.args.number (slot_of c.args.slot.now) c.in-Some.end c.shown.result.now
    (sym c.end.ensures ∙ c.in-Some.is) c.shown.ensures)
    (part-before old new (post_text c.args.task c.args.unit c.args.number c.in-Some.end c.shown.result.now) (10 ∷ [])
    (c.in_err-write_post.ensures {u = tt}).part))

pub returns : goal.returns
returns g c =
    let old = g.W.Write.contents c.args.out.now in
    let middle = g.W.Write.contents c.write_post.new.out in
    let new = g.W.Write.contents c.write_text.new.out in
    let is =
    posted_line c.args.task c.args.unit c.args.number (slot_of c.args.slot.now) c.in-Some.end c.shown.result.now
    (sym c.end.ensures ∙ c.in-Some.is) c.shown.ensures in
    let text = post_text c.args.task c.args.unit c.args.number c.in-Some.end c.shown.result.now in
    let line = (c.in_ok-write_post.ensures {u = tt}).whole in
    record {
      whole = on_ok_weaker c.write_text.result
          (λ (end : Appends middle new (10 ∷ [])).
          subst (λ (l : List ℕ). Appends old new l) is (Appends-trans old middle new text (10 ∷ []) line end)) c.write_text.ensures.whole;
      part = on_err_weaker c.write_text.result
          (λ (end : AppendsPart middle new (10 ∷ [])).
          subst (λ (l : List ℕ). AppendsPart old new l) is (part-after old middle new text (10 ∷ []) line end)) c.write_text.ensures.part;
    }
