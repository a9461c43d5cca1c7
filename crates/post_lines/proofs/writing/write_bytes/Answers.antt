use Rattle.std.proofs.Common.{◌≡◌, ◌++◌, List, ℕ, [], length, refl, sym, ap, subst, ◌∙◌, arith}
use Rattle.std.proofs.lemmas.List.{nil_from_length}
use Rattle.std.proofs.lemmas.Bool.Decides.{nat_tests}
use Rattle.std.specs.Prelude.{OnErr, OnOk, ◌==◌, true, false, codes}
use Rattle.std.proofs.Common.{◌∷◌}
use Rattle.std.specs.Io.KnownBytes.{Appends}
use Rattle.std.specs.Slice.Iter.{chunks_rest, chunks_size}
use Rattle.post_lines.specs.Digits.{in_digits, shown_text}
use Rattle.post_lines.proofs.Putting.{wrote-nothing, wrote-more, wrote-all, if-failed, part-more, in_digits-append, in_digits-nil}
use Rattle.post_lines.specs.Writing.{AppendsPart, Wrote}
use Rattle.post_lines.proofs.writing.write_bytes.Goals as goal

pub loop-part-init : goal.loop-part-init
loop-part-init g c =
    let same = c.into_iter-part-iterator.ensures.into_iter_gives in
    let rest : chunks_rest c.into_iter-part-iterator.result ≡ c.args.bytes.now = ap chunks_rest same ∙ c.chunks-part-items.ensures.rest in
    record {
      size = ap chunks_size same ∙ c.chunks-part-items.ensures.size;
      wrote = subst (λ (l : List ℕ). Wrote (g.W.Write.contents c.args.out.now) (g.W.Write.contents c.args.out.now) (in_digits l)
          (in_digits c.args.bytes.now)) (sym rest) (wrote-nothing _ _);
    }

pub loop-part-preserved : goal.loop-part-preserved
loop-part-preserved g c =
    let h = c.in-Some.ensures.steps in
    let part = c.in-Some.part.now in
    let rest = chunks_rest c.next.new.self in
    let before = in_digits (chunks_rest c.loop-part.part-iterator) in
    let step : before ≡ in_digits part ++ in_digits rest = ap in_digits h.1.0 ∙ in_digits-append part rest in
    record {
      size = h.0 ∙ c.loop-part.invariant.size;
      wrote = wrote-more _ _ _ (in_digits part) (in_digits rest) before (in_digits c.args.bytes.now) c.loop-part.invariant.wrote step
          (c.in_ok-write_part.ensures {u = tt}).whole;
    }

shown_some : (bytes : List ℕ) → (length bytes == 0) ≡ false → in_digits bytes ≡ shown_text bytes
shown_some [] e = absurd (cc e)
shown_some (x ∷ xs) e = refl

shown_none : (bytes : List ℕ) → (length bytes == 0) ≡ true → codes "-" ≡ shown_text bytes
shown_none [] e = refl
shown_none (x ∷ xs) e = let some : (length (x ∷ xs) == 0) ≡ false = grind (arith, nat_tests) in absurd (cc (some, e))

pub returns-clause-whole : goal.returns-clause-whole
returns-clause-whole g c =
    let i = c.loop-part.invariant in
    let rest = chunks_rest c.loop-part.part-iterator in
    let none : in_digits rest ≡ [] =
    ap in_digits (nil_from_length rest (c.in-None.ensures.steps).1.0) ∙ in_digits-nil in
    subst (λ (l : List ℕ). Appends (g.W.Write.contents c.args.out.now) (g.W.Write.contents c.loop-part.out) l)
    (shown_some c.args.bytes.now (sym c.is_empty.ensures ∙ c.if-is_empty.false))
    (wrote-all _ _ (in_digits rest) (in_digits c.args.bytes.now) i.wrote none)

pub returns-in_err-write_part-clause-part : goal.returns-in_err-write_part-clause-part
returns-in_err-write_part-clause-part g c =
    let part = c.in-Some.part.now in
    let rest = chunks_rest c.next.new.self in
    let before = in_digits (chunks_rest c.loop-part.part-iterator) in
    let step : before ≡ in_digits part ++ in_digits rest = ap in_digits (c.in-Some.ensures.steps).1.0 ∙ in_digits-append part rest in
    if-failed c.from_residual.result
    (subst (λ (l : List ℕ). AppendsPart (g.W.Write.contents c.args.out.now) (g.W.Write.contents c.write_part.new.out) l)
    (shown_some c.args.bytes.now (sym c.is_empty.ensures ∙ c.if-is_empty.false))
    (part-more _ _ _ (in_digits part) (in_digits rest) before (in_digits c.args.bytes.now) c.loop-part.invariant.wrote step
    (c.in_err-write_part.ensures {u = tt}).part))

pub returns-then-is_empty-clause-whole : goal.returns-then-is_empty-clause-whole
returns-then-is_empty-clause-whole g c =
    subst (λ (l : List ℕ). OnOk c.write_text.result (Appends (g.W.Write.contents c.args.out.now) (g.W.Write.contents c.write_text.new.out) l))
    (shown_none c.args.bytes.now (sym c.is_empty.ensures ∙ c.if-is_empty.true)) c.write_text.ensures.whole

pub returns-then-is_empty-clause-part : goal.returns-then-is_empty-clause-part
returns-then-is_empty-clause-part g c =
    subst (λ (l : List ℕ). OnErr c.write_text.result (AppendsPart (g.W.Write.contents c.args.out.now) (g.W.Write.contents c.write_text.new.out) l))
    (shown_none c.args.bytes.now (sym c.is_empty.ensures ∙ c.if-is_empty.true)) c.write_text.ensures.part
