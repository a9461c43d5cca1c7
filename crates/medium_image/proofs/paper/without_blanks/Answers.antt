use Rattle.std.proofs.Common.{◌≡◌, ◌==◌, ◌++◌, ◌∷◌, [], ℕ, false, sym, ap, ◌∙◌, arith}
use Rattle.std.proofs.lemmas.Bool.Decides.{nat_tests}
use Rattle.std.proofs.lemmas.List.{nil_from_length}
use Rattle.medium_image.specs.Paper.{without_blanks}
use Rattle.medium_image.proofs.Papers.{blank_end, no_blank_end, no_blank_nil}
use Rattle.medium_image.proofs.paper.without_blanks.Goals as goal

pub loop-last-preserved : goal.loop-last-preserved
loop-last-preserved c =
    let others = c.in-Some.others.now in
    let line = (c.in-Some.ensures {u = tt}).cases.0 in
    sym (
    ap without_blanks line
    ∙ ap (λ (last : ℕ). without_blanks (others ++ last ∷ [])) c.if-last-ne-BLANK.false
    ∙ blank_end others
    )
    ∙ c.loop-last.invariant

pub returns-then-last-ne-BLANK : goal.returns-then-last-ne-BLANK
returns-then-last-ne-BLANK c =
    let line = (c.in-Some.ensures {u = tt}).cases.0 in
    let other : (c.in-Some.last.now == 0x40) ≡ false = grind (arith, nat_tests, c.if-last-ne-BLANK.true) in
    line
    ∙ sym (ap without_blanks line ∙ no_blank_end c.in-Some.others.now c.in-Some.last.now other)
    ∙ c.loop-last.invariant

pub returns : goal.returns
returns c =
    let none : c.loop-last.line.now ≡ [] = nil_from_length c.loop-last.line.now (c.in_default.ensures {u = tt}).cases in
    none ∙ sym (ap without_blanks none ∙ no_blank_nil) ∙ c.loop-last.invariant
