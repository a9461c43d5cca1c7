use Rattle.std.proofs.Common.{◌≡◌, ◌-◌, ◌++◌, List, ℕ, Bor, length, take, drop, sym, ap, ◌∙◌, subst, take-append-drop}
use Rattle.std.proofs.lemmas.List.{take_rest}
use Rattle.post_lines.specs.Writing.{Wrote}
use Rattle.post_lines.proofs.Putting.{wrote-kept, wrote-more}
use Rattle.post_lines.proofs.writing.write_text.Goals.{in-Ok, in-Err}
use Rattle.post_lines.proofs.writing.write_text.Goals as goal

-- what is left begins with what was taken
taken : (left : List ℕ) (n : ℕ) → left ≡ take n left ++ take (length left - n) (drop n left)
taken left n = sym (take-append-drop n left) ∙ ap (λ (l : List ℕ). take n left ++ l) (sym (take_rest left n))

pub loop-preserved : goal.loop-preserved
loop-preserved g c =
    let old = g.W.Write.contents c.args.out.now in
    let new = g.W.Write.contents c.write.new.self in
    let left = c.loop.rest.now in
    let text = c.args.text.now in
    let w = c.loop.invariant in
    elim c.match-write.branch [
      | in-Ok b ↦ let n = b.in-Ok.count in
          subst (λ (rest : Bor (List ℕ)). Wrote old new rest.now text) (sym b.rest-is)
          (wrote-more _ _ _ (take n left) (take (length left - n) (drop n left)) left text w (taken left n) (b.in-Ok.ensures {u = tt}).bytes)
      | in-Err b ↦ subst (λ (rest : Bor (List ℕ)). Wrote old new rest.now text) (sym b.rest-is)
          (wrote-kept _ _ _ left text w (b.in-Err.ensures {u = tt}).bytes)
    ]
