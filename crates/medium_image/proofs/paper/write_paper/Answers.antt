use Rattle.std.proofs.Common.{◌≡◌, ◌++◌, [], List, ℕ, true, refl, sym, ap, ◌∙◌, append-nil}
use Rattle.std.proofs.lemmas.List.{nil_from_length}
use Rattle.std.specs.Slice.Iter.{iter_rest}
use Rattle.line_printer.specs.declared.paper.PaperPosition.{PaperPosition}
use Rattle.line_printer.specs.Paper.{Line}
use Rattle.aws_tape.proofs.Written.{wrote-all, wrote-more}
use Rattle.medium_image.specs.Paper.{line_text, lines_text, motion_text, paper_text}
use Rattle.medium_image.proofs.Papers.{last_text, next_text}
use Rattle.medium_image.proofs.paper.write_paper.Goals as goal

pub loop-line-preserved : goal.loop-line-preserved
loop-line-preserved g c =
    let l = c.loop-line in
    let line = c.in-Some.line.now in
    let others = iter_rest c.next.new.self in
    let to = c.args.printer.now.at in
    let rest : List ℕ = line_text line.bytes ++ lines_text true line.at others to in
    let moved : lines_text l.is_printed l.at (iter_rest l.line-iterator) to ≡ motion_text l.is_printed l.at c.position.result ++ rest =
    ap (λ (ls : List Line). lines_text l.is_printed l.at ls to) c.in-Some.ensures.steps
    ∙ next_text l.is_printed l.at line others to
    ∙ ap (λ (p : PaperPosition). motion_text l.is_printed l.at p ++ rest) (sym c.position.ensures) in
    let printed : rest ≡ line_text c.bytes.result.now ++ lines_text true c.position-at.result others to =
    ap (λ (bs : List ℕ). line_text bs ++ lines_text true line.at others to) (sym c.bytes.ensures.bytes)
    ∙ ap (λ (p : PaperPosition). line_text c.bytes.result.now ++ lines_text true p others to) (sym c.position-at.ensures) in
    wrote-more _ _ _ _ _ rest _
    (wrote-more _ _ _ _ rest _ _ l.invariant moved (c.in_ok-write_motion.ensures {u = tt})) printed (c.in_ok-write_line.ensures {u = tt})

pub returns : goal.returns
returns g c =
    let l = c.loop-line in
    let to = c.args.printer.now.at in
    let none : iter_rest l.line-iterator ≡ [] = nil_from_length (iter_rest l.line-iterator) c.in-None.ensures.steps.0 in
    let last : lines_text l.is_printed l.at (iter_rest l.line-iterator) to ≡ motion_text l.is_printed l.at c.position-2.result ++ [] =
    ap (λ (ls : List Line). lines_text l.is_printed l.at ls to) none
    ∙ last_text l.is_printed l.at to
    ∙ ap (λ (p : PaperPosition). motion_text l.is_printed l.at p) (sym c.position-2.ensures)
    ∙ sym (append-nil (motion_text l.is_printed l.at c.position-2.result)) in
    let before = lines_text l.is_printed l.at (iter_rest l.line-iterator) to in
    let all = paper_text c.args.printer.now in
    let piece = motion_text l.is_printed l.at c.position-2.result in
    let whole = wrote-more _ _ _ piece [] before all l.invariant last (c.in_ok-write_motion-2.ensures {u = tt}) in
    wrote-all _ _ [] all whole refl
