use Rattle.std.proofs.Common.{◌≡◌, ◌≤◌, ◌∙◌, ℕ, List, ap, arith, length, take}
use Rattle.std.proofs.lemmas.List.{take_all}
use Rattle.line_printer.specs.Paper.{Line, Listing}
use Rattle.line_printer.proofs.listing.Printout.copy_from.Goals as goal

pub returns : goal.returns
returns c =
    let from = c.args.from.now in
    let items = c.deref-line-items.result.now in
    let end : length items ≤ c.loop-line.line-index = omega (arith, c.loop-line-test.false) in
    let lines = c.loop-line.invariant.copied ∙ take_all c.loop-line.line-index items end ∙ c.deref-line-items.ensures.value
    ∙ ap (λ (l : Listing). l.lines) c.from.view_is in
    ap (λ (n : ℕ). record { room = n; lines = c.loop-line.self-inside.lines.items }) c.loop-line.invariant.same
    ∙ ap (λ (l : List Line). record { room = from.room; lines = l }) lines
