use Rattle.std.proofs.Common.{◌≡◌, ◌<◌, ◌+◌, length, drop, Some, arith, ◌∙◌, sym, refl}
use Rattle.std.specs.Prelude.{option_copied, vec_len}
use Rattle.std.proofs.lemmas.Result.{err_from_is_err_and}
use Rattle.script_words.specs.Text.{bytes_left, leading_line, lines}
use Rattle.script_words.proofs.Fronts.{has_leading_line}
use Rattle.job_script.specs.Views.{said}
use Rattle.job_script.proofs.Parsing.{goes_on, stops, ends}
use Rattle.job_script.specs.Commands.{NamesUnits}
use Rattle.job_script.proofs.Grouping.{grouped_none, no_command}
use Rattle.job_script.proofs.script.Script.parse.Goals as goal

pub invariant_of-script : goal.invariant_of-script
invariant_of-script c = record {
  declared = rw c.new-2.ensures.items (no_command (NamesUnits (vec_len c.new.result.units)));
  of_tasks = rw c.new-2.ensures.items (no_command (λ x. x.task < c.new.result.tasks));
  grouped = rw (c.new-2.ensures.items, c.new-3.ensures.items) grouped_none;
}

pub lines-preserved : goal.lines-preserved
lines-preserved c =
    let text = c.in-Some.text.now in
    let is : option_copied c.lines.left ≡ Some text = rw c.in-Some.is refl in
    let size : bytes_left (option_copied c.lines.left) ≡ length text + 1 = rw is refl in
    record {
      read = goes_on c.lines.number (said c.lines.script) (said c.numbered_line.new.self) (option_copied c.lines.left)
          (option_copied c.in_ok-after.after) text
          (leading_line text) _ is c.in_ok-after.ensures.line c.in_ok-after.ensures.adds c.lines.invariant.read;
      few = omega (arith, size, c.in_ok-after.ensures.shorter, c.lines.invariant.few);
    }

pub lines-smaller : goal.lines-smaller
lines-smaller c =
    let text = c.in-Some.text.now in
    let is : option_copied c.lines.left ≡ Some text = rw c.in-Some.is refl in
    let size : bytes_left (option_copied c.lines.left) ≡ length text + 1 = rw is refl in
    omega (arith, size, c.in_ok-after.ensures.shorter)

pub returns-in_err-after-clause-grammar : goal.returns-in_err-after-clause-grammar
returns-in_err-after-clause-grammar c =
    let text = c.in-Some.text.now in
    let is : option_copied c.lines.left ≡ Some text = rw c.in-Some.is refl in
    let back = err_from_is_err_and c.from_residual.result c.from_residual.ensures.1 in
    rw (back.1, back.2)
    (stops _ c.lines.number (said c.lines.script) (option_copied c.lines.left) text (leading_line text) (drop 1 (lines text))
    c.args.text.now is (has_leading_line text) c.in_err-after.ensures.adds c.lines.invariant.read)

pub returns-then-lacks-clause-grammar : goal.returns-then-lacks-clause-grammar
returns-then-lacks-clause-grammar c =
    ends c.lines.number (said c.lines.script) (option_copied c.lines.left) c.args.text.now (rw c.in_default.is refl) c.lines.invariant.read
    ∙ rw (sym c.lacks.ensures, c.if-lacks.true) refl

pub returns-clause-grammar : goal.returns-clause-grammar
returns-clause-grammar c =
    ends c.lines.number (said c.lines.script) (option_copied c.lines.left) c.args.text.now (rw c.in_default.is refl) c.lines.invariant.read
    ∙ rw (sym c.lacks.ensures, c.if-lacks.false) refl
