use Rattle.std.proofs.Common.{◌≡◌, ◌++◌, ◌∷◌, ℕ, List, take, sym, ap, ◌∙◌, arith}
use Rattle.aws_tape.specs.declared.layout.Part.{Part}
use Rattle.aws_tape.specs.Layout.{bytes_in}
use Rattle.aws_tape.specs.Writing.{header_of, flags_of, chunks_of, last_length}
use Rattle.aws_tape.proofs.Written.{wrote-more, wrote-all, bytes_in-cons, chunks_step, chunks_end, last_step, last_end}
use Rattle.aws_tape.proofs.writer.write_parts.Goals as goal

pub loop-part-preserved : goal.loop-part-preserved
loop-part-preserved g c =
    let i = c.loop-part.invariant in
    let p = c.in-Some.part.now in
    let after = c.in-Some.after.now in
    let before = c.loop-part.before in
    let first = c.loop-part.first in
    let rest = c.loop-part.rest.now in
    let k = c.split_at.ensures in
    let parts-is : c.loop-part.left.now ≡ p ∷ after = (c.in-Some.ensures {u = tt}).cases.0 in
    let header-is : c.header_of-header.result ≡ header_of p.len before (flags_of first after) =
    c.header_of-header.ensures ∙ ap (header_of p.len before) c.flags_of.ensures in
    let piece : List ℕ = c.header_of-header.result ++ c.split_at.result.0.now in
    let piece-is : piece ≡ header_of p.len before (flags_of first after) ++ take p.len rest =
    ap (λ (l : List ℕ). l ++ c.split_at.result.0.now) header-is
    ∙ ap (λ (l : List ℕ). header_of p.len before (flags_of first after) ++ l) k.front in
    let left = chunks_of p.len 0 after c.split_at.result.1.now in
    let step : chunks_of before first c.loop-part.left.now rest ≡ piece ++ left =
    ap (λ (l : List Part). chunks_of before first l rest) parts-is ∙ chunks_step before first p after rest
    ∙ ap (λ (l : List ℕ). (header_of p.len before (flags_of first after) ++ take p.len rest) ++ chunks_of p.len 0 after l) (sym k.back)
    ∙ ap (λ (l : List ℕ). l ++ left) (sym piece-is) in
    record {
      wrote = wrote-more _ _ _ piece left (chunks_of before first c.loop-part.left.now rest) _ i.wrote step (c.in_ok-write_chunk.ensures {u = tt});
      sum = omega (arith, bytes_in-cons p after, ap bytes_in parts-is, i.sum, k.back_len);
      last = sym (ap (last_length before) parts-is ∙ last_step before p after) ∙ i.last;
      first = omega arith;
    }

pub returns-clause-image : goal.returns-clause-image
returns-clause-image g c =
    let l = c.loop-part in
    wrote-all _ _ (chunks_of l.before l.first l.left.now l.rest.now) _ l.invariant.wrote
    (chunks_end l.before l.first l.left.now l.rest.now (c.in_default.ensures {u = tt}).cases)

pub returns-clause-last : goal.returns-clause-last
returns-clause-last g c =
    let l = c.loop-part in
    sym (last_end l.before l.left.now (c.in_default.ensures {u = tt}).cases) ∙ l.invariant.last
