use Rattle.std.proofs.Common.{◌≡◌, ◌≤◌, ◌++◌, ◌+◌, length, take, arith, length-append, length-take, ap, ◌∙◌, ℕ, List}
use Rattle.std.proofs.lemmas.List.{take-append-le}
use Rattle.job_script.proofs.Consuming.{consumes-more}
use Rattle.job_script.proofs.reading.read_script.Goals as goal

pub returns-in-Err-clause-bounded : goal.returns-in-Err-clause-bounded
returns-in-Err-clause-bounded g c =
    let bytes = take c.in-Ok.count c.read.new.buf in
    let few : length (c.loop.text.items ++ bytes) ≤ 1048577 = simp (length-append, length-take)
    (omega (
      arith,
      c.loop.invariant.few,
      c.in-Ok.ensures.bound,
      c.read.auto.buf,
      length-take c.min-room.result c.loop.buffer,
      c.min-room.ensures,
    )) in
    (c.loop.text.items ++ bytes, consumes-more _ _ _ c.loop.text.items bytes c.loop.invariant.told c.in-Ok.ensures.bytes.0, few)

pub loop-preserved : goal.loop-preserved
loop-preserved g c =
    let bytes = take c.in-Ok.count c.read.new.buf in
    let within : c.in-Ok.count ≤ length c.read.new.buf = omega (arith, c.in-Ok.ensures.bound) in
    let grown : c.extend_from_slice.new.self.items ≡ c.loop.text.items ++ bytes =
    c.in-Ok-extend_from_slice.ensures.items ∙ ap (λ (l : List ℕ). c.loop.text.items ++ l)
    (take-append-le c.in-Ok.count c.read.new.buf _ within) in
    let longer : length c.extend_from_slice.new.self.items ≡ length c.loop.text.items + c.in-Ok.count =
    ap length grown ∙ simp (length-append, length-take) (omega arith) in
    record {
      few = omega arith;
      some = omega (arith, c.loop.invariant.some, longer);
      told = rw grown (consumes-more _ _ _ c.loop.text.items bytes c.loop.invariant.told c.in-Ok.ensures.bytes.0);
    }
