use Rattle.std.proofs.Common.{◌≡◌, List, [], ℕ, Option, length, sym, subst, ◌∙◌, arith}
use Rattle.aws_tape.specs.Reading.{start}
use Rattle.aws_tape.specs.Stepping.{ReadsChunks}
use Rattle.aws_tape.proofs.Chunks.{loads_fake, loads_rest}
use Rattle.aws_tape.proofs.loading.load.Goals as goal

pub returns-then-is_fake_tape : goal.returns-then-is_fake_tape
returns-then-is_fake_tape g c =
    let len : length c.fill.new.buffer ≡ 12 = omega arith in
    loads_fake c.args.bytes _ _ c.fill.new.buffer c.in-Ok.count len (c.in-Ok.ensures {u = tt})
    (sym c.is_fake_tape.ensures ∙ c.if-is_fake_tape.true)

pub returns : goal.returns
returns g c =
    let len : length c.fill.new.buffer ≡ 12 = omega arith in
    loads_rest c.args.bytes _ _ c.fill.new.buffer c.in-Ok.count c.load_chunks.result len (c.in-Ok.ensures {u = tt})
    (sym c.is_fake_tape.ensures ∙ c.if-is_fake_tape.false)
    (subst (λ (known : Option (List ℕ)). ReadsChunks (start (record { size = c.args.bytes; items = [] })) known c.load_chunks.result)
    c.chain.ensures.bytes c.load_chunks.ensures)
