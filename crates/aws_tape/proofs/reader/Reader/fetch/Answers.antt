use Rattle.std.proofs.Common.{◌≡◌, ◌-◌, ◌++◌, ℕ, List, length, take, drop, sym, ap, ◌∙◌, arith, rules}
use Rattle.std.proofs.lemmas.List.{with_items_is}
use Rattle.aws_tape.specs.Between.{Between}
use Rattle.aws_tape.specs.Reading.{with_data}
use Rattle.aws_tape.proofs.Buffers.{grown_filled}
use Rattle.image_source.proofs.Sources.{whole_read}
use Rattle.aws_tape.proofs.Chunks.{fetched}
use Rattle.aws_tape.proofs.reader.Reader.fetch.Goals as goal

pub returns : goal.returns
returns g c =
    let i = c.self.inside in
    let start = c.len-start.result in
    let n = c.args.len in
    let v = c.resize.new.self in
    let grown = c.deref_mut.result.now in
    let filled = c.fill.new.buffer in
    let image = take start grown ++ (filled ++ drop (length grown - start) (drop start grown)) in
    let start-is : length i.block.items ≡ start = search rules in
    let k-is : length i.block.items ≡ i.block.len = search rules in
    let same : length image ≡ v.len = search rules in
    let len : length filled ≡ n = omega (arith, (c.in-Ok.ensures {u = tt}).len, c.deref_mut.ensures.len, start-is) in
    let grown-is = c.deref_mut.ensures.value ∙ (c.in-Ok.ensures {u = tt}).items in
    let block-is = with_items_is v image same ∙ grown_filled i.block.items grown filled start n i.block.len start-is k-is grown-is len in
    fetched c.args.self.now _ n _ _ filled tt len
    (whole_read _ _ filled c.in-Ok-fill.count (c.in-Ok-fill.ensures {u = tt}) (omega (arith, len)))
    (ap (λ (l : List ℕ). record { reel = i.tape; is_open = i.is_open; block = l; layout = i.layout; previous = n }) block-is
    ∙ ap (λ (m : ℕ). record { reel = i.tape; is_open = i.is_open; block = i.block.items ++ filled; layout = i.layout; previous = m }) (sym len)
    ∙ ap (λ (at : Between). with_data at filled) c.self.view_is)
