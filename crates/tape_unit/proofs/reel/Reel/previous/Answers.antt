use Rattle.std.proofs.Common.{◌≡◌, ◌-◌, length, drop, ap, ◌∙◌, arith}
use Rattle.tape_unit.specs.Item.{content_of, length_at}
use Rattle.tape_unit.specs.Reel.{item_of}
use Rattle.tape_unit.proofs.Reels.{before, bounds}
use Rattle.tape_unit.proofs.reel.Reel.previous.Goals as goal

pub split_at-requires : goal.split_at-requires
split_at-requires c =
    let i = c.self.inside in
    let b = bounds c.args.self.now i.bytes.items i.used i.count c.args.at c.self.invariant c.self.view_is c.requires.on in
    omega (arith, b.size, b.within, b.whole, ap length c.as_slice.ensures.value)

pub read_length-len-requires : goal.read_length-len-requires
read_length-len-requires c =
    let i = c.self.inside in
    let b = bounds c.args.self.now i.bytes.items i.used i.count c.args.at c.self.invariant c.self.view_is c.requires.on in
    let p = before c.args.self.now i.bytes.items i.used i.count c.args.at c.self.invariant c.self.view_is c.requires.on c.requires.after in
    omega (arith, p.size, b.size, b.within, b.whole, ap length c.as_slice.ensures.value, c.split_at.ensures.back_len)

pub overflow_sub-result-2 : goal.overflow_sub-result-2
overflow_sub-result-2 c =
    let i = c.self.inside in
    let p = before c.args.self.now i.bytes.items i.used i.count c.args.at c.self.invariant c.self.view_is c.requires.on c.requires.after in
    omega (arith, p.size)

pub overflow_sub-result-3 : goal.overflow_sub-result-3
overflow_sub-result-3 c =
    let i = c.self.inside in
    let p = before c.args.self.now i.bytes.items i.used i.count c.args.at c.self.invariant c.self.view_is c.requires.on c.requires.after in
    let len : c.read_length-len.result ≡ length (content_of (item_of c.args.self.now.items (c.args.at.place - 1))) =
    c.read_length-len.ensures.length ∙ ap length_at (c.split_at.ensures.back ∙ ap (drop (c.args.at.offset - 2)) c.as_slice.ensures.value)
    ∙ p.read in
    omega (arith, p.size, len)

pub returns-clause-on : goal.returns-clause-on
returns-clause-on c =
    let i = c.self.inside in
    let p = before c.args.self.now i.bytes.items i.used i.count c.args.at c.self.invariant c.self.view_is c.requires.on c.requires.after in
    let len : c.read_length-len.result ≡ length (content_of (item_of c.args.self.now.items (c.args.at.place - 1))) =
    c.read_length-len.ensures.length ∙ ap length_at (c.split_at.ensures.back ∙ ap (drop (c.args.at.offset - 2)) c.as_slice.ensures.value)
    ∙ p.read in
    record { within = omega (arith, c.requires.on.within); before = omega (arith, p.size, len) }
