use Rattle.std.proofs.Common.{List, ℕ, sym, ap, ◌∙◌, arith}
use Rattle.device_port.specs.Moves.{stored}
use Rattle.device_port.specs.MovesLaws.{stored-nothing}
use Rattle.tape_unit.specs.Tape.{TapeState, read}
use Rattle.tape_unit.proofs.Tapes.{read_at_end}
use Rattle.tape_unit.proofs.tape.Tape.read.Goals as goal

-- at the end nothing moves
pub returns-then-self-len-clause-area : goal.returns-then-self-len-clause-area
returns-then-self-len-clause-area c =
    let chain = c.args.chain.now in
    let area = c.args.area.now in
    let t : TapeState = record { reel = c.self.inside.reel; place = c.self.inside.head.place; ordinals = c.self.inside.faults } in
    let nothing = ap (λ (x : TapeState). (read x).bytes) (sym c.self.view_is)
    ∙ read_at_end t (omega (arith, c.if-self-len.true, c.len.ensures)) in
    sym (ap (λ (l : List ℕ). stored chain l area) nothing ∙ stored-nothing chain area)
