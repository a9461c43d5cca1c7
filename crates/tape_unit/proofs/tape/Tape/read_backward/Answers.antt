use Rattle.std.proofs.Common.{List, ℕ, sym, ap, ◌∙◌}
use Rattle.device_port.specs.Moves.{stored_back}
use Rattle.device_port.specs.MovesLaws.{stored_back-nothing}
use Rattle.tape_unit.specs.Tape.{TapeState, read_backward}
use Rattle.tape_unit.proofs.Tapes.{read_at_load_point}
use Rattle.tape_unit.proofs.tape.Tape.read_backward.Goals as goal

-- at the load point nothing moves
pub returns-then-self-eq0-clause-area : goal.returns-then-self-eq0-clause-area
returns-then-self-eq0-clause-area c =
    let chain = c.args.chain.now in
    let area = c.args.area.now in
    let t : TapeState = record { reel = c.self.inside.reel; place = c.self.inside.head.place; ordinals = c.self.inside.faults } in
    let nothing = ap (λ (x : TapeState). (read_backward x).bytes) (sym c.self.view_is) ∙ read_at_load_point t c.if-self-eq0.true in
    sym (ap (λ (l : List ℕ). stored_back chain l area) nothing ∙ stored_back-nothing chain area)
