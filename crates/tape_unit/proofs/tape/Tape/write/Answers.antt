use Rattle.std.proofs.Common.{◌≡◌, ℕ, length, min, sym, ap, ◌∙◌, arith}
use Rattle.device_port.specs.Meaning.{Outcome}
use Rattle.tape_unit.specs.Reel.{ReelState}
use Rattle.tape_unit.specs.Tape.{TapeState, write}
use Rattle.tape_unit.proofs.Tapes.{longest, with_block, write_full, write_fits}
use Rattle.tape_unit.proofs.tape.Tape.write.Goals as goal

pub returns-then-not-has_room : goal.returns-then-not-has_room
returns-then-not-has_room c =
    let given = c.args.given.now in
    let t : TapeState = record { reel = c.self.inside.reel; place = c.self.inside.head.place; ordinals = c.self.inside.faults } in
    let len-is : c.min-len.result ≡ min (length given) longest = omega (arith, c.min-len.ensures, c.len.ensures) in
    let e = write_full t given c.min-len.result len-is (sym c.has_room.ensures ∙ c.if-not-has_room.true) in
    record {
      acted = c.unit_check.ensures ∙ sym (ap (λ (o : Outcome TapeState). o.acted) e)
          ∙ ap (λ (x : TapeState). (write x given).acted) c.self.view_is;
      device = sym c.self.view_is ∙ sym (ap (λ (o : Outcome TapeState). o.device) e)
          ∙ ap (λ (x : TapeState). (write x given).device) c.self.view_is;
    }

pub returns : goal.returns
returns c =
    let given = c.args.given.now in
    let t : TapeState = record { reel = c.self.inside.reel; place = c.self.inside.head.place; ordinals = c.self.inside.faults } in
    let len-is : c.min-len.result ≡ min (length given) longest = omega (arith, c.min-len.ensures, c.len.ensures) in
    let e = write_fits t given c.min-len.result len-is (sym c.has_room.ensures ∙ c.if-not-has_room.false) in
    record {
      acted = c.normal_end.ensures ∙ sym (ap (λ (o : Outcome TapeState). o.acted) e)
          ∙ ap (λ (x : TapeState). (write x given).acted) c.self.view_is;
      device = ap (λ (r : ReelState). record { reel = r; place = c.put_given-self-inside.result.place; ordinals = c.self.inside.faults })
          c.put_given-self-inside.ensures.reel
          ∙ ap (λ (n : ℕ). record { reel = (with_block t given c.min-len.result).reel; place = n; ordinals = c.self.inside.faults })
          c.put_given-self-inside.ensures.behind
          ∙ sym (ap (λ (o : Outcome TapeState). o.device) e) ∙ ap (λ (x : TapeState). (write x given).device) c.self.view_is;
    }
