-- Programs at their end.
use Rattle.unit_book.proofs.Names.{List, ◌≡◌, ℕ, zero, suc, ◌+◌, ◌-◌, ◌≤◌, Bool, false, refl, ap, ◌∙◌, arith, Meaning}
use Rattle.unit_book.proofs.Names.{Program, after, length_of, is_running, Place, State, Status, active_phase_by, HasEnded, Piece}
use Rattle.unit_book.proofs.Names.{Code, Retry, Final}
use Rattle.ccw_programs.specs.declared.context.State.TheVariants.{Ended}
use Rattle.ccw_programs.proofs.StepLaws.{after-add, after-ended, length-after}
use Rattle.unit_book.specs.declared.entry.Entry.{Entry}
use Rattle.serial_order.specs.OneAtATime.{to_end, verdict_on, attempts_from, with_program, attempt}
use Rattle.std.proofs.lemmas.Grind.{common_steps}

-- the status of an active request whose program has ended
pub phase-ended : (halted : Bool) (place : Place) (state : State) (status : Status) → halted ≡ false →
    active_phase_by halted place state ≡ HasEnded status → state ≡ Ended status.csw status.sense
phase-ended v0 place v2 status h e = grind (arith, common_steps)

module _ {D : Type 0} (meaning : Meaning D) where
  -- a program that has ended is the program after its last command
  pub end-is : (c : ℕ) (b : Program D) → c ≤ length_of meaning b → is_running (after meaning c b).place.state ≡ false →
      to_end meaning b ≡ after meaning c b
  end-is c b few h =
      let e : length_of meaning b ≡ c + (length_of meaning b - c) = omega (arith, few) in
      ap (λ k. after meaning k b) e ∙ after-add meaning c (length_of meaning b - c) b
      ∙ after-ended meaning (length_of meaning b - c) (after meaning c b) h

  -- more commands of a program, within its length
  pub more-few : (c j : ℕ) (b : Program D) → b.place.fetched ≤ 4096 → c ≤ length_of meaning b →
      j ≤ length_of meaning (after meaning c b) → c + j ≤ length_of meaning b
  more-few c j b f few more = let e = length-after meaning c b f few in omega (arith, e, few, more)

  module _ (mounted : D) (openings : List Entry) where
    -- the last attempt
    pub attempts-final : (left number : ℕ) (r : Piece) (p : Program D) (code : Code) →
        verdict_on (meaning.kind mounted) number (to_end meaning p) ≡ Final code →
        attempts_from meaning mounted openings left number r p ≡ with_program r (to_end meaning p) code
    unfolding attempts_from
    attempts-final zero number r p code e = rw (e, attempts_from) refl
    attempts-final (suc left) number r p code e = rw (e, attempts_from) refl

    -- one more attempt
    pub attempts-again : (left number : ℕ) (r : Piece) (p : Program D) →
        verdict_on (meaning.kind mounted) number (to_end meaning p) ≡ Retry →
        attempts_from meaning mounted openings (suc left) number r p ≡ attempts_from meaning mounted openings left (number + 1) r
        (attempt meaning openings r (to_end meaning p).device (to_end meaning p).area)
    unfolding attempts_from
    attempts-again left number r p e = rw (e, attempts_from) refl
