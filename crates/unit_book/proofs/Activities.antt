-- What a book tells of its active request is what its trace says.
use Rattle.unit_book.proofs.Names.{◌≡◌, ap, ◌∙◌, Meaning, Phase, Absent, Idle, Running, Pending, Active, Standing, OnChannel, AwaitsRestart}
use Rattle.unit_book.specs.Activity.{IsActivity, IsPhase}
use Rattle.unit_book.specs.Book.{Book}
use Rattle.unit_book.specs.Fields.{ActiveTies, StandingTies, activity_phase, awaits_by, pending_phase}
use Rattle.unit_book.specs.Trace.{is_halted}

module _ {D : Type 0} (meaning : Meaning D) (b : Book D) (a : Active) where
  phase-told : (phase : Phase) (standing : Standing) → b.awaits ≡ awaits_by standing → a.halted ≡ is_halted a.piece.value.name b.trace →
      StandingTies meaning b.mounted b.trace phase a standing → IsPhase meaning b a.piece.value.name (activity_phase standing phase)
  phase-told Absent standing awaits halted t = elim t [ ]
  phase-told Idle OnChannel awaits halted t = elim t [ ]
  phase-told Idle (AwaitsRestart status) awaits halted t = (awaits, t.0)
  phase-told (Running place) OnChannel awaits halted t = t
  phase-told (Running place) (AwaitsRestart status) awaits halted t = elim t [ ]
  phase-told (Pending status) OnChannel awaits halted t = (awaits, t ∙ ap (λ h. pending_phase h status) halted)
  phase-told (Pending status) (AwaitsRestart kept) awaits halted t = elim t [ ]

  pub activity-told : (phase : Phase) → b.awaits ≡ awaits_by a.standing → ActiveTies meaning b.mounted b.trace phase a →
      IsActivity meaning b a.piece.value a.starts a.halted a.covered (activity_phase a.standing phase)
  activity-told phase awaits t = record {
    is = t.is;
    request = t.request;
    started = t.starts;
    was_halted = t.halted;
    was_covered = t.covered;
    phase_is = phase-told phase a.standing awaits t.halted t.standing;
  }
