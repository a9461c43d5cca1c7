use Rattle.std.proofs.Common.{refl}
use Rattle.unit_history.proofs.TraceStateLaws.{knows-next}
use Rattle.unit_history.proofs.trace_state.TraceState.note.Goals as goal

pub returns-clause-knows : goal.returns-clause-knows
returns-clause-knows c =
    knows-next c.args.self.now _ c.args.entry.now c.requires.knows c.requires.next c.note_doom.ensures.trace refl c.note_doom.ensures.room
    c.note_doom.ensures.doom c.note_doom.ensures.dooms c.note_doom.ensures.dcbs c.active_after-active.ensures
