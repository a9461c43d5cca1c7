-- THE RECORD OF A TASK: what it holds, and what is noted in it (profile).
use Rattle.std.specs.Prelude.{◌≡◌, ◌<◌, ℕ, ◌-◌, Option, Some, None, List, [], ◌∷◌, ◌++◌, ◌⊎◌, slice_get, take, vec_len}
use Rattle.std.specs.Option.{option_map_or}
use Rattle.post_lines.specs.Slots.{SlotState, slot_at, slot_of, slots_of}
use Rattle.post_lines.specs.declared.slot.PostSlot.{PostSlot}
use Rattle.run_record.specs.declared.task_event.TaskEvent.{TaskEvent}
use Rattle.run_record.specs.declared.task_notes.TaskNotes.{TaskNotes}
use Rattle.run_record.specs.declared.task_record.EndedRequest.{EndedRequest}
use Rattle.run_record.specs.declared.task_record.TaskRecord.{TaskRecord}

-- the events that happened, in their order
abbrev pub events_of : TaskNotes → List TaskEvent
events_of notes = take notes.happened notes.events.items

-- how many events more there is room for
abbrev pub event_room : TaskNotes → ℕ
event_room notes = vec_len notes.events - notes.happened

-- the events stay as they were, and the room for more
pub record KeepsEvents (old new : TaskNotes) : Type 0 where
  pub events : events_of new ≡ events_of old
  pub room : event_room new ≡ event_room old

-- AN EVENT is noted, if there is room for it
pub record NotesEvent (old new : TaskNotes) (event : TaskEvent) : Type 0 where
  pub noted : 0 < event_room old → events_of new ≡ events_of old ++ event ∷ []
  pub full : event_room old ≡ 0 → events_of new ≡ events_of old
  pub room : event_room new ≡ event_room old - 1

-- the slots of the IOBs of the requests to each unit
abbrev pub iobs_of : TaskNotes → List (List SlotState)
iobs_of notes = slots_of notes.iobs

-- the slot of the IOB of the request with this number to a unit
abbrev pub iob_slot : TaskNotes → ℕ → ℕ → Option PostSlot
iob_slot notes unit number = slot_at notes.iobs.units unit number

-- how many requests to a unit are kept
abbrev pub requests_to : TaskRecord → ℕ → ℕ
requests_to task unit = option_map_or (λ slots. vec_len slots) (slice_get task.slots.units.items unit) 0

-- how a request ended is what its slot and its IOB hold
pub record ShowsEnd (slot : PostSlot) (iob : Option PostSlot) (ended : EndedRequest) : Type 0 where
  pub end : (slot_of slot).end ≡ Some ended.end
  pub shown : ended.shown.now ≡ (slot_of slot).shown
  pub iob_is : iob ≡ Some ended.iob.now

-- THE END of a request, if it was posted
abbrev pub EndsWith : Option PostSlot → Option PostSlot → Option EndedRequest → Type 0
EndsWith None iob None = Unit {0}
EndsWith (Some slot) iob None = ((slot_of slot).end ≡ None) ⊎ (iob ≡ None)
EndsWith None iob (Some ended) = ⊥
EndsWith (Some slot) iob (Some ended) = ShowsEnd slot iob ended

-- how the request of this number ended
abbrev pub EndsAs : TaskRecord → ℕ → ℕ → Option EndedRequest → Type 0
EndsAs task unit number ended = EndsWith (slot_at task.slots.units unit number) (iob_slot task.notes unit number) ended
