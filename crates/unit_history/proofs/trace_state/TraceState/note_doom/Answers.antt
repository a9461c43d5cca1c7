use Rattle.std.proofs.Common.{◌≡◌, ℕ, ◌+◌, ◌∷◌, ◌∙◌, ap, length, subst, sym}
use Rattle.unit_book.specs.declared.entry.Entry.{Entry}
use Rattle.unit_book.specs.declared.entry.Entry.TheVariants as entry
use Rattle.unit_history.specs.declared.dcbs.Dcbs.{Dcbs}
use Rattle.unit_history.specs.declared.event.PostCause.{PostCause}
use Rattle.unit_history.specs.declared.event.PostCause.TheVariants.{Purge, Close}
use Rattle.unit_history.specs.Dcbs.{KnowsDcbs, arrival_cause, known_at}
use Rattle.unit_history.specs.Orderly.{IsAfter}
use Rattle.unit_history.specs.TraceStates.{DoomsBy, Knows, before, room_of_state}
use Rattle.unit_history.specs.declared.trace_state.TraceState.{TraceState}
use Rattle.unit_history.proofs.DcbLaws.{knows-closed, knows-known, knows-opened, knows-other, knows-posted, tells-none}
use Rattle.unit_history.proofs.DoomCauses.{dooms-arrive, dooms-close, dooms-other, dooms-posted, dooms-purge}
use Rattle.unit_history.proofs.OrderlyLaws.{orderly-before}
use Rattle.unit_history.proofs.TraceStateLaws.{before-length}
use Rattle.unit_history.proofs.trace_state.TraceState.note_doom.Goals as goal

-- the number of the next entry
number-is : (p : TraceState) (k : ℕ) → Knows p → k ≡ p.done + 1 → k ≡ length (before p) + 1
number-is p k w n = n ∙ ap (λ x. x + 1) (sym (before-length p.trace.now p.done w.few))

pub returns-in-Opened-clause-dcbs : goal.returns-in-Opened-clause-dcbs
returns-in-Opened-clause-dcbs c =
    let H = before c.args.self.now in
    let w = c.in-Opened in
    let f = subst (λ (e : Entry). IsAfter e H) w.is c.requires.follows in
    subst (λ (e : Entry). KnowsDcbs (e ∷ H) c.open_next.new.self) (sym w.is)
    (knows-opened w.field-0 w.field-1 w.field-2 H c.args.self.now.dcbs.now c.open_next.new.self f c.requires.knows.dcbs c.open_next.ensures)

pub returns-in-Arrive-clause-dooms : goal.returns-in-Arrive-clause-dooms
returns-in-Arrive-clause-dooms c =
    let p = c.args.self.now in
    let H = before p in
    let w = c.in-Arrive in
    let room = room_of_state p in
    let f = subst (λ (e : Entry). IsAfter e H) w.is c.requires.follows in
    let o = orderly-before p.trace.now p.done c.requires.knows.orderly in
    let d = dooms-arrive room w.issued H (known_at w.issued.dcb p.dcbs.now) f.1
    (λ few. knows-known w.issued.dcb H p.dcbs.now o (c.requires.knows.dcbs few)) in
    subst (λ (x : PostCause). DoomsBy room (c.args.entry.now ∷ H) x) (sym c.on_arrival-self.ensures)
    (subst (λ (e : Entry). DoomsBy room (e ∷ H) (arrival_cause (known_at c.dcb.result p.dcbs.now))) (sym w.is) (rw c.dcb.ensures d))

pub returns-in-Arrive-clause-dcbs : goal.returns-in-Arrive-clause-dcbs
returns-in-Arrive-clause-dcbs c =
    let p = c.args.self.now in
    let w = c.in-Arrive in
    subst (λ (e : Entry). KnowsDcbs (e ∷ before p) p.dcbs.now) (sym w.is)
    (knows-other (entry.Arrive w.issued) (before p) p.dcbs.now tt c.requires.knows.dcbs)

pub returns-in-Purge-clause-dooms : goal.returns-in-Purge-clause-dooms
returns-in-Purge-clause-dooms c =
    let H = before c.args.self.now in
    let room = room_of_state c.args.self.now in
    let w = c.in-Purge in
    let n = number-is c.args.self.now c.args.number c.requires.knows c.requires.number in
    let f = subst (λ (e : Entry). IsAfter e H) w.is c.requires.follows in
    subst (λ (x : PostCause). DoomsBy room (c.args.entry.now ∷ H) x) (sym c.note_purge.ensures.cause)
    (subst (λ (e : Entry). DoomsBy room (e ∷ H) (Purge c.args.number)) (sym w.is) (dooms-purge room w.field-0 w.field-1 H c.args.number f n))

pub returns-in-Purge-clause-dcbs : goal.returns-in-Purge-clause-dcbs
returns-in-Purge-clause-dcbs c =
    let p = c.args.self.now in
    let w = c.in-Purge in
    subst (λ (t : Dcbs). KnowsDcbs (c.args.entry.now ∷ before p) t) (sym c.note_purge.ensures.dcbs)
    (subst (λ (e : Entry). KnowsDcbs (e ∷ before p) p.dcbs.now) (sym w.is)
    (knows-other (entry.Purge w.field-0 w.field-1) (before p) p.dcbs.now tt c.requires.knows.dcbs))

pub returns-in-Close-clause-dooms : goal.returns-in-Close-clause-dooms
returns-in-Close-clause-dooms c =
    let H = before c.args.self.now in
    let room = room_of_state c.args.self.now in
    let w = c.in-Close in
    let n = number-is c.args.self.now c.args.number c.requires.knows c.requires.number in
    let f = subst (λ (e : Entry). IsAfter e H) w.is c.requires.follows in
    subst (λ (x : PostCause). DoomsBy room (c.args.entry.now ∷ H) x) (sym c.note_close.ensures.cause)
    (subst (λ (e : Entry). DoomsBy room (e ∷ H) (Close c.args.number)) (sym w.is) (dooms-close room w.dcb H c.args.number f.0 n))

pub returns-in-Close-clause-dcbs : goal.returns-in-Close-clause-dcbs
returns-in-Close-clause-dcbs c =
    let p = c.args.self.now in
    let w = c.in-Close in
    let n = number-is p c.args.number c.requires.knows c.requires.number in
    subst (λ (e : Entry). KnowsDcbs (e ∷ before p) c.note_close.new.self.dcbs.now) (sym w.is)
    (knows-closed w.dcb (before p) c.args.number p.dcbs.now c.note_close.new.self.dcbs.now n c.requires.knows.dcbs c.note_close.ensures.dcbs)

pub returns-in-Post-clause-dooms : goal.returns-in-Post-clause-dooms
returns-in-Post-clause-dooms c =
    let H = before c.args.self.now in
    let room = room_of_state c.args.self.now in
    let w = c.in-Post in
    let n = number-is c.args.self.now c.args.number c.requires.knows c.requires.number in
    let f = subst (λ (e : Entry). IsAfter e H) w.is c.requires.follows in
    subst (λ (e : Entry). DoomsBy room (e ∷ H) c.note_post.new.self.cause) (sym w.is)
    (dooms-posted room w.name w.field-1 w.field-2 w.code H c.args.number c.args.self.now.cause c.note_post.new.self.cause n f.1
    c.note_post.ensures.error c.note_post.ensures.other c.requires.knows.dooms)

pub returns-in-Post-clause-dcbs : goal.returns-in-Post-clause-dcbs
returns-in-Post-clause-dcbs c =
    let p = c.args.self.now in
    let w = c.in-Post in
    let n = number-is p c.args.number c.requires.knows c.requires.number in
    subst (λ (e : Entry). KnowsDcbs (e ∷ before p) c.note_post.new.self.dcbs.now) (sym w.is)
    (knows-posted w.name w.field-1 w.field-2 w.code (before p) c.args.number p.dcbs.now c.note_post.new.self.dcbs.now n
    c.note_post.ensures.dcbs c.note_post.ensures.other_dcbs c.requires.knows.dcbs)

pub returns-in_default-clause-dooms : goal.returns-in_default-clause-dooms
returns-in_default-clause-dooms c =
    let w = c.in_default in
    dooms-other (room_of_state c.args.self.now) c.args.entry.now (before c.args.self.now) c.args.self.now.cause w.not-Opened w.not-Arrive
    w.not-Purge w.not-Close w.not-Post c.requires.follows c.requires.knows.dooms

pub returns-in_default-clause-dcbs : goal.returns-in_default-clause-dcbs
returns-in_default-clause-dcbs c =
    let w = c.in_default in
    knows-other c.args.entry.now (before c.args.self.now) c.args.self.now.dcbs.now
    (tells-none c.args.entry.now w.not-Opened w.not-Close w.not-Post) c.requires.knows.dcbs
