-- The next entry of a replay, and the place behind it.
use Rattle.std.proofs.Common.{◌≡◌, ℕ, ◌+◌, ◌<◌, Some, List, length, refl, sym, ap, ◌∙◌, reverse}
use Rattle.std.proofs.lemmas.List.{reverse-reverse}
use Rattle.std.proofs.lemmas.Option.{slice_get_read}
use Rattle.std.specs.Prelude.{slice_get, slice_index_or}
use Rattle.device_port.specs.Meaning.{Meaning}
use Rattle.io_images.specs.declared.code.Code.{Code}
use Rattle.io_images.specs.declared.csw.Csw.{Csw}
use Rattle.request_piece.specs.declared.piece.Name.{Name}
use Rattle.unit_book.specs.declared.entry.Entry.{Entry}
use Rattle.unit_book.specs.declared.entry.Entry.TheVariants.{Opened, Arrive, Start, Ran, Halted, Purge, Close, Reset, Post}
use Rattle.unit_history.specs.declared.replay.ReplayStep.TheVariants.{Entry as Whole}
use Rattle.unit_history.specs.Replayed.{ReplayPlace, place_after, step_to}
use Rattle.unit_history.proofs.Entries.{IsSilent}
use Rattle.unit_history.proofs.Steps.{IsWhole}

-- the entry that was read is the one at the place
pub entry-at : (entries trace : List Entry) (done : ℕ) (e : Entry) → reverse entries ≡ trace → done < length entries →
    e ≡ slice_index_or entries done e → slice_get (reverse trace) done ≡ Some e
entry-at entries trace done e r few is =
    let k : reverse trace ≡ entries = ap reverse (sym r) ∙ reverse-reverse entries in
    rw k (slice_get_read entries (length entries) done e refl few is)

-- what is none of these is silent
pub silent-is : {D : Type 0} (meaning : Meaning D) (mounted : D) (e : Entry) → ((n : Name) → e ≡ Start n → ⊥) →
    ((n : Name) (j : ℕ) → e ≡ Ran n j → ⊥) →
    ((n : Name) (csw : Csw) (sense : ℕ) (code : Code) → e ≡ Post n csw sense code → ⊥) → IsSilent meaning mounted e × IsWhole e
silent-is meaning mounted (Opened d i x) s r p = (tt, tt)
silent-is meaning mounted (Arrive q) s r p = (tt, tt)
silent-is meaning mounted (Start n) s r p = absurd (s n refl)
silent-is meaning mounted (Ran n j) s r p = absurd (r n j refl)
silent-is meaning mounted (Halted n) s r p = (tt, tt)
silent-is meaning mounted (Purge d m) s r p = (tt, tt)
silent-is meaning mounted (Close d) s r p = (tt, tt)
silent-is meaning mounted (Reset d) s r p = (tt, tt)
silent-is meaning mounted (Post n c k q) s r p = absurd (p n c k q refl)

-- behind an entry that is done as a whole
pub behind-whole : {D : Type 0} (e : Entry) (p : ReplayPlace D) → IsWhole e →
    place_after (Some e) p ≡ record p { done = p.done + 1; ran = 0 }
behind-whole (Opened d i x) p w = refl
behind-whole (Arrive q) p w = refl
behind-whole (Start n) p w = refl
behind-whole (Ran n j) p w = absurd w
behind-whole (Halted n) p w = refl
behind-whole (Purge d m) p w = refl
behind-whole (Close d) p w = refl
behind-whole (Reset d) p w = refl
behind-whole (Post n c k q) p w = refl

-- such an entry is one step
pub step-whole : (e : Entry) → IsWhole e → step_to (Some e) ≡ Whole
step-whole (Opened d i x) w = refl
step-whole (Arrive q) w = refl
step-whole (Start n) w = refl
step-whole (Ran n j) w = absurd w
step-whole (Halted n) w = refl
step-whole (Purge d m) w = refl
step-whole (Close d) w = refl
step-whole (Reset d) w = refl
step-whole (Post n c k q) w = refl
