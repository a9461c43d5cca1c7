-- A book continues with each call, so it began as the one that was handed in.
use Rattle.std.proofs.Common.{◌≡◌, ℕ, Bool, true, false, List, [], ◌∷◌, ◌++◌, Some, refl, sym, ap, ◌∙◌, append_assoc}
use Rattle.std.specs.Prelude.{IfOk, OnErr, slice_get}
use Rattle.std.specs.declared.result.Result.{Result}
use Rattle.io_images.specs.Images.{no_status}
use Rattle.io_images.specs.declared.code.Code.TheVariants.{ExtentViolated, Purged}
use Rattle.io_images.specs.declared.extent.Extent.{Extent}
use Rattle.device_port.specs.Meaning.{Meaning}
use Rattle.request_piece.specs.PostedState.{PostedState}
use Rattle.request_piece.specs.declared.piece.Piece.{Piece}
use Rattle.request_piece.specs.declared.scope.Scope.{Scope}
use Rattle.unit_book.specs.declared.answer.Starting.{Starting}
use Rattle.unit_book.specs.declared.answer.Starting.TheVariants as starting
use Rattle.unit_book.specs.declared.answer.Running.{Running}
use Rattle.unit_book.specs.declared.answer.Running.TheVariants as running
use Rattle.unit_book.specs.declared.answer.Interruption.{Interruption}
use Rattle.unit_book.specs.declared.answer.Interruption.TheVariants as interrupting
use Rattle.unit_book.specs.declared.answer.Purging.{Purging}
use Rattle.unit_book.specs.declared.answer.Closing.{Closing}
use Rattle.unit_book.specs.declared.dcb.ProcessingMethod.{ProcessingMethod}
use Rattle.unit_book.specs.declared.entry.Mode.{Mode}
use Rattle.unit_book.specs.declared.entry.Entry.{Entry}
use Rattle.unit_book.specs.declared.entry.Entry.TheVariants.{Opened, Start, Ran, Halted, Purge, Close, Post}
use Rattle.unit_book.specs.Answers.{Adds, Extends, InterruptsBook, OpensBook, RunsBook, StartsBook}
use Rattle.unit_book.specs.Book.{Book}
use Rattle.unit_book.specs.Controls.{ClosesBook, ClosesBy, PurgesBook, PurgesBy, after_purge, covers_awaiting, halted_by}
use Rattle.unit_book.specs.Dcbs.{doomed, is_open}
use Rattle.unit_book.specs.Dooms.{after_dooms, all_posted}
use Rattle.unit_book.specs.Legal.{Due, Free, ToHalt, ToPost, due}
use Rattle.unit_book.specs.Settle.{AddsService}
use Rattle.unit_book.proofs.Kept.{either_way}
use Rattle.excp_system.specs.Begun.{Began, Continues}

-- A TRACE GROWS
record Longer (old new : List Entry) : Type 0 where
  pub later : List Entry
  pub is : new ≡ later ++ old

longer_none : (H : List Entry) → Longer H H
longer_none H = record { later = []; is = refl }

longer_more : {H G K : List Entry} → Longer H G → Longer G K → Longer H K
longer_more {H = H} a b =
    record { later = b.later ++ a.later; is = b.is ∙ ap (λ x. b.later ++ x) a.is ∙ sym (append_assoc b.later a.later H) }

longer_one : (e : Entry) (H : List Entry) → Longer H (e ∷ H)
longer_one e H = record { later = e ∷ []; is = refl }

longer_posts : (rs : List Piece) (H : List Entry) → Longer H (all_posted rs H)
longer_posts [] H = longer_none H
longer_posts (r ∷ rs) H = longer_more (longer_one (Post r.name no_status 0 Purged) H) (longer_posts rs (Post r.name no_status 0 Purged ∷ H))

-- by an entry, and the posts of what it dooms
longer_dooms : (e : Entry) (H : List Entry) → Longer H (after_dooms (e ∷ H))
longer_dooms e H = longer_more (longer_one e H) (longer_posts (doomed (e ∷ H)) (e ∷ H))

longer_halted : (d : Due) (H : List Entry) → Longer H (halted_by d H)
longer_halted (ToHalt n) H = longer_one (Halted n) H
longer_halted (ToPost n) H = longer_none H
longer_halted Free H = longer_none H

-- A BOOK CONTINUES
module _ {D : Type 0} where
  pub continues_same : {old new : Book D} → new ≡ old → Continues old new
  continues_same same = record {
    mounted = ap (λ (b : Book D). b.mounted) same;
    isc = ap (λ (b : Book D). b.isc) same;
    capacity = ap (λ (b : Book D). b.capacity) same;
    later = [];
    grew = ap (λ (b : Book D). b.trace) same;
  }

  pub continues_then : {first mid new : Book D} → Continues first mid → Continues mid new → Continues first new
  continues_then {first = first} a b = record {
    mounted = b.mounted ∙ a.mounted;
    isc = b.isc ∙ a.isc;
    capacity = b.capacity ∙ a.capacity;
    later = b.later ++ a.later;
    grew = b.grew ∙ ap (λ x. b.later ++ x) a.grew ∙ sym (append_assoc b.later a.later first.trace);
  }

  -- the book that is handed in, and each that continues one that began
  pub began_first : (opened : List (Book D)) (unit : ℕ) (b : Book D) → slice_get opened unit ≡ Some b → Began opened unit b
  began_first opened unit b is = record { first = b; is = is; continues = continues_same refl }

  pub began_then : {opened : List (Book D)} {unit : ℕ} {old new : Book D} → Began opened unit old → Continues old new →
      Began opened unit new
  began_then b g = record { first = b.first; is = b.is; continues = continues_then b.continues g }

  -- so it is with a call that changes nothing where it is refused
  pub began_call : {A E : Type 0} {opened : List (Book D)} {unit : ℕ} {old : Book D} (r : Result A E) {Done : A → Type 0} (new : Book D) →
      Began opened unit old → IfOk r Done → OnErr r (new ≡ old) → ((a : A) → Done a → Continues old new) → Began opened unit new
  began_call r new began done refused goes = began_then began (either_way r done refused goes continues_same)

  -- a call that adds no entry
  pub continues_again : {old new : Book D} (again : Bool) → new ≡ record old { awaits = again; spare = new.spare } → Continues old new
  continues_again again same = record {
    mounted = ap (λ (b : Book D). b.mounted) same;
    isc = ap (λ (b : Book D). b.isc) same;
    capacity = ap (λ (b : Book D). b.capacity) same;
    later = [];
    grew = ap (λ (b : Book D). b.trace) same;
  }

  -- a value that is taken out
  pub continues_out : {old new : Book D} (out : List PostedState) → new ≡ record old { out = out } → Continues old new
  continues_out out same = record {
    mounted = ap (λ (b : Book D). b.mounted) same;
    isc = ap (λ (b : Book D). b.isc) same;
    capacity = ap (λ (b : Book D). b.capacity) same;
    later = [];
    grew = ap (λ (b : Book D). b.trace) same;
  }

  pub continues_adds : {old new : Book D} (e : Entry) → Adds old e new → Continues old new
  continues_adds e same = record {
    mounted = ap (λ (b : Book D). b.mounted) same;
    isc = ap (λ (b : Book D). b.isc) same;
    capacity = ap (λ (b : Book D). b.capacity) same;
    later = e ∷ [];
    grew = ap (λ (b : Book D). b.trace) same;
  }

  -- settling
  pub continues_served : {old new : Book D} → new.mounted ≡ old.mounted → new.isc ≡ old.isc → new.capacity ≡ old.capacity →
      AddsService old.trace new.trace → Continues old new
  continues_served mounted isc capacity adds =
      record { mounted = mounted; isc = isc; capacity = capacity; later = adds.later; grew = adds.is }

  module _ (meaning : Meaning D) where
    continues_extends : {old new : Book D} {H : List Entry} {again : Bool} → Longer old.trace H → Extends meaning old H again new →
        Continues old new
    continues_extends longer same = record {
      mounted = ap (λ (b : Book D). b.mounted) same;
      isc = ap (λ (b : Book D). b.isc) same;
      capacity = ap (λ (b : Book D). b.capacity) same;
      later = longer.later;
      grew = ap (λ (b : Book D). b.trace) same ∙ longer.is;
    }

    -- an entry, and the posts of what it dooms
    pub continues_dooms : {old new : Book D} {again : Bool} (e : Entry) → Extends meaning old (after_dooms (e ∷ old.trace)) again new →
        Continues old new
    continues_dooms {old = old} e same = continues_extends (longer_dooms e old.trace) same

    pub continues_opens : {old new : Book D} {dcb : ℕ} {method : ProcessingMethod} {extents : List Extent} →
        OpensBook meaning old dcb method extents new → Continues old new
    continues_opens {dcb = dcb} {method = method} {extents = extents} h = continues_adds (Opened dcb method extents) h.adds

    pub continues_starts : {old new : Book D} (answer : Starting) → StartsBook meaning old answer new → Continues old new
    continues_starts starting.Busy h = continues_same h.2
    continues_starts starting.Idle h = continues_same h.2
    continues_starts (starting.Started n) h = record {
      mounted = ap (λ (b : Book D). b.mounted) h.1;
      isc = ap (λ (b : Book D). b.isc) h.1;
      capacity = ap (λ (b : Book D). b.capacity) h.1;
      later = Start n ∷ [];
      grew = ap (λ (b : Book D). b.trace) h.1;
    }
    continues_starts (starting.Violated n) h = continues_dooms (Post n no_status 0 ExtentViolated) h.1

    pub continues_runs : {old new : Book D} (max : ℕ) (answer : Running) → RunsBook meaning old max answer new → Continues old new
    continues_runs max running.Quiet h = continues_same h.1
    continues_runs max (running.Ran commands pending) h = continues_adds (Ran h.name commands) h.adds

    pub continues_interrupts : {old new : Book D} (answer : Interruption) → InterruptsBook meaning old answer new → Continues old new
    continues_interrupts interrupting.Quiet h = continues_same h.1
    continues_interrupts (interrupting.Again n) h = continues_again true h.2
    continues_interrupts (interrupting.Ended n code) h = continues_dooms (Post n h.1.status.csw h.1.status.sense code) h.1.extends

    longer_purge : (mounted : D) (scope : Scope) (mode : Mode) (H : List Entry) → Longer H (after_purge meaning mounted scope mode H)
    longer_purge mounted scope mode H =
        let G = Purge scope mode ∷ H in
        let K = halted_by (due meaning mounted G) G in
        longer_more (longer_one (Purge scope mode) H) (longer_more (longer_halted (due meaning mounted G) G) (longer_posts (doomed K) K))

    pub continues_purges : {old new : Book D} {scope : Scope} {mode : Mode} {answer : Purging} → PurgesBook meaning old scope mode answer new →
        Continues old new
    continues_purges {old = old} {new = new} {scope = scope} {mode = mode} h = by_test (covers_awaiting old scope mode) h.purges where
      purged : Longer old.trace (after_purge meaning old.mounted scope mode old.trace)
      purged = longer_purge old.mounted scope mode old.trace

      by_test : (b : Bool) → PurgesBy meaning b old scope mode new → Continues old new
      by_test false p = continues_extends purged p
      by_test true p = continues_extends (longer_more purged (longer_one (Post p.name p.status.csw p.status.sense Purged) _)) p.extends

    pub continues_closes : {old new : Book D} {dcb : ℕ} {answer : Closing} → ClosesBook meaning old dcb answer new → Continues old new
    continues_closes {old = old} {new = new} {dcb = dcb} h = by_test (is_open dcb old.trace) h.closes where
      by_test : (b : Bool) → ClosesBy meaning b old dcb new → Continues old new
      by_test true p = continues_dooms (Close dcb) p
      by_test false p = continues_same p
