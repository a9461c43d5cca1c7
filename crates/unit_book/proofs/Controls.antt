-- A purge, a halt, a close and a reset: what they doom, and that the fields stay those of the trace.
use Rattle.unit_book.proofs.Names.{BookFields, ◌≡◌, ℕ, ◌≤◌, true, false, not, ◌&&◌, Option, Some, None, List, [], ◌∷◌, length}
use Rattle.unit_book.proofs.Names.{refl, ap, ◌∙◌, eqb, is_some, Meaning, Phase, Running, Name, covers}
use Rattle.unit_book.proofs.Names.{Scope, Active, Standing, OnChannel, Mode, Entry, Halted, Purge, Close, Reset, waiting, arrivals, active}
use Rattle.unit_book.proofs.Names.{started, request_named, is_halt, doomed, is_doomed, is_open, flag, extents_of}
use Rattle.unit_book.proofs.Names.{attempts, current, Legal, Free, due, doomed_first, CanPurge, posted, DoomedBy, active_of, covered_by}
use Rattle.unit_book.proofs.Names.{awaits_by, ActivityTies, StandingTies, Ties, Place, Quiesce}
use Rattle.unit_book.proofs.Names.{Halt, active_phase, still_runs, ToHalt, is_to_halt, running_name_by, dcb_at, arith}
use Rattle.request_piece.specs.declared.scope.Scope.TheVariants.{Dcb}
use Rattle.unit_book.specs.declared.dcb.Dcb.{Dcb as Row}
use Rattle.unit_book.specs.Selected.{is_selected}
use Rattle.unit_book.specs.Fields.{ActiveTies, after_cover, shut, unflagged}
use Rattle.subchannel.specs.Subchannel.{halted_phase}
use Rattle.unit_book.specs.Controls.{due_after}
use Rattle.unit_queue.specs.declared.selection.Selection.TheVariants as selection
use Rattle.unit_book.proofs.Dooms.{none-pass, filter-agree, filter-never, due-doomed, due-no_halt, length-filter_le}
use Rattle.unit_book.proofs.Lists.{same-refl}
use Rattle.unit_book.proofs.Facts.{due-halt}
use Rattle.std.proofs.lemmas.Grind.{common_steps}

-- WHAT A PURGE DOOMS: what it covers of that which waits
pub doomed-purge : (scope : Scope) (mode : Mode) (H : List Entry) → doomed H ≡ [] →
    DoomedBy (Some (selection.Scope scope)) (Purge scope mode ∷ H)
unfolding waiting arrivals flag
doomed-purge scope mode H e =
    let G = Purge scope mode ∷ H in
    filter-agree (is_doomed G) (is_selected (Some (selection.Scope scope))) (λ r. not (is_doomed H r))
    (λ r h. grind (arith, common_steps)) (waiting H)
    (none-pass (is_doomed H) (waiting H) e)

-- A CLOSE DOOMS what waits of its DCB
pub doomed-close : (d : ℕ) (H : List Entry) → doomed H ≡ [] → DoomedBy (Some (selection.Scope (Dcb d))) (Close d ∷ H)
unfolding waiting arrivals flag
doomed-close d H e =
    let G = Close d ∷ H in
    filter-agree (is_doomed G) (is_selected (Some (selection.Scope (Dcb d)))) (λ r. not (is_doomed H r))
    (λ r h. grind (arith, common_steps)) (waiting H)
    (none-pass (is_doomed H) (waiting H) e)

-- A RESET DOOMS nothing
-- as many are doomed as wait, at most
pub doomed-some : (H : List Entry) → length (doomed H) ≤ length (waiting H)
doomed-some H = length-filter_le (is_doomed H) (waiting H)

module _ {D : Type 0} (meaning : Meaning D) (mounted : D) where
  pub settled-reset : (d : ℕ) (H : List Entry) → due meaning mounted H ≡ Free → due meaning mounted (Reset d ∷ H) ≡ Free
  unfolding waiting arrivals flag
  settled-reset d H h =
      let G = Reset d ∷ H in
      let all = none-pass (is_doomed H) (waiting H) (due-doomed meaning mounted H h) in
      let same = filter-agree (is_doomed G) (λ r. false) (λ r. not (is_doomed H r))
      (λ r h. grind (arith, common_steps)) (waiting H) all in
      due-no_halt meaning mounted G (λ n a. refl) ∙ ap doomed_first (same ∙ filter-never (waiting H))

  module _ {H : List Entry} (scope : Scope) (mode : Mode) where
    -- whether the purge covers what awaits its restart, by the piece
    pub awaiting-is : {phase : Phase} {a : Active} → ActiveTies meaning mounted H phase a →
        is_halt mode && awaits_by a.standing && covers scope a.piece.value
        ≡ (is_halt mode && awaits_by a.standing && is_some (active_of scope H))
    awaiting-is {a = a} t = grind (arith, common_steps)

    uncovered : {phase : Phase} {a : Active} (standing : Standing) → ActiveTies meaning mounted H phase a →
        is_halt mode && awaits_by standing && is_some (covered_by scope H (Some a.piece.value.name)) ≡ false →
        awaits_by standing ≡ true → covers scope a.piece.value && is_halt mode ≡ false
    uncovered {a = a} standing t h e = grind (arith, common_steps)

    active-purge : {phase : Phase} {a : Active} → ActiveTies meaning mounted H phase a →
        (awaits_by a.standing ≡ true → covers scope a.piece.value && is_halt mode ≡ false) →
        ActiveTies meaning mounted (Purge scope mode ∷ H) phase (after_cover scope mode a)
    unfolding attempts request_named active started
    active-purge {phase} {a} t u = grind (arith, common_steps)

module _ {D : Type 0} {meaning : Meaning D} {mounted : D} (scope : Scope) (mode : Mode) {held : BookFields D}
    (settled : due meaning mounted held.trace ≡ Free)
    (can : CanPurge meaning mounted scope held.trace) where
  with-activity : {old new : Option Active} → Ties meaning mounted held old →
      ActivityTies meaning mounted (Purge scope mode ∷ held.trace) held.channel.phase new →
      Ties meaning mounted (record held { trace = Purge scope mode ∷ held.trace }) new
  unfolding Legal waiting arrivals request_named attempts extents_of flag posted
  with-activity t k = grind (arith, common_steps)

  pub ties-purge_none : Ties meaning mounted held None →
      Ties meaning mounted (record held { trace = Purge scope mode ∷ held.trace }) None
  unfolding active started
  ties-purge_none t = with-activity t t.activity

  pub ties-purge : {a : Active} → is_halt mode && awaits_by a.standing && is_some (active_of scope held.trace) ≡ false →
      Ties meaning mounted held (Some a) →
      Ties meaning mounted (record held { trace = Purge scope mode ∷ held.trace }) (Some (after_cover scope mode a))
  ties-purge {a} h t =
      let h' = rw t.activity.is at h in
      with-activity t (active-purge meaning mounted scope mode t.activity
      (λ e. uncovered meaning mounted scope mode a.standing t.activity h' e))

-- A halt, a close and a reset: the fields stay those of the trace.

module _ {D : Type 0} (meaning : Meaning D) (mounted : D) where
  -- WHOM A PURGE HALTS
  pub quiesces : (scope : Scope) (H : List Entry) →
      due meaning mounted (Purge scope Quiesce ∷ H) ≡ doomed_first (doomed (Purge scope Quiesce ∷ H))
  quiesces scope H = due-no_halt meaning mounted (Purge scope Quiesce ∷ H) (λ n a. refl)

  -- none, if no program runs
  pub halts-none : (scope : Scope) (mode : Mode) (H : List Entry) → is_some (running_name_by meaning mounted H (active H)) ≡ false →
      due meaning mounted (Purge scope mode ∷ H) ≡ due_after None (doomed (Purge scope mode ∷ H))
  unfolding active started attempts request_named
  halts-none scope v1 v2 g = grind (arith, common_steps, due-no_halt)

  -- the one that it covers, if its program runs
  pub halts-active : (scope : Scope) (H : List Entry) → is_some (running_name_by meaning mounted H (active H)) ≡ true →
      due meaning mounted (Purge scope Halt ∷ H) ≡ due_after (active_of scope H) (doomed (Purge scope Halt ∷ H))
  unfolding due active started attempts request_named
  halts-active scope H g = grind (arith, common_steps)

  -- what is to be halted has a program that runs
  to-halt : (H : List Entry) (n : Name) → is_to_halt meaning mounted H n ≡ true → still_runs (active_phase meaning mounted n H) ≡ true
  to-halt v0 n h = grind (arith, common_steps)

  -- A HALT
  module _ {held : BookFields D} {a : Active}
      (d : due meaning mounted held.trace ≡ ToHalt a.piece.value.name) (t : Ties meaning mounted held (Some a)) where
    abbrev n : Name
    n = a.piece.value.name

    abbrev G : List Entry
    G = Halted n ∷ held.trace

    -- where a program goes
    record Going (phase : Phase) (standing : Standing) : Type 0 where
      place : Place
      phase_is : phase ≡ Running place
      place_is : place ≡ (current meaning mounted held.trace).place
      standing_is : standing ≡ OnChannel

    runs : (phase : Phase) (standing : Standing) → still_runs (active_phase meaning mounted n held.trace) ≡ true →
        StandingTies meaning mounted held.trace phase a standing → Going phase standing
    runs v0 v1 g k = grind (arith, common_steps)

    stopped : Active
    stopped = record a { halted = true }

    standing-halt : (phase : Phase) (standing : Standing) → Going phase standing →
        StandingTies meaning mounted G (halted_phase phase) (record a { halted = true }) standing
    unfolding attempts
    standing-halt phase standing k = grind (arith, common_steps)

    pub ties-halt : Ties meaning mounted (record held {
      trace = G;
      channel = record held.channel { phase = halted_phase held.channel.phase };
    }) (Some (record a { halted = true }))
    unfolding Legal waiting arrivals active started request_named attempts extents_of flag posted
    ties-halt =
        let s = same-refl n in
        let goes = to-halt held.trace n (due-halt meaning mounted held.trace n d).1 in
        let standing' = standing-halt held.channel.phase a.standing (runs held.channel.phase a.standing goes t.activity.standing) in
        grind (arith, common_steps)

module _ {D : Type 0} {meaning : Meaning D} {mounted : D} {held : BookFields D} {o : Option Active} {c : ℕ}
    (settled : due meaning mounted held.trace ≡ Free) (opened : is_open c held.trace ≡ true) (t : Ties meaning mounted held o) where
  pub ties-close : {new : List Row} → ((d : ℕ) → dcb_at new d ≡ shut (eqb c d) (dcb_at held.dcbs d)) → length new ≡ length held.dcbs →
      Ties meaning mounted (record held { trace = Close c ∷ held.trace; dcbs = new }) o
  unfolding Legal waiting arrivals active started request_named attempts extents_of flag posted
  ties-close rows count = grind (arith, common_steps)

  pub ties-reset : {new : List Row} → ((d : ℕ) → dcb_at new d ≡ unflagged (eqb c d) (dcb_at held.dcbs d)) → length new
      ≡ length held.dcbs →
      Ties meaning mounted (record held { trace = Reset c ∷ held.trace; dcbs = new }) o
  unfolding Legal waiting arrivals active started request_named attempts extents_of flag posted
  ties-reset rows count = grind (arith, common_steps)
