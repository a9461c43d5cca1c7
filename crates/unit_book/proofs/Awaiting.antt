-- A purge with Halt that covers the active request, which awaits its restart: what waits is posted first, then it.
use Rattle.unit_book.proofs.Names.{BookFields, ◌≡◌, true, false, not, Option, Some, None, List, [], ◌∷◌, ◌++◌, append_assoc}
use Rattle.unit_book.proofs.Names.{map, refl, sym, ap, ◌∙◌, filter, is_some, Status, Purged, Meaning, Channel, Phase, Idle, Pending, Retry}
use Rattle.unit_book.proofs.Names.{PostedState, Name, Piece, covers, Scope, Active, Standing, OnChannel, AwaitsRestart, Dcb, Mode, Entry}
use Rattle.unit_book.proofs.Names.{Purge, Post, waiting, active, is_halt, doomed, active_phase, HasEnded, due, Free, doomed_first, CanPurge}
use Rattle.unit_book.proofs.Names.{PostsActive, all_posted, after_dooms, purged, posted, posted_since, posted_value, running_name_by}
use Rattle.unit_book.proofs.Names.{after_purge, halted_by, awaits_by, dcb_at, StandingTies, Ties, noted, arith}
use Rattle.unit_book.specs.Legal.{verdict_of}
use Rattle.unit_book.specs.Fields.{kept_by, after_cover}
use Rattle.unit_book.proofs.Lists.{without}
use Rattle.unit_book.proofs.Dooms.{due-doomed, due-no_halt, doomed-purged, halted-first, Swept, without_all, ties-dooms, since-is}
use Rattle.unit_book.proofs.Controls.{doomed-purge, ties-purge, halts-none}
use Rattle.unit_book.proofs.ActivePosts.{ties-post, value-is}
use Rattle.std.proofs.lemmas.Grind.{common_steps}

noted-nothing : (o : Option Dcb) → noted false o ≡ o
noted-nothing v0 = grind (arith, common_steps)

-- what awaits its restart keeps its status
again-is : (d : Standing) → awaits_by d ≡ true → d ≡ AwaitsRestart (kept_by d)
again-is v0 h = grind (arith, common_steps)

module _ {D : Type 0} (meaning : Meaning D) (mounted : D) where
  -- a status that is kept here stands on no channel
  record Kept (H : List Entry) (phase : Phase) (a : Active) (status : Status) : Type 0 where
    idle : phase ≡ Idle
    ended : active_phase meaning mounted a.piece.value.name H ≡ HasEnded status
    retry : verdict_of meaning mounted a.piece.value.name status H ≡ Retry

  kept-by : (H : List Entry) (phase : Phase) (a : Active) (status : Status) →
      StandingTies meaning mounted H phase a (AwaitsRestart status) → Kept H phase a status
  kept-by v0 v1 a status d = grind (arith, common_steps)

  -- what a purge finds that covers the active request, which awaits its restart
  pub record FoundAwaiting (H : List Entry) (a : Active) (scope : Scope) (mode : Mode) : Type 0 where
    pub settled : due meaning mounted H ≡ Free
    pub can : CanPurge meaning mounted scope H
    pub halts : is_halt mode ≡ true
    pub again : awaits_by a.standing ≡ true
    pub covered : covers scope a.piece.value ≡ true

  module _ {held : BookFields D} {a : Active}
      {scope : Scope} {mode : Mode}
      (t : Ties meaning mounted held (Some a)) (found : FoundAwaiting held.trace a scope mode) where
    abbrev status : Status
    status = kept_by a.standing

    settled : due meaning mounted held.trace ≡ Free
    settled = found.settled

    standing : a.standing ≡ AwaitsRestart status
    standing = again-is a.standing found.again

    abbrev n : Name
    n = a.piece.value.name

    -- the request as if its status were pending
    abbrev pending_channel : Channel D
    pending_channel = record held.channel { phase = Pending status }

    abbrev pending_active : Active
    pending_active = record a { standing = OnChannel }

    kept : Kept held.trace held.channel.phase a status
    kept = grind (arith, common_steps, kept-by, standing)

    unhalted : a.halted ≡ false
    unhalted = grind (arith, common_steps)

    pending-ties : Ties meaning mounted (record held { channel = pending_channel }) (Some pending_active)
    pending-ties = grind (arith, common_steps)

    -- the purge
    abbrev P : List Entry
    P = Purge scope mode ∷ held.trace

    abbrev after : Active
    after = after_cover scope mode pending_active

    purge-ties : Ties meaning mounted (record held { trace = P; channel = pending_channel }) (Some after)
    purge-ties = ties-purge scope mode settled found.can (grind (arith, common_steps))
        pending-ties

    -- nothing runs that it could halt
    none-runs : is_some (running_name_by meaning mounted held.trace (active held.trace)) ≡ false
    none-runs = let e = t.activity.is in let s = kept.ended in rw (e, s) refl

    due-is : due meaning mounted P ≡ doomed_first (doomed P)
    due-is = halts-none meaning mounted scope mode held.trace none-runs

    -- the dooms
    abbrev swept : List Piece
    swept = filter (covers scope) held.waiting

    abbrev pub S : List Entry
    S = all_posted swept P

    abbrev pub rest : List Piece
    rest = filter (λ r. not (covers scope r)) held.waiting

    doomed-is : doomed P ≡ filter (covers scope) (waiting P)
    doomed-is = doomed-purge scope mode held.trace (due-doomed meaning mounted held.trace settled)

    dooms : Swept meaning mounted swept (record held { trace = P; channel = pending_channel }) (Some after)
        × (without_all swept held.waiting ≡ rest)
        × (S ≡ after_dooms P)
    dooms = ties-dooms meaning mounted (covers scope) doomed-is due-is purge-ties

    abbrev pub posted_before : List PostedState
    posted_before = held.out ++ map purged swept

    swept-ties : Ties meaning mounted (record held { trace = S; channel = pending_channel; waiting = rest; out = posted_before })
        (Some after)
    swept-ties = grind (arith, common_steps, dooms)

    pub after-is : after_purge meaning mounted scope mode held.trace ≡ S
    after-is = ap (λ d. after_dooms (halted_by d P)) due-is ∙ ap after_dooms (halted-first (doomed P) P) ∙ sym dooms.2

    pub fits-purged : PostsActive meaning mounted n status Purged S
    fits-purged = grind (arith, common_steps, swept-ties, kept)

    abbrev pub value : PostedState
    value = posted_value a.piece.value status.csw status.sense Purged a.piece.value.area

    -- THE WHOLE PURGE: the fields stay those of the trace
    pub ties-awaiting : Ties meaning mounted (record held {
      trace = Post n status.csw status.sense Purged ∷ S;
      waiting = rest;
      out = posted_before ++ value ∷ [];
    }) None
    ties-awaiting =
        let k = ties-post dooms.0.settled swept-ties fits-purged (λ d. sym (noted-nothing (dcb_at held.dcbs d))) refl in
        grind (arith, common_steps, value, kept)

    pub settled-awaiting : due meaning mounted (Post n status.csw status.sense Purged ∷ S) ≡ Free
    unfolding without
    settled-awaiting = grind (arith, common_steps, due-no_halt, doomed-purged, due-doomed, dooms)

    pub since-awaiting : posted_since meaning mounted held.trace (Post n status.csw status.sense Purged ∷ S) ≡ map purged swept
        ++ value ∷ []
    unfolding posted
    since-awaiting =
        let v = value-is dooms.0.settled swept-ties fits-purged in grind (arith, common_steps, since-is, swept, value, dooms, append_assoc)
