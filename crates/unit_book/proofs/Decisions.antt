-- What becomes of the active request when its status is taken.
use Rattle.unit_book.proofs.Names.{BookFields, ◌≡◌, Bool, ℕ, true, false, Option, Some, None, refl, sym, ap, ◌∙◌, Status, Code, Purged}
use Rattle.unit_book.proofs.Names.{Meaning, Kind, Phase, Idle, Retry, Final, verdict, Name, Active, Standing, AwaitsRestart, active}
use Rattle.unit_book.proofs.Names.{request_named, is_covered, HasEnded, active_phase, PostsActive, WithVerdict, StartsAgain}
use Rattle.unit_book.proofs.Names.{StandingTies, Ties, awaits_by, pending_phase, arith}
use Rattle.subchannel.specs.Subchannel.{status_of, tested_phase}
use Rattle.recovery.specs.declared.answer.Verdict.{Verdict}
use Rattle.unit_book.specs.Legal.{verdict_of, PostsAs, WhileCovered, AfterHalt}
use Rattle.unit_book.specs.Book.{pending_by}
use Rattle.unit_book.specs.Fields.{pending_code, ended_code}
use Rattle.std.proofs.lemmas.Grind.{common_steps}

module _ {D : Type 0} (meaning : Meaning D) (mounted : D) where
  module _ {held : BookFields D} {a : Active}
      {status : Status}
      (t : Ties meaning mounted held (Some a)) (pending : status_of held.channel.phase ≡ Some status) where
    abbrev n : Name
    n = a.piece.value.name

    pending-phase : (phase : Phase) (standing : Standing) → StandingTies meaning mounted held.trace phase a standing →
        status_of phase ≡ Some status →
        (active_phase meaning mounted n held.trace ≡ pending_phase a.halted status) × (awaits_by standing ≡ false)
    pending-phase v0 standing d h = grind (arith, common_steps)

    phase-is : active_phase meaning mounted n held.trace ≡ pending_phase a.halted status
    phase-is = (pending-phase held.channel.phase a.standing t.activity.standing pending).0

    -- it is posted
    ended-as : (v : Verdict) (covered : Bool) {code : Code} → verdict_of meaning mounted n status held.trace ≡ v →
        is_covered (request_named n held.trace) held.trace ≡ covered → active_phase meaning mounted n held.trace ≡ HasEnded status →
        ended_code v covered ≡ Some code → PostsAs meaning mounted n status code held.trace
    ended-as (Final c) covered {code} v k e h = let i : c ≡ code = cc in WithVerdict e (v ∙ ap Final i)
    ended-as Retry true {code} v k e h = let i : Purged ≡ code = cc in WhileCovered e v k (sym i)
    ended-as Retry false v k e h = absurd cc

    posts-as : (halted : Bool) (code : Code) → a.halted ≡ halted → pending_code (meaning.kind mounted) status a.starts halted a.covered
        ≡ Some code → PostsAs meaning mounted n status code held.trace
    posts-as true code b h = let i : Purged ≡ code = cc in AfterHalt (phase-is ∙ ap (λ x. pending_phase x status) b) (sym i)
    posts-as false code b h =
        ended-as (verdict (meaning.kind mounted) status.csw status.sense a.starts) a.covered
        (ap (verdict (meaning.kind mounted) status.csw status.sense) (sym t.activity.starts)) (sym t.activity.covered)
        (phase-is ∙ ap (λ x. pending_phase x status) b) h

    pub decides-post : (code : Code) → pending_code (meaning.kind mounted) status a.starts a.halted a.covered ≡ Some code →
        PostsActive meaning mounted n status code held.trace
    decides-post code h = record { active = t.activity.is; as_ended = posts-as a.halted code refl h }

    none-code : (v : Verdict) (covered : Bool) → ended_code v covered ≡ None → (v ≡ Retry) × (covered ≡ false)
    none-code v0 v1 h = grind (arith, common_steps)

    none-pending : (kind : Kind) (starts : ℕ) (halted covered : Bool) → pending_code kind status starts halted covered ≡ None →
        (halted ≡ false) × (verdict kind status.csw status.sense starts ≡ Retry) × (covered ≡ false)
    none-pending kind starts true covered h = absurd cc
    none-pending kind starts false covered h = let n = none-code (verdict kind status.csw status.sense starts) covered h in (refl, n.0, n.1)

    -- it is to be tried again
    pub decides-ended : pending_code (meaning.kind mounted) status a.starts a.halted a.covered ≡ None →
        active_phase meaning mounted n held.trace ≡ HasEnded status
    decides-ended h = grind (arith, common_steps)

    pub decides-again : pending_code (meaning.kind mounted) status a.starts a.halted a.covered ≡ None →
        StartsAgain meaning mounted n held.trace
    decides-again h = grind (arith, common_steps, none-pending, decides-ended)

  -- AWAITING ITS RESTART: no entry
  module _ {held : BookFields D} {a : Active}
      {status : Status}
      (t : Ties meaning mounted held (Some a)) (s : StartsAgain meaning mounted a.piece.value.name held.trace)
      (e : active_phase meaning mounted a.piece.value.name held.trace ≡ HasEnded status) where
    abbrev pub awaiting : Active
    awaiting = record a { standing = AwaitsRestart status }

    awaits : StandingTies meaning mounted held.trace Idle awaiting (AwaitsRestart status)
    awaits = grind (arith, common_steps)

    pub ties-await : Ties meaning mounted (record held { channel = record held.channel { phase = tested_phase held.channel.phase } })
        (Some awaiting)
    ties-await = grind (arith, common_steps, awaits)

  -- what `decide` tells
  module _ {held : BookFields D} {a : Active}
      {status : Status}
      (t : Ties meaning mounted held (Some a)) (pending : status_of held.channel.phase ≡ Some status) where
    pub decided_pending : pending_by meaning mounted held.trace (awaits_by a.standing) (active held.trace) ≡ true
    decided_pending = grind (arith, common_steps)

    abbrev pub DecidedAs : Option Code → Type 0
    DecidedAs (Some code) = PostsActive meaning mounted a.piece.value.name status code held.trace
    DecidedAs None = StartsAgain meaning mounted a.piece.value.name held.trace
        × (active_phase meaning mounted a.piece.value.name held.trace ≡ HasEnded status)

    pub decided : (code : Option Code) → pending_code (meaning.kind mounted) status a.starts a.halted a.covered ≡ code → DecidedAs code
    decided (Some code) h = decides-post t pending code h
    decided None h = (decides-again t pending h, decides-ended t pending h)
