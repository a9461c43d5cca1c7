-- A further start of the active request: the fields stay those of the trace.
use Rattle.unit_book.proofs.Names.{BookFields, ◌≡◌, ℕ, ◌+◌, ◌≤◌, true, false, Some, ◌∷◌, refl, sym, ap, ◌∙◌, arith, Csw, Meaning}
use Rattle.unit_book.proofs.Names.{Kind, Program, Phase, Idle, Running, Pending, ssch_started, Retry, verdict, Name, Piece, Active}
use Rattle.unit_book.proofs.Names.{Standing, OnChannel, AwaitsRestart, Start, same, request_named, extents_of, flag, mask_of}
use Rattle.unit_book.proofs.Names.{current, device, Legal, due, Free, StartsAgain, posted, StandingTies, Ties, awaits_by, dcb_at, mask_at}
use Rattle.device_port.specs.Meaning.{Lawful}
use Rattle.ccw_programs.specs.Place.{start_place}
use Rattle.subchannel.specs.Subchannel.{TakesSeek, prefixed}
use Rattle.unit_book.specs.Legal.{Again as Restart}
use Rattle.unit_book.proofs.Lists.{same-refl}
use Rattle.unit_book.proofs.Facts.{NewestIs, active-is, active-start, waiting-start, without-started}
use Rattle.unit_book.proofs.LegalFacts.{facts}
use Rattle.unit_book.proofs.Same.{fits-free}
use Rattle.unit_book.proofs.ActivePosts.{area-current}
use Rattle.unit_book.proofs.Seeks.{seeks, fits-device}
use Rattle.unit_book.proofs.Starts.{mask-is, current-start, device-start}
use Rattle.std.proofs.lemmas.Grind.{common_steps}

-- only the first ten attempts are tried again
pub retry-few : (kind : Kind) (csw : Csw) (sense attempt : ℕ) → verdict kind csw sense attempt ≡ Retry → attempt ≤ 10
retry-few kind csw sense attempt h = grind (arith, common_steps)

-- the active request, started once more
abbrev pub restarted : Active → Active
restarted a = record { piece = a.piece; starts = a.starts + 1; halted = false; covered = false; standing = OnChannel }

module _ {D : Type 0} (meaning : Meaning D) (mounted : D) where
  -- what a further start finds: the active request awaits it
  pub record FoundAgain (held : BookFields D) (a : Active) : Type 0 where
    pub ties : Ties meaning mounted held (Some a)
    pub settled : due meaning mounted held.trace ≡ Free
    pub again : awaits_by a.standing ≡ true

  module _ {held : BookFields D} {a : Active}
      (found : FoundAgain held a) where
    t : Ties meaning mounted held (Some a)
    t = found.ties

    abbrev n : Name
    n = a.piece.value.name

    is-idle : (phase : Phase) (standing : Standing) → StandingTies meaning mounted held.trace phase a standing → awaits_by standing ≡ true →
        phase ≡ Idle
    is-idle v0 standing d h = grind (arith, common_steps)

    -- it may be started again
    pub may-restart : StartsAgain meaning mounted n held.trace
    may-restart = by_standing held.channel.phase a.standing t.activity.standing found.again where
      by_standing : (phase : Phase) (standing : Standing) → StandingTies meaning mounted held.trace phase a standing → awaits_by standing
          ≡ true →
          StartsAgain meaning mounted n held.trace
      by_standing Idle (AwaitsRestart status) d h = record {
        active = t.activity.is;
        status = status;
        ended = d.0;
        retry = d.1;
        free = d.2;
      }
      by_standing (Running place) OnChannel d h = absurd cc
      by_standing (Pending status) OnChannel d h = absurd cc
      by_standing _ _ d h = absurd d

    -- it was started at most ten times
    pub few-starts : a.starts ≤ 10
    few-starts = grind (arith, common_steps)

    -- its seek fits the device
    pub restart-fits : Lawful meaning → TakesSeek meaning held.channel.device a.piece.value.seek
    restart-fits law =
        grind (arith, common_steps, seeks meaning mounted held.trace t.legal n (active-is n held.trace t.activity.is).0, fits-device)

    pub ties-restart : {mask : ℕ} → mask ≡ mask_at (dcb_at held.dcbs a.piece.value.dcb) →
        Ties meaning mounted (record held {
          trace = Start n ∷ held.trace;
          channel = ssch_started meaning held.channel a.piece.value.start a.piece.value.seek mask held.channel.phase;
        })
        (Some (restarted a))
    unfolding Legal posted flag extents_of request_named
    ties-restart {mask} mask_is =
        let f = facts meaning mounted held.trace t.legal in
        let G = Start n ∷ held.trace in
        let q = request_named n held.trace in
        let r = a.piece.value in
        let w : NewestIs n held.trace = f.4 n t.activity.is in
        let self : same n n ≡ true = same-refl n in
        let start_is : r.start ≡ q.start = ap (λ (r : Piece). r.start) t.activity.request in
        let seek_is : r.seek ≡ q.seek = ap (λ (r : Piece). r.seek) t.activity.request in
        let dcb_is : r.dcb ≡ q.dcb = ap (λ (r : Piece). r.dcb) t.activity.request in
        let m : mask ≡ mask_of q.dcb held.trace = mask_is ∙ ap mask_at (t.dcbs r.dcb) ∙ mask-is r.dcb held.trace
        ∙ ap (λ d. mask_of d held.trace) dcb_is in
        let c = current-start meaning mounted n held.trace in
        let device_is : prefixed meaning held.channel.device r.seek mask ≡ Some (device meaning mounted G) = rw (t.device, m, seek_is)
        (ap Some (sym (device-start meaning mounted n held.trace))) in
        let area_is : (current meaning mounted G).area ≡ (current meaning mounted held.trace).area = ap (λ (p : Program D). p.area) c
        ∙ area-current meaning mounted n held.trace w in
        let idle = is-idle held.channel.phase a.standing t.activity.standing found.again in
        rw idle (record {
          legal = (fits-free meaning mounted (Start n) held.trace found.settled (Restart may-restart), t.legal);
          queue = t.queue ∙ sym (waiting-start n held.trace ∙ without-started n held.trace f (active-is n held.trace t.activity.is).0);
          placed = t.placed;
          device = device_is;
          activity = record {
            is = active-start n held.trace (active-is n held.trace t.activity.is).1;
            request = t.activity.request ∙ ap (λ m. record q { area = m }) (sym area_is);
            placed = t.activity.placed;
            starts = let e = t.activity.starts in rw self (omega (arith, e));
            halted = rw self refl;
            covered = let e = w.4 in rw (e, self) refl;
            standing = (ap start_place start_is ∙ sym (ap (λ (p : Program D). p.place) c), rw self (rw c refl));
          };
          count = t.count;
          dcbs = t.dcbs;
          out = t.out;
        })
