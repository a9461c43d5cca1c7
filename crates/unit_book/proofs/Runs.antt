-- The program of the active request runs: the fields stay those of the trace.
use Rattle.unit_book.proofs.Names.{BookFields, ◌≡◌, ℕ, ◌≤◌, true, false, Some, None, List, ◌∷◌, refl, sym, ap, ◌∙◌, arith, subst, Storage}
use Rattle.unit_book.proofs.Names.{Meaning, State, Program, after, length_of, is_running, Channel, Phase, Running, Piece, Name, Active}
use Rattle.unit_book.proofs.Names.{Standing, OnChannel, AwaitsRestart, Entry, Ran, waiting, arrivals, active, started, request_named}
use Rattle.unit_book.proofs.Names.{is_halted, attempts, stand, newest, current, active_phase, still_runs, StillRunning, device, extents_of}
use Rattle.unit_book.proofs.Names.{flag, Legal, due, Free, posted, running_name_by, StandingTies, Ties}
use Rattle.std.specs.Prelude.{min}
use Rattle.io_area.specs.Storage.{SamePlace}
use Rattle.ccw_programs.specs.declared.context.Burst.{Burst}
use Rattle.ccw_programs.proofs.StepLaws.{after-add, steps_within-running}
use Rattle.subchannel.specs.Subchannel.{phase_of, running_program, RunsAs, RunsFrom}
use Rattle.unit_book.specs.Fields.{with_area}
use Rattle.unit_book.proofs.Facts.{NewestIs}
use Rattle.unit_book.proofs.LegalFacts.{facts, newest-ran}
use Rattle.unit_book.proofs.Same.{fits-free, placed-moved}
use Rattle.unit_book.specs.Legal.{RanFits}
use Rattle.std.proofs.lemmas.Grind.{common_steps}

-- a burst of the program of the active request
pub record Bursts {D : Type 0} (meaning : Meaning D) (channel : Channel D) (a : Active) : Type 0 where
  pub new : Channel D
  pub max : ℕ
  pub burst : Burst
  pub area : Storage
  pub asked : 1 ≤ max
  pub runs : RunsAs meaning channel a.piece.value.area max (running_program channel.device channel.phase a.piece.value.area)
      (Some burst) new area

module _ {D : Type 0} (meaning : Meaning D) (mounted : D) where
  -- the device of a trace is that of its newest attempt
  pub device-current : (n : Name) (H : List Entry) → NewestIs n H → device meaning mounted H ≡ (current meaning mounted H).device
  unfolding stand newest
  device-current n H w = grind (arith, common_steps)

  -- j more commands
  pub current-ran : (n : Name) (j : ℕ) (H : List Entry) → NewestIs n H →
      current meaning mounted (Ran n j ∷ H) ≡ after meaning j (current meaning mounted H)
  unfolding attempts newest
  current-ran n j H w = grind (arith, common_steps, after-add)

  -- the subchannel of a program
  abbrev pub ran : ℕ → Program D → Channel D
  ran isc p = record { isc = isc; device = Some p.device; phase = phase_of p.place p.place.state }

  -- where the subchannel runs nothing, no program runs
  pub runs-quiet : {held : BookFields D} {new : Channel D} {a : Active} {area : Storage} (max : ℕ) → Ties meaning mounted held (Some a) →
      RunsAs meaning held.channel a.piece.value.area max (running_program held.channel.device held.channel.phase a.piece.value.area) None
      new area →
      (running_name_by meaning mounted held.trace (active held.trace) ≡ None) × (new ≡ held.channel) × (area ≡ a.piece.value.area)
  runs-quiet {held} {new} {a} {area = area} max t r = grind (arith, common_steps)

  module _ {held : BookFields D} {a : Active}
      (u : Bursts meaning held.channel a)
      (t : Ties meaning mounted held (Some a)) where
    abbrev n : Name
    n = a.piece.value.name

    abbrev G : List Entry
    G = Ran n u.burst.commands ∷ held.trace

    -- its program runs, and the burst is one of it
    record Goes (standing : Standing) : Type 0 where
      on_channel : standing ≡ OnChannel
      still : active_phase meaning mounted n held.trace ≡ StillRunning
      runs : RunsFrom meaning (current meaning mounted held.trace) held.channel.isc u.max u.burst u.new u.area

    newest-is : NewestIs n held.trace
    newest-is = (facts meaning mounted held.trace t.legal).4 n t.activity.is

    goes : (phase : Phase) (standing : Standing) → StandingTies meaning mounted held.trace phase a standing →
        RunsAs meaning held.channel a.piece.value.area u.max
        (running_program (Some (device meaning mounted held.trace)) phase a.piece.value.area)
        (Some u.burst) u.new u.area →
        Goes standing
    goes (Running place) (AwaitsRestart status) d r = absurd d
    goes (Running place) OnChannel d r = grind (arith, common_steps, device-current n held.trace newest-is)
    goes _ standing d r = absurd r

    -- what the burst says of the trace
    pub record Told : Type 0 where
      pub active : active held.trace ≡ Some n
      pub running : still_runs (active_phase meaning mounted n held.trace) ≡ true
      pub commands : u.burst.commands ≡ min u.max (length_of meaning (current meaning mounted held.trace))
      pub ended : still_runs (active_phase meaning mounted n G) ≡ is_running u.burst.state
      pub some : 1 ≤ u.burst.commands
      pub still : active_phase meaning mounted n held.trace ≡ StillRunning
      pub unhalted : is_halted n held.trace ≡ false
      pub newest : NewestIs n G
      pub channel_is : u.new ≡ ran held.channel.isc (current meaning mounted G)
      pub area_is : u.area ≡ (current meaning mounted G).area
      pub on_channel : a.standing ≡ OnChannel

    pub told : Told
    told = grind (arith, common_steps, goes, current-ran, newest-is, steps_within-running, newest-ran)

    standing-ran : (q : Program D) (state : State) → q.place.state ≡ state → q ≡ current meaning mounted G → is_halted n held.trace
        ≡ false →
        StandingTies meaning mounted G (phase_of q.place state) (with_area a u.area) OnChannel
    standing-ran q v1 e c h = grind (arith, common_steps)

    pub ties-ran : due meaning mounted held.trace ≡ Free → SamePlace a.piece.value.area u.area →
        Ties meaning mounted (record held { trace = G; channel = u.new }) (Some (with_area a u.area))
    unfolding Legal waiting arrivals active started request_named attempts extents_of flag posted
    ties-ran settled place =
        let k = told in
        let q = current meaning mounted G in
        let dr = standing-ran q q.place.state refl refl k.unhalted in
        let phase_is : u.new.phase ≡ phase_of q.place q.place.state = ap (λ (x : Channel D). x.phase) k.channel_is in
        let fits : RanFits meaning mounted n u.burst.commands held.trace = record {
          active = k.active;
          running = k.still;
          some = k.some;
          left = omega (arith, k.commands);
        } in
        let f : Piece → Storage → Piece = λ p m. record p { area = m } in
        let legal' = fits-free meaning mounted (Ran n u.burst.commands) held.trace settled fits in
        let device' = ap (λ (x : Channel D). x.device) k.channel_is ∙ ap Some (sym (device-current n G k.newest)) in
        let request' = ap (λ p. f p u.area) t.activity.request ∙ ap (f (request_named n held.trace)) k.area_is in
        let placed' = placed-moved a.piece.value u.area t.activity.placed place in
        let standing' = subst (λ x. StandingTies meaning mounted G x (with_area a u.area) a.standing) (sym phase_is) (subst (λ x.
        StandingTies meaning mounted G (phase_of q.place q.place.state) (with_area a u.area) x) (sym k.on_channel) dr) in
        assumption
