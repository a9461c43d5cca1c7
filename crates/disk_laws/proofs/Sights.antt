-- A channel program depends on no other track: if the others have other records, it does the same.
use Rattle.std.proofs.Common.{◌≡◌, ℕ, zero, suc, ◌<◌, List, [], length, true, Option, Some, None, refl, sym, ap, ◌∙◌, subst}
use Rattle.std.specs.Prelude.{slice_set}
use Rattle.std.proofs.lemmas.List.{length-set, get_or-set_same}
use Rattle.io_images.specs.FileMask.{inhibits_seeks}
use Rattle.device_port.specs.declared.faults.Fault.{Fault}
use Rattle.device_port.specs.Faults.{fault_met, counted, failed}
use Rattle.device_port.specs.Meaning.{Outcome}
use Rattle.device_port.specs.Moves.{offered, received}
use Rattle.device_port.specs.Sense.{command_reject, file_protected}
use Rattle.ckd_disk.specs.declared.command.Command.{Command}
use Rattle.ckd_disk.specs.declared.command.Command.TheVariants.{Control, Read, Write}
use Rattle.ckd_disk.specs.declared.command.ControlCommand.TheVariants as control
use Rattle.ckd_disk.specs.declared.command.Read.TheVariants as read
use Rattle.ckd_disk.specs.declared.command.Write.TheVariants as write
use Rattle.ckd_disk.specs.Track.{TrackState}
use Rattle.ckd_disk.specs.Access.{unarmed}
use Rattle.ckd_disk.specs.Command.{command_of, flow_of}
use Rattle.ckd_disk.specs.Commands.{Answer, Written, left, checked, no_operation, sense, set_file_mask, search_id, search_key, read_count}
use Rattle.ckd_disk.specs.Commands.{read_data, read_key_and_data, read_count_key_and_data, write_data, write_key_and_data}
use Rattle.ckd_disk.specs.Commands.{write_count_key_and_data}
use Rattle.ckd_disk.specs.Disk.{DiskState, disk, track_of, current_track, no_track, prefix, answered, wrote, act_by, act, command_on}
use Rattle.ccw_programs.specs.declared.context.State.{State}
use Rattle.ccw_programs.specs.declared.context.State.TheVariants.{Running, Ended}
use Rattle.ccw_programs.specs.declared.fetch.Link.{Link}
use Rattle.ccw_programs.specs.Links.{Fetched, Whole, Broken, chain}
use Rattle.ccw_programs.specs.Areas.{Areas, Parts, Bad, areas}
use Rattle.ccw_programs.specs.Place.{Place}
use Rattle.ccw_programs.specs.Step.{Program, program, begun, step, step_from, step_on_chain, step_on_areas, after, first_of, acted_place}
use Rattle.unit_book.specs.Dcbs.{mask_for}
use Rattle.disk_laws.specs.Laws.{seek_track, device_left, with_tracks, DependsOnOneTrack}
use Rattle.disk_laws.proofs.Commands.{kept-command}
use Rattle.disk_laws.proofs.Programs.{mask-inhibits_seeks, disk-confined}

-- a disk and other tracks: the one under the heads is the same, and the mask inhibits seeks
record Twins (d : DiskState) (tracks : List TrackState) : Type 0 where
  there : d.track < length d.tracks
  long : length tracks ≡ length d.tracks
  same : track_of tracks d.track ≡ current_track d
  fixed : inhibits_seeks d.access.mask ≡ true

-- two outcomes of a command
record Alike (x y : Outcome DiskState) : Type 0 where
  acted : y.acted ≡ x.acted
  bytes : y.bytes ≡ x.bytes
  tracks : List TrackState
  device : y.device ≡ with_tracks x.device tracks
  twins : Twins x.device tracks

module _ (d : DiskState) (tracks : List TrackState) (t : Twins d tracks) where
  alike-answered : (f : TrackState → Answer) → (f (current_track d)).access.mask ≡ d.access.mask →
      Alike (answered d (f (current_track d))) (answered (with_tracks d tracks) (f (track_of tracks d.track)))
  alike-answered f mask = record {
    acted = ap (λ x. (f x).acted) t.same;
    bytes = ap (λ x. (f x).bytes) t.same;
    tracks = tracks;
    device = ap (λ x. record d { tracks = tracks; access = (f x).access }) t.same;
    twins = record { there = t.there; long = t.long; same = t.same; fixed = rw mask t.fixed };
  }

  alike-wrote : (f : TrackState → Written) → (f (current_track d)).access.mask ≡ d.access.mask →
      Alike (wrote d (f (current_track d))) (wrote (with_tracks d tracks) (f (track_of tracks d.track)))
  alike-wrote f mask =
      let w = f (current_track d) in
      let v = f (track_of tracks d.track) in
      record {
        acted = ap (λ x. (f x).acted) t.same;
        bytes = refl;
        tracks = slice_set tracks d.track v.track;
        device = ap (λ x. record d { tracks = slice_set tracks d.track v.track; access = (f x).access }) t.same;
        twins = record {
          there = rw (length-set d.tracks d.track w.track) t.there;
          long = length-set tracks d.track v.track ∙ t.long ∙ sym (length-set d.tracks d.track w.track);
          same = get_or-set_same tracks d.track v.track no_track (rw t.long t.there) ∙ ap (λ x. (f x).track) t.same
              ∙ sym (get_or-set_same d.tracks d.track w.track no_track t.there);
          fixed = rw mask t.fixed;
        };
      }

  alike-command : (command : Option Command) (given : List ℕ) →
      Alike (command_on d command given) (command_on (with_tracks d tracks) command given)
  alike-command None given = alike-answered (λ x. checked command_reject d.access) refl
  alike-command (Some (Control control.NoOperation)) given = alike-answered (λ x. no_operation d.access) refl
  alike-command (Some (Control control.SetFileMask)) given = alike-answered (λ x. set_file_mask d.access) refl
  alike-command (Some (Read read.Sense)) given = alike-answered (λ x. sense d.access) refl
  alike-command (Some (Read read.Count)) given =
      alike-answered (λ x. read_count x d.access) (kept-command d (Some (Read read.Count)) given).mask_is
  alike-command (Some (Read read.Data)) given =
      alike-answered (λ x. read_data x d.access) (kept-command d (Some (Read read.Data)) given).mask_is
  alike-command (Some (Read read.KeyAndData)) given =
      alike-answered (λ x. read_key_and_data x d.access) (kept-command d (Some (Read read.KeyAndData)) given).mask_is
  alike-command (Some (Read read.CountKeyAndData)) given =
      alike-answered (λ x. read_count_key_and_data x d.access) (kept-command d (Some (Read read.CountKeyAndData)) given).mask_is
  alike-command (Some (Write write.Seek)) given = rw t.fixed (alike-answered (λ x. checked file_protected d.access) refl)
  alike-command (Some (Write write.SearchId)) given =
      alike-answered (λ x. search_id x d.access given) (kept-command d (Some (Write write.SearchId)) given).mask_is
  alike-command (Some (Write write.SearchKey)) given =
      alike-answered (λ x. search_key x d.access given) (kept-command d (Some (Write write.SearchKey)) given).mask_is
  alike-command (Some (Write write.Data)) given =
      alike-wrote (λ x. write_data x d.access given) (kept-command d (Some (Write write.Data)) given).mask_is
  alike-command (Some (Write write.KeyAndData)) given =
      alike-wrote (λ x. write_key_and_data x d.access given) (kept-command d (Some (Write write.KeyAndData)) given).mask_is
  alike-command (Some (Write write.CountKeyAndData)) given =
      alike-wrote (λ x. write_count_key_and_data x d.access given) (kept-command d (Some (Write write.CountKeyAndData)) given).mask_is

  alike-by : (fault : Option Fault) (code : ℕ) (given : List ℕ) →
      Alike (act_by fault d code given) (act_by fault (with_tracks d tracks) code given)
  alike-by None code given = alike-command (command_of code) given
  alike-by (Some fault) code given =
      alike-answered (λ x. record { acted = failed fault; access = left d.access d.access.orientation unarmed; bytes = [] }) refl

alike-act : (d : DiskState) (tracks : List TrackState) (t : Twins d tracks) (code : ℕ) (given : List ℕ) →
    Alike (act d code given) (act (with_tracks d tracks) code given)
alike-act d tracks t code given =
    alike-by (record d { ordinals = counted d.ordinals }) tracks
    (record { there = t.there; long = t.long; same = t.same; fixed = t.fixed }) (fault_met d.ordinals) code given

-- two programs
record Follow (p q : Program DiskState) : Type 0 where
  place : q.place ≡ p.place
  area : q.area ≡ p.area
  tracks : List TrackState
  device : q.device ≡ with_tracks p.device tracks
  twins : Twins p.device tracks

abbrev twin : Program DiskState → List TrackState → Program DiskState
twin p tracks = program p.place (with_tracks p.device tracks) p.area

module _ (p : Program DiskState) (tracks : List TrackState) (t : Twins p.device tracks) where
  follow-same : (place : Place) → Follow (program place p.device p.area) (program place (with_tracks p.device tracks) p.area)
  follow-same place = record { place = refl; area = refl; tracks = tracks; device = refl; twins = t }

  follow-areas : (links : List Link) (n : ℕ) (a : Areas) →
      Follow (step_on_areas disk p links n a) (step_on_areas disk (twin p tracks) links n a)
  follow-areas links n (Bad refusal) = follow-same _
  follow-areas links n (Parts parts) =
      let code = (first_of links).ccw.command in
      let flow = flow_of (command_of code) in
      let a = alike-act p.device tracks t code (offered flow p.area parts) in
      record {
        place = ap (λ x. acted_place p.place flow links n x) a.acted;
        area = ap (λ x. received flow parts x p.area) a.bytes;
        tracks = a.tracks;
        device = a.device;
        twins = a.twins;
      }

  follow-chain : (c : Fetched) → Follow (step_on_chain disk p c) (step_on_chain disk (twin p tracks) c)
  follow-chain (Broken before refusal) = follow-same _
  follow-chain (Whole links n) = follow-areas links n (areas (flow_of (command_of (first_of links).ccw.command)) p.area links)

  follow-state : (s : State) → Follow (step_from disk p s) (step_from disk (twin p tracks) s)
  follow-state Running = follow-chain (chain p.area p.place.next p.place.fetched)
  follow-state (Ended csw sense) = follow-same p.place

  follow-step : Follow (step disk p) (step disk (twin p tracks))
  unfolding step
  follow-step = follow-state p.place.state

follow-next : (p q : Program DiskState) → Follow p q → Follow (step disk p) (step disk q)
follow-next p q f =
    let is : q ≡ twin p f.tracks =
    ap (λ x. program x q.device q.area) f.place ∙ ap (λ x. program p.place x q.area) f.device
    ∙ ap (λ x. program p.place (with_tracks p.device f.tracks) x) f.area in
    subst (λ x. Follow (step disk p) (step disk x)) (sym is) (follow-step p f.tracks f.twins)

follow-after : (k : ℕ) (p : Program DiskState) (tracks : List TrackState) → Twins p.device tracks →
    Follow (after disk k p) (after disk k (twin p tracks))
unfolding after
follow-after zero p tracks t = follow-same p tracks t p.place
follow-after (suc k) p tracks t = follow-next (after disk k p) (after disk k (twin p tracks)) (follow-after k p tracks t)

-- A PROGRAM DEPENDS on one track
pub depends-on_one_track : DependsOnOneTrack
depends-on_one_track method d tracks seek start area commands there long same =
    let f = follow-after commands (begun start (prefix d seek (mask_for method)) area) tracks
    (record { there = there; long = long; same = same; fixed = mask-inhibits_seeks method }) in
    let own = disk-confined.stays method d seek start area commands refl in
    let twin_track : track_of f.tracks (seek_track disk d seek)
    ≡ track_of (device_left disk method d seek start area commands).tracks (seek_track disk d seek) = rw own at f.twins.same in
    (f.place, f.area, ap (λ x. track_of x.tracks (seek_track disk d seek)) f.device ∙ twin_track)
