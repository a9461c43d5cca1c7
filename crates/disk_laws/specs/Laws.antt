-- LAWS OF A DISK: which tracks a channel program can reach and change, and which a request can (profile).
use Rattle.std.specs.Prelude.{◌≡◌, ◌≢◌, ◌<◌, ℕ, Bool, true, false, ◌&&◌, nat_le, Some, List, ◌∷◌, length}
use Rattle.std.specs.List.{list_any}
use Rattle.io_area.specs.Storage.{Storage}
use Rattle.io_images.specs.declared.extent.Extent.{Extent}
use Rattle.io_images.specs.declared.seek.Seek.{Seek}
use Rattle.device_port.specs.Meaning.{Meaning}
use Rattle.device_port.specs.declared.kind.Kind.TheVariants.{Disk}
use Rattle.ckd_disk.specs.Track.{TrackState}
use Rattle.ckd_disk.specs.Disk.{DiskState, disk, track_of}
use Rattle.ccw_programs.specs.Step.{Program, begun, after}
use Rattle.request_piece.specs.declared.piece.Name.{Name}
use Rattle.unit_book.specs.declared.dcb.ProcessingMethod.{ProcessingMethod}
use Rattle.unit_book.specs.declared.dcb.ProcessingMethod.TheVariants.{Input, Output}
use Rattle.unit_book.specs.declared.entry.Entry.{Entry}
use Rattle.unit_book.specs.declared.entry.Entry.TheVariants.{Opened, Start, Ran}
use Rattle.unit_book.specs.Trace.{active, request_named}
use Rattle.unit_book.specs.Extents.{track, first_track, last_track}
use Rattle.unit_book.specs.Dcbs.{extents_of, opened_for, mask_for}
use Rattle.unit_book.specs.Legal.{Legal, passes}
use Rattle.unit_book.specs.Media.{device}
use Rattle.disk_laws.specs.Views.{View}

-- the track with this number lies in one of these extents
abbrev pub lies_in_any : ℕ → List Extent → ℕ → Bool
lies_in_any heads extents number = list_any (λ e. nat_le (first_track heads e) number && nat_le number (last_track heads e)) extents

-- the entry opens a DCB for output, and the track with this number lies in its extents
abbrev pub opens_over : ℕ → ℕ → Entry → Bool
opens_over heads number (Opened d Output extents) = lies_in_any heads extents number
opens_over heads number _ = false

-- the entry says that commands ran
abbrev pub is_run : Entry → Bool
is_run (Ran n j) = true
is_run _ = false

module _ {D : Type 0} (meaning : Meaning D) where
  -- the number of the track of a seek address
  abbrev pub seek_track : D → Seek → ℕ
  seek_track d seek = track (meaning.heads d) seek.cylinder seek.head

  -- A PROGRAM after some commands: it began at `start` in this storage, on this device, for a request with this seek address,
  -- whose DCB was opened for this
  abbrev pub program_after : ProcessingMethod → D → Seek → ℕ → Storage → ℕ → Program D
  program_after method d seek start area commands = after meaning commands (begun start (meaning.prefix d seek (mask_for method)) area)

  -- the device after that program
  abbrev pub device_left : ProcessingMethod → D → Seek → ℕ → Storage → ℕ → D
  device_left method d seek start area commands = (program_after method d seek start area commands).device

module _ {D : Type 0} (meaning : Meaning D) (view : View D) where
  -- EVERY CHANNEL PROGRAM, whatever its storage contains
  pub record ConfinesPrograms : Type 0 where
    -- the heads of a disk stay on the track of the seek address
    pub stays : (method : ProcessingMethod) (d : D) (seek : Seek) (start : ℕ) (area : Storage) (commands : ℕ) → meaning.kind d ≡ Disk →
        view.position (device_left meaning method d seek start area commands) ≡ seek_track meaning d seek
    -- every other track stays as it is
    pub others : (method : ProcessingMethod) (d : D) (seek : Seek) (start : ℕ) (area : Storage) (commands number : ℕ) →
        number ≢ seek_track meaning d seek →
        track_of (view.tracks (device_left meaning method d seek start area commands)) number ≡ track_of (view.tracks d) number
    -- if the DCB was opened for input, every track stays as it is
    pub input : (d : D) (seek : Seek) (start : ℕ) (area : Storage) (commands : ℕ) →
        view.tracks (device_left meaning Input d seek start area commands) ≡ view.tracks d

  -- EVERY REQUEST of a legal trace, whatever its area contains
  pub record ConfinesRequests : Type 0 where
    -- it starts only if it passes the extent check of its DCB
    pub checked : (mounted : D) (n : Name) (H : List Entry) → Legal meaning mounted (Start n ∷ H) →
        passes meaning mounted (request_named n H) H ≡ true
    -- while it is active, the heads of a disk are on the track of its seek address
    pub stays : (mounted : D) (n : Name) (H : List Entry) → meaning.kind mounted ≡ Disk → Legal meaning mounted H →
        active H ≡ Some n → view.position (device meaning mounted H) ≡ seek_track meaning mounted (request_named n H).seek
    -- only commands change tracks
    pub unrun : (mounted : D) (e : Entry) (H : List Entry) → is_run e ≡ false →
        view.tracks (device meaning mounted (e ∷ H)) ≡ view.tracks (device meaning mounted H)
    -- its commands leave every other track as it is
    pub others : (mounted : D) (n : Name) (j : ℕ) (H : List Entry) → Legal meaning mounted (Ran n j ∷ H) → (number : ℕ) →
        number ≢ seek_track meaning mounted (request_named n H).seek →
        track_of (view.tracks (device meaning mounted (Ran n j ∷ H))) number ≡ track_of (view.tracks (device meaning mounted H)) number
    -- they leave every track that lies in no extent of its DCB
    pub outside : (mounted : D) (n : Name) (j : ℕ) (H : List Entry) → meaning.kind mounted ≡ Disk →
        Legal meaning mounted (Ran n j ∷ H) → (number : ℕ) →
        lies_in_any (meaning.heads mounted) (extents_of (request_named n H).dcb H) number ≡ false →
        track_of (view.tracks (device meaning mounted (Ran n j ∷ H))) number ≡ track_of (view.tracks (device meaning mounted H)) number
    -- they leave every track if its DCB was opened for input
    pub input : (mounted : D) (n : Name) (j : ℕ) (H : List Entry) → Legal meaning mounted (Ran n j ∷ H) →
        opened_for (request_named n H).dcb H ≡ Input →
        view.tracks (device meaning mounted (Ran n j ∷ H)) ≡ view.tracks (device meaning mounted H)
    -- so a track is as it was mounted if no DCB was opened for output with an extent that has it
    pub untouched : (mounted : D) (H : List Entry) → meaning.kind mounted ≡ Disk → Legal meaning mounted H → (number : ℕ) →
        list_any (opens_over (meaning.heads mounted) number) H ≡ false →
        track_of (view.tracks (device meaning mounted H)) number ≡ track_of (view.tracks mounted) number

-- the disk with other tracks
abbrev pub with_tracks : DiskState → List TrackState → DiskState
with_tracks d tracks = record d { tracks = tracks }

-- A PROGRAM DEPENDS ON ONE TRACK of a disk: if the others have other records, its position, its storage and that track are the
-- same after it
abbrev pub DependsOnOneTrack : Type 0
DependsOnOneTrack =
    (method : ProcessingMethod) (d : DiskState) (tracks : List TrackState) (seek : Seek) (start : ℕ) (area : Storage) (commands : ℕ) →
    seek_track disk d seek < length d.tracks → length tracks ≡ length d.tracks →
    track_of tracks (seek_track disk d seek) ≡ track_of d.tracks (seek_track disk d seek) →
    let p = program_after disk method d seek start area commands in
    let q = program_after disk method (with_tracks d tracks) seek start area commands in
    (q.place ≡ p.place) × (q.area ≡ p.area)
    × (track_of q.device.tracks (seek_track disk d seek) ≡ track_of p.device.tracks (seek_track disk d seek))
