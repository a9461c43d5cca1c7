-- Worked rows, by computation: a program that searches R1 of a track and writes its data, through a DCB for output and through
-- one for input; and a seek to another track under three file masks.
use Rattle.std.proofs.Common.{◌≡◌, ℕ, true, false, List, [], ◌∷◌, ◌++◌, refl, arith}
use Rattle.io_area.specs.Storage.{Storage}
use Rattle.io_images.specs.declared.extent.Extent.{Extent}
use Rattle.io_images.specs.declared.seek.Seek.{Seek}
use Rattle.ckd_disk.specs.Mount.{track_descriptor, id_on}
use Rattle.ckd_disk.specs.Track.{TrackState, record_of}
use Rattle.ckd_disk.specs.Disk.{DiskState, disk, track_of, at_start, prefix}
use Rattle.ccw_programs.specs.Links.{chain_within}
use Rattle.ccw_programs.specs.Step.{begun, after, step, steps_within}
use Rattle.request_piece.specs.declared.piece.Piece.{Piece}
use Rattle.unit_book.specs.declared.dcb.ProcessingMethod.{ProcessingMethod}
use Rattle.unit_book.specs.declared.dcb.ProcessingMethod.TheVariants.{Input, Output}
use Rattle.unit_book.specs.declared.entry.Entry.{Entry}
use Rattle.unit_book.specs.declared.entry.Entry.TheVariants.{Opened, Arrive, Start, Ran}
use Rattle.unit_book.specs.Trace.{no_request, request_named, active, started, waiting, arrivals}
use Rattle.unit_book.specs.Dcbs.{extents_of, flag, mask_for}
use Rattle.unit_book.specs.Legal.{Legal, First, due}
use Rattle.unit_book.specs.Media.{attempts, stand, newest, device}
use Rattle.disk_laws.specs.Laws.{lies_in_any, device_left}

-- a track with R0 and with R1 of these bytes
abbrev track_with : ℕ → List ℕ → TrackState
track_with head content =
    record { size = 40; records = track_descriptor 0 head ∷ record { id = id_on 0 head 1; key = []; content = content } ∷ [] }

-- a disk of two tracks, the heads on the first
abbrev shared : DiskState
shared = record {
  cylinders = 1;
  heads = 2;
  tracks = track_with 0 (1 ∷ []) ∷ track_with 1 (2 ∷ []) ∷ [];
  track = 0;
  access = at_start 0;
  ordinals = record { script = []; done = 0 };
}

-- the bytes of R1 on a track of a disk
abbrev content_on : ℕ → DiskState → List ℕ
content_on number d = (record_of (track_of d.tracks number).records 1).content

-- head 1 of cylinder 0, in the first extent of a DCB
abbrev second : Seek
second = record { extent = 0; bin = 0; cylinder = 0; head = 1; «record» = 0 }

-- a CCW: command, address, flags, count
abbrev ccw : ℕ → ℕ → ℕ → ℕ → List ℕ
ccw command address flags count = command ∷ 0 ∷ 0 ∷ address ∷ flags ∷ 0 ∷ 0 ∷ count ∷ []

-- storage with a CCW at 0, CCWs from 8 on that search R1 of head 1 and write its data, a seek address of track 0 at 32, the
-- CCHHR at 38 and a byte of data at 43
abbrev storage : List ℕ → Storage
storage first = record {
  base = 0;
  bytes = first ++ ccw 0x31 38 0x40 5 ++ ccw 0x08 8 0 0 ++ ccw 0x05 43 0 1 ++ (0 ∷ 0 ∷ 0 ∷ 0 ∷ 0 ∷ 0 ∷ []) ++ id_on 0 1 1
      ++ 9 ∷ [];
}

-- three commands from address 8 on: a search of R0, a search of R1, the write
abbrev writes : ProcessingMethod → DiskState
writes method = device_left disk method shared second 8 (storage (ccw 0 0 0 0)) 3

output_writes_its_track : (content_on 1 (writes Output) ≡ 9 ∷ []) × (content_on 0 (writes Output) ≡ 1 ∷ [])
    × ((writes Output).track ≡ 1)
unfolding after step chain_within
output_writes_its_track = (refl, refl, refl)

input_writes_nothing : (content_on 1 (writes Input) ≡ 2 ∷ []) × (content_on 0 (writes Input) ≡ 1 ∷ []) × ((writes Input).track ≡ 1)
unfolding after step chain_within
input_writes_nothing = (refl, refl, refl)

-- one command from address 0 on, under a file mask: a seek to head 0
abbrev seeks : ℕ → DiskState
seeks mask = (after disk 1 (begun 0 (prefix shared second mask) (storage (ccw 0x07 32 0x40 6)))).device

-- the mask 00 lets it
masks_protect_seeks : ((seeks (mask_for Output)).track ≡ 1) × ((seeks (mask_for Input)).track ≡ 1) × ((seeks 0).track ≡ 0)
unfolding after step chain_within
masks_protect_seeks = (refl, refl, refl)

-- a request for the second track, whose DCB has that track alone
abbrev request : Piece
request = record no_request {
  name = record { task = 0; seq = 1 };
  dcb = 1;
  start = 8;
  seek = second;
  area = storage (ccw 0 0 0 0);
}

abbrev own : Extent
own = record {
  file_mask = 0;
  unit_block = 0;
  bin = 0;
  start_cylinder = 0;
  start_head = 1;
  end_cylinder = 0;
  end_head = 1;
  tracks = 1;
}

-- it has run three commands
abbrev run : ProcessingMethod → List Entry
run method = Ran request.name 3 ∷ Start request.name ∷ Arrive request ∷ Opened 1 method (own ∷ []) ∷ []

run-legal : (method : ProcessingMethod) → Legal disk shared (run method)
unfolding Legal due after step steps_within chain_within extents_of flag attempts stand newest request_named active started waiting arrivals
run-legal Input = (
  record { active = refl; running = refl; some = omega arith; left = omega arith },
  (
    First (record { none = refl; request = request; first = refl; name = refl; passes = refl }),
    (refl, (record { next = refl; few = omega arith; taken = refl }, tt)),
  ),
)
run-legal Output = (
  record { active = refl; running = refl; some = omega arith; left = omega arith },
  (
    First (record { none = refl; request = request; first = refl; name = refl; passes = refl }),
    (refl, (record { next = refl; few = omega arith; taken = refl }, tt)),
  ),
)

run_writes_its_extent : (content_on 1 (device disk shared (run Output)) ≡ 9 ∷ [])
    × (content_on 0 (device disk shared (run Output)) ≡ 1 ∷ []) × (content_on 1 (device disk shared (run Input)) ≡ 2 ∷ [])
    × (lies_in_any 2 (own ∷ []) 1 ≡ true) × (lies_in_any 2 (own ∷ []) 0 ≡ false)
unfolding after step chain_within attempts stand request_named
run_writes_its_extent = (refl, refl, refl, refl, refl)
