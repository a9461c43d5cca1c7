-- EXTENTS IN BYTES: sixteen for each (DFSMSdfp Advanced Services, "Data Extent Block Fields").
use Rattle.std.specs.Prelude.{◌*◌, ◌/◌, ℕ, List, drop, length, map, take}
use Rattle.std.specs.List.{range_with_len}
use Rattle.io_images.specs.Images.{extent_of}
use Rattle.io_images.specs.declared.extent.Extent.{Extent}

-- the extent at a place
abbrev pub extent_at : List ℕ → ℕ → Extent
extent_at bytes place = extent_of (take 16 (drop (16 * place) bytes))

abbrev pub extents_in : List ℕ → List Extent
extents_in bytes = map (extent_at bytes) (range_with_len 0 (length bytes / 16))
