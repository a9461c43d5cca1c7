use Rattle.std.proofs.Common.{◌≡◌, true, take}
use Rattle.std.specs.List.{list_all}
use Rattle.ckd_disk.specs.Mount.{has_room}
use Rattle.ckd_disk.proofs.mount.have_room.Given as goal

abbrev pub invariant-loop-initial : goal.invariant-loop-initial
invariant-loop-initial l = list_all (has_room l.geometry l.records) (take l.initial-index l.records) ≡ true
