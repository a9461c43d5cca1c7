-- THE STATUSES of c/excp.h.
use Rattle.std.specs.Prelude.{ℕ}
use Rattle.excp_site.specs.declared.refusal.Refusal.{Refusal}
use Rattle.excp_site.specs.declared.refusal.Refusal.TheVariants as refusals

-- the number of a refusal
abbrev pub status_in_c : Refusal → ℕ
status_in_c refusals.NoMemory = 1
status_in_c refusals.BadNumber = 5
status_in_c refusals.NoUnit = 6
status_in_c refusals.NoTask = 7
status_in_c refusals.NoDcb = 8
status_in_c refusals.TooManyUnits = 9
status_in_c refusals.TooManyDcbs = 10
status_in_c refusals.BadGeometry = 11
status_in_c refusals.BadMedium = 12
status_in_c refusals.BadImage = 13
status_in_c refusals.NoImage = 14
status_in_c refusals.BadExtent = 15
status_in_c refusals.AreaMisaligned = 16
status_in_c refusals.AreaTooLong = 17
status_in_c refusals.AreaPastTop = 18
status_in_c refusals.BadIob = 19
status_in_c refusals.BadEcb = 20
status_in_c refusals.BadProgram = 21
status_in_c refusals.WrongDcb = 22
status_in_c refusals.Full = 23
status_in_c refusals.NoNumber = 24
status_in_c refusals.NoPost = 25
status_in_c refusals.NoRoom = 26
status_in_c refusals.NothingThere = 27
status_in_c refusals.NotIdle = 28
status_in_c refusals.InError = 29
