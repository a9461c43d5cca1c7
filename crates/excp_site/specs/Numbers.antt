-- THE NUMBERS of c/excp.h that a look shows (profile).
use Rattle.std.specs.Prelude.{ℕ, Bool, true, false, min}
use Rattle.device_port.specs.declared.kind.Kind.{Kind}
use Rattle.device_port.specs.declared.kind.Kind.TheVariants as kinds
use Rattle.unit_book.specs.declared.dcb.DcbState.{DcbState}
use Rattle.unit_book.specs.declared.dcb.DcbState.TheVariants as dcbs
use Rattle.unit_world.specs.declared.active.ActiveState.{ActiveState}
use Rattle.unit_world.specs.declared.active.ActiveState.TheVariants as actives
use Rattle.excp_site.specs.declared.served.ServedEnd.{ServedEnd}
use Rattle.excp_site.specs.declared.served.ServedEnd.TheVariants as ends

abbrev pub end_number : ServedEnd → ℕ
end_number ends.All = 0
end_number ends.RowFull = 1
end_number ends.Commands = 2

abbrev pub kind_number : Kind → ℕ
kind_number kinds.Disk = 0
kind_number kinds.Tape = 1
kind_number kinds.Printer = 2

abbrev pub active_number : ActiveState → ℕ
active_number actives.Running = 1
active_number actives.Pending = 2
active_number actives.AwaitsRestart = 3

abbrev pub dcb_number : DcbState → ℕ
dcb_number dcbs.Unknown = 0
dcb_number dcbs.Open = 1
dcb_number dcbs.Closing = 2
dcb_number dcbs.Closed = 3

abbrev pub as_bit : Bool → ℕ
as_bit false = 0
as_bit true = 1

-- a count of 32 bits: any larger one is shown as the largest
abbrev pub count_of : ℕ → ℕ
count_of n = min n 4294967295
