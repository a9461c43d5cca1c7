-- A slot may move to another thread, since its site may.
use mir.Raw.{raw}
use base.Shift.{Keyless}
use denote.Memory.{lone}
use denote.RawPtr.{Ptr}
use denote.Struct.Struct.{exits_of}
use denote.Struct.Owning.{shape, fields, to}
use denote.Param.Send.{IsSend, AllSend, owning_send, struct_send, sendable}
use Rattle.std.specs.Prelude.{Option, Some, None}
use Rattle.std.specs.declared.alloc.Global.{Global}
use Rattle.std.specs.contracts.impls.GlobalAllocator.TheImpl.{ghosts}
use Rattle.std.proofs.Crossing.{frees}
use Rattle.std.proofs.alloc.Global.TheSendSync as heap
use Rattle.std_alloc.proofs.SendSync.{quiet, lies}
use Rattle.excp_c.specs.Owned.{slot_owns}
use Rattle.excp_site.specs.contracts.site.Site as site
use Rattle.excp_site.proofs.site.Site.TheSendSync.{the_send as site_crosses}
use Rattle.excp_c.specs.contracts.slot.Slot.{the_row, the_type}

owned : (a : Global) (p : Ptr) (o : Option site.the_row.Denot) → Keyless (slot_owns (ghosts.dealloc_token a) site.the_row p o)
owned a p None = tt
owned a p (Some x) = (lies site.the_row site_crosses p x, frees.frees a (raw (lone site.the_row.mir)) p)

pub send : IsSend the_row
send =
    let each : AllSend (fields the_type) = (search sendable, (heap.the_field_send, tt)) in
    owning_send the_type each (λ d. owned d.alloc d.at d.value)
    (λ k. quiet (to the_type) (exits_of k (fields the_type)) ((struct_send (shape the_type) each).leaving k))
