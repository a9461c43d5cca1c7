use Rattle.unit_book.proofs.Names.{reverse, arith, refl, ap}
use Rattle.unit_book.proofs.Opens.{ties-new}
use Rattle.unit_book.proofs.entries.Entries.new.Goals as goal

pub invariant_of-result : goal.invariant_of-result
invariant_of-result g c =
    let waiting_is = c.in-Ok.ensures.waiting in
    let out_is = c.in-Ok.ensures.out in
    let trace_is = ap reverse c.new-trace.ensures.items in (
      rw (c.in-Ok.ensures.mounted, waiting_is, out_is, trace_is, c.new-channel.ensures, c.new-dcbs.ensures)
          (ties-new g.D.Device.meaning c.args.device c.args.isc),
      rw (waiting_is, c.in-Ok.ensures.swept, out_is) (record { occupancy = omega arith; waiting_room = refl; swept_is = refl }),
    )
