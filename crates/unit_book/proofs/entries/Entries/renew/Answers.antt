use Rattle.unit_book.proofs.Names.{◌≡◌, ◌∙◌, ap, device, reverse, sym}
use Rattle.unit_book.proofs.Renewals.{nothing-due, size-kept, some-is, ties-renewed}
use Rattle.unit_book.proofs.entries.Entries.renew.Goals as goal

pub copy_from-requires : goal.copy_from-requires
copy_from-requires g c =
    let i = c.self.inside in
    let H = reverse i.trace.items in
    let m = g.D.Device.meaning in
    let there = rw c.unwrap.ensures at c.device.ensures in
    let now = some-is c.unwrap.result.now (device m i.mounted H) (sym there ∙ c.self.invariant.0.device) in
    size-kept m i.mounted g.met.D.FixedSize.keeps_size H ∙ ap g.D.FixedSize.size (sym now)

pub invariant_of-self : goal.invariant_of-self
invariant_of-self g c =
    let i = c.self.inside in
    let H = reverse i.trace.items in
    let m = g.D.Device.meaning in
    let there = rw c.unwrap.ensures at c.device.ensures in
    let now : c.copy_from.new.self ≡ device m i.mounted H = c.copy_from.ensures
    ∙ some-is c.unwrap.result.now (device m i.mounted H) (sym there ∙ c.self.invariant.0.device) in
    let waits = rw (← c.self.view_is) at c.requires.waiting in
    let idle = rw (← c.self.view_is) at c.requires.active in
    let out = rw (← c.self.view_is) at c.requires.out in
    let t = ties-renewed m g.met.D.Device.lawful i.mounted waits idle out c.unflag_all.ensures.dcbs c.unflag_all.ensures.count
    c.self.invariant.0 in (rw (now, c.keep_openings_and_closes.ensures) t, c.self.invariant.1)

pub returns-clause-settled : goal.returns-clause-settled
returns-clause-settled g c =
    let H = reverse c.self.inside.trace.items in
    rw c.keep_openings_and_closes.ensures (nothing-due g.D.Device.meaning c.copy_from.new.self H)
