-- What a slot and a handle lend: their site.
use Rattle.std.specs.Prelude.{Option, Some}
use mathlib.Core.Path.{refl}
use Rattle.std.specs.Borrow.{Lends, LendsIf, MutBor, Fml}
use Rattle.excp_site.specs.Sites.{SiteView}
use Rattle.excp_site.specs.contracts.site.Site as site
use Rattle.excp_c.specs.declared.handle.Handle.{Handle}
use Rattle.excp_c.specs.contracts.handle.Handle as handle
use Rattle.excp_c.specs.declared.slot.Slot.{Slot}
use Rattle.excp_c.specs.contracts.slot.Slot as slot

abbrev pub with_site : Slot → SiteView → Slot
with_site s x = record s { value = Some x }

-- Once the borrow ends, the slot has the site as it was left.
abbrev pub LendsSite : MutBor Slot → MutBor SiteView → Fml
LendsSite s r = Lends slot.the_row site.the_row s r (with_site s.now)

abbrev pub with_site_of : Handle → SiteView → Handle
with_site_of h x = record h { slot = with_site h.slot x; live = λ _. refl }

-- Once the borrow ends, a handle that has a site has it as it was left.
abbrev pub LendsSiteIf : MutBor Handle → Option (MutBor SiteView) → Fml
LendsSiteIf h r = LendsIf handle.the_row site.the_row h r (with_site_of h.now) h.now
