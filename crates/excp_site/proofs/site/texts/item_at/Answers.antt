use Rattle.std.proofs.Common.{sym}
use Rattle.excp_site.proofs.Places.{nth-is}
use Rattle.excp_site.proofs.site.texts.item_at.Goals as goal

pub returns : goal.returns
returns c = sym (nth-is _ c.args.place c.nth.result c.nth.new.self c.nth.ensures.ran)
