use Rattle.std.proofs.Common.{◌∙◌, ap, reverse, sym}
use Rattle.std.proofs.lemmas.List.{reverse-reverse}
use Rattle.excp_site.proofs.site.readers.entries.Goals as goal

pub returns : goal.returns
returns c = sym (reverse-reverse c.trace.result.now) ∙ ap reverse c.trace.ensures
