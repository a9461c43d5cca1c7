use Rattle.std.proofs.Common.{◌∙◌, List, Option, None, ap}
use Rattle.std.specs.Prelude.{slice_set}
use Rattle.std.proofs.lemmas.List.{map-set}
use Rattle.excp_site.specs.Sites.{SiteView}
use Rattle.excp_site.specs.contracts.site.Site.{the_view}
use Rattle.excp_site.specs.declared.channel.OwnChannel.{OwnChannel}
use Rattle.excp_site.proofs.Channels.{own_of}
use Rattle.excp_site.proofs.site.Site.free_channel.Goals as goal

pub returns-clause-ok : goal.returns-clause-ok
returns-clause-ok c =
    let i = c.self.inside in
    ap (λ (xs : List (Option OwnChannel)). record (the_view i) { channels = xs }) (map-set own_of i.channels.items c.args.channel None)
    ∙ ap (λ (v : SiteView). record v { channels = slice_set v.channels c.args.channel None }) c.self.view_is
