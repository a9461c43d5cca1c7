use Rattle.std.proofs.Common.{rules}
use Rattle.excp_site.specs.Mounting.{DiskTaken}
use Rattle.excp_site.proofs.Refused.{oks}
use Rattle.excp_site.proofs.site.Site.mount_disk.Goals as goal

pub returns-clause-taken : goal.returns-clause-taken
returns-clause-taken c = oks c.add.result (DiskTaken c.args.self.now c.args.geometry) (search rules, search rules, search rules)
