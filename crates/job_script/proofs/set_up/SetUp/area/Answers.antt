use Rattle.std.proofs.Common.{rules, ◌<◌, ◌≤◌, length}
use Rattle.std.specs.Arc.{arc_value}
use Rattle.job_script.proofs.Changing.{numbered_map, unnumbered_map}
use Rattle.job_script.proofs.set_up.SetUp.area.Goals as goal

pub returns-then-number-len : goal.returns-then-number-len
returns-then-number-len c =
    let past : length c.args.self.now.areas.items ≤ c.args.number = search rules in
    unnumbered_map arc_value c.args.self.now.areas.items c.args.number past

pub returns : goal.returns
returns c =
    let within : c.args.number < length c.args.self.now.areas.items = search rules in
    rw (numbered_map arc_value c.args.self.now.areas.items c.args.number c.index-area.result.now within) (search rules)
