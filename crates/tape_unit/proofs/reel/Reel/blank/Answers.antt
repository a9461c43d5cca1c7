use Rattle.std.proofs.Common.{◌≡◌, length, rules}
use Rattle.tape_unit.proofs.Reels.{blank_kept}
use Rattle.tape_unit.proofs.reel.Reel.blank.Goals as goal

pub invariant_of-result : goal.invariant_of-result
invariant_of-result c =
    let len : length c.in_ok-vec.field-0.items ≡ c.args.size = search rules in
    (blank_kept c.args.size c.in_ok-vec.field-0.items len c.requires).holds

pub returns : goal.returns
returns c =
    let len : length c.in_ok-vec.field-0.items ≡ c.args.size = search rules in
    (blank_kept c.args.size c.in_ok-vec.field-0.items len c.requires).view
