use Rattle.std.proofs.Common.{rules, refl}
use Rattle.job_script.specs.Adding.{add_record}
use Rattle.job_script.specs.Views.{record_said, set_up_said}
use Rattle.job_script.proofs.Changing.{changes, keeps, unchanged}
use Rattle.job_script.proofs.set_up.SetUp.add_record.Goals as goal

pub returns-then-place-len-clause-adds : goal.returns-then-place-len-clause-adds
returns-then-place-len-clause-adds c =
    unchanged (add_record (record_said c.args.added)) (set_up_said c.args.self.now) c.args.self.now.units.items c.args.place refl (search rules)

pub returns-clause-adds : goal.returns-clause-adds
returns-clause-adds c =
    changes _ (add_record (record_said c.args.added)) (set_up_said c.args.self.now) c.args.self.now.units.items c.args.place
    c.index_mut-unit.result.now
    c.add_record.new.self refl (search rules) c.index_mut-unit.ensures.value c.add_record.ensures.adds

pub returns-clause-kept : goal.returns-clause-kept
returns-clause-kept c =
    keeps _ (set_up_said c.args.self.now) c.args.self.now.units.items c.args.place c.index_mut-unit.result.now
    c.add_record.new.self refl (search rules) c.index_mut-unit.ensures.value c.add_record.ensures.kept
