use Rattle.std.proofs.Common.{rules, ◌≡◌, ◌<◌, ◌≤◌, length, get_or, refl, sym, ◌∙◌}
use Rattle.std.proofs.lemmas.Bool.{le-leb, lt-leb}
use Rattle.job_script.specs.Views.{set_up_said}
use Rattle.job_script.proofs.Changing.{dcb_past, dcb_at}
use Rattle.job_script.proofs.set_up.SetUp.names_dcb.Goals as goal

pub returns-then-unit-len-clause-read : goal.returns-then-unit-len-clause-read
returns-then-unit-len-clause-read c =
    let past : length c.args.self.now.units.items ≤ c.args.dcb.unit = search rules in
    dcb_past c.args.dcb (set_up_said c.args.self.now) c.args.self.now.units.items refl past

pub returns-then-from-len-clause-read : goal.returns-then-from-len-clause-read
returns-then-from-len-clause-read c =
    let unit = c.index-declared.result.now in
    let within : c.args.dcb.unit < length c.args.self.now.units.items = search rules in
    let is : unit ≡ get_or c.args.self.now.units.items c.args.dcb.unit unit = rw (sym c.from-unit.ensures) c.index-declared.ensures in
    let few : length unit.openings.items < c.args.dcb.number = search rules in
    dcb_at c.args.dcb (set_up_said c.args.self.now) c.args.self.now.units.items unit refl within is
    ∙ rw (lt-leb c.args.dcb.number (length unit.openings.items) few) refl

pub returns-clause-read : goal.returns-clause-read
returns-clause-read c =
    let unit = c.index-declared.result.now in
    let within : c.args.dcb.unit < length c.args.self.now.units.items = search rules in
    let is : unit ≡ get_or c.args.self.now.units.items c.args.dcb.unit unit = rw (sym c.from-unit.ensures) c.index-declared.ensures in
    let some : c.args.dcb.number ≤ length unit.openings.items = search rules in
    dcb_at c.args.dcb (set_up_said c.args.self.now) c.args.self.now.units.items unit refl within is
    ∙ rw (le-leb c.args.dcb.number (length unit.openings.items) some) refl
