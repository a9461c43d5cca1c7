use Rattle.std.proofs.Common.{◌≡◌, refl}
use Rattle.unit_book.specs.declared.answer.DcbError.TheVariants.{NoMemory}
use Rattle.unit_book.specs.Steps.{StepLacks, StepRefused, StepsBook}
use Rattle.unit_world.proofs.Sites.{UnitPlace, book-err, book-given, book-keeps, book-ok, part_after, unit-called, world_before}
use Rattle.unit_world.proofs.Steps.{calls}
use Rattle.unit_world.proofs.site.PlainSite.step.Given.{Over}
use Rattle.unit_world.proofs.site.PlainSite.step.Goals.{After-step}
use Rattle.unit_world.proofs.site.PlainSite.step.Goals as goal

-- the unit that is called
abbrev called : (g : Over) (c : After-step g) → UnitPlace g.D.Device.meaning
called g c =
    unit-called c.self.inside.units.items c.self.inside.rows c.from.ensures c.requires.unit c.index_mut-side.ensures.value c.self.view_is
    c.self.invariant

pub invariant_of-self : goal.invariant_of-self
invariant_of-self g c =
    let k = called g (goal.at.invariant_of-self g c).After-step in
    book-keeps _ k c.step.new.self c.step.result c.step.ensures.ok c.step.ensures.err
    (λ a h. calls g.D.Device.meaning (world_before _ k) (part_after _ k c.step.new.self) c.args.step a refl h)

pub returns-clause-ok : goal.returns-clause-ok
returns-clause-ok g c =
    book-ok _ (called g (goal.at.returns-clause-ok g c).After-step) c.step.new.self c.step.result
    (λ a b d. StepsBook g.D.Device.meaning b c.args.step a d) c.step.ensures.ok

pub returns-clause-err : goal.returns-clause-err
returns-clause-err g c =
    book-err _ (called g (goal.at.returns-clause-err g c).After-step) c.step.new.self c.step.result c.step.ensures.err

pub returns-clause-refused : goal.returns-clause-refused
returns-clause-refused g c =
    book-given _ (called g (goal.at.returns-clause-refused g c).After-step) c.step.new.self c.step.result
    (λ e b. StepRefused b c.args.step e) c.step.ensures.refused

pub returns-clause-full : goal.returns-clause-full
returns-clause-full g c =
    book-given _ (called g (goal.at.returns-clause-full g c).After-step) c.step.new.self c.step.result
    (λ e b. e ≡ NoMemory → StepLacks g.D.Device.meaning b c.args.step) c.step.ensures.full
