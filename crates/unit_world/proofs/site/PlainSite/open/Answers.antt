use Rattle.std.proofs.Common.{refl}
use Rattle.unit_book.specs.Answers.{OpensBook, OpenRefused}
use Rattle.unit_world.specs.Parts.{GrowsSpare}
use Rattle.unit_world.proofs.Sites.{UnitPlace, book-given, book-grows, book-ok, book-refused, part_after, two-refused, unit-called, world_before}
use Rattle.unit_world.proofs.Steps.{opens}
use Rattle.unit_world.proofs.site.PlainSite.open.Given.{Over}
use Rattle.unit_world.proofs.site.PlainSite.open.Goals.{After-open}
use Rattle.unit_world.proofs.site.PlainSite.open.Goals as goal

-- the unit that is called
abbrev called : (g : Over) (c : After-open g) → UnitPlace g.D.Device.meaning
called g c =
    unit-called c.self.inside.units.items c.self.inside.rows c.from.ensures c.requires.unit c.index_mut-side.ensures.value c.self.view_is
    c.self.invariant

pub invariant_of-self : goal.invariant_of-self
invariant_of-self g c =
    let k = called g (goal.at.invariant_of-self g c).After-open in
    book-grows _ k c.open.new.self c.open.result (c.open.ensures.ok) c.open.ensures.err
    (λ a h. opens g.D.Device.meaning (world_before _ k) (part_after _ k c.open.new.self) a c.args.method c.args.extents.now refl h)

pub returns-clause-ok : goal.returns-clause-ok
returns-clause-ok g c =
    book-ok _ (called g (goal.at.returns-clause-ok g c).After-open) c.open.new.self c.open.result
    (λ a b d. OpensBook g.D.Device.meaning b a c.args.method c.args.extents.now d) c.open.ensures.ok

pub returns-clause-err : goal.returns-clause-err
returns-clause-err g c =
    book-refused _ (called g (goal.at.returns-clause-err g c).After-open) c.open.new.self c.open.result GrowsSpare
    (two-refused c.open.result (λ same more. record { is = same; more = more }) c.open.ensures.err c.open.ensures.kept)

pub returns-clause-refused : goal.returns-clause-refused
returns-clause-refused g c =
    book-given _ (called g (goal.at.returns-clause-refused g c).After-open) c.open.new.self c.open.result
    (λ e b. OpenRefused g.D.Device.meaning b c.args.extents.now e) c.open.ensures.refused
