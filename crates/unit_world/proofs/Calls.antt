-- Which step each call of a site makes.
use Rattle.std.proofs.Common.{◌≡◌, ℕ, refl, sym, subst}
use Rattle.device_port.specs.Meaning.{Meaning}
use Rattle.unit_book.specs.Answers.{OpensBook}
use Rattle.unit_book.specs.Book.{Book}
use Rattle.unit_book.specs.Steps.{StepsBook}
use Rattle.unit_world.specs.Calls.{CallsMakeSteps}
use Rattle.unit_world.specs.Parts.{UnitPart, PartAccepts, PartTakesOne}
use Rattle.unit_world.specs.Sites.{SiteState, OnBook, SettlesBook, StepsUnit, world_at}
use Rattle.unit_world.specs.States.{MakesStep, MakesSteps, StepName, CollectStep, DeliverStep}
use Rattle.unit_world.proofs.Deliveries.{collect-steps, deliver-steps}
use Rattle.unit_world.proofs.Sites.{unit-settles, unit-steps}
use Rattle.unit_world.proofs.Steps.{accepts, calls, opens, settles, takes}

-- what a call of a book does to a unit
abbrev OfBook : {D : Type 0} → (Book D → Book D → Type 0) → UnitPart D → UnitPart D → Type 0
OfBook Does p q = Does p.book q.book × (q ≡ record p { book = q.book })

module _ {D : Type 0} (meaning : Meaning D) where
  by-book : (old new : SiteState D) (unit : ℕ) {name : StepName} (Does : Book D → Book D → Type 0) → OnBook old unit Does new →
      ((p q : UnitPart D) → q ≡ record p { book = q.book } → Does p.book q.book →
      MakesStep meaning name (world_at old unit p) (world_at old unit q)) → StepsUnit meaning name old unit new
  by-book old new unit Does h f = unit-steps meaning old new unit (OfBook Does) h (λ p q d. f p q d.1 d.0)

  pub calls-make-steps : CallsMakeSteps meaning
  calls-make-steps = record {
    accepts = λ old new r h. unit-steps meaning old new r.unit (λ p q. PartAccepts p r q) h
        (λ p q d. accepts meaning (world_at old r.unit p) q r refl d);
    takes = λ old new unit name h. unit-steps meaning old new unit (λ p q. PartTakesOne meaning p name q) h
        (λ p q d. takes meaning (world_at old unit p) q name d);
    opens = λ old new unit dcb method extents h. by-book old new unit (λ b c. OpensBook meaning b dcb method extents c) h
        (λ p q same d. opens meaning (world_at old unit p) q dcb method extents same d);
    steps = λ old new unit step answer h. by-book old new unit (λ b c. StepsBook meaning b step answer c) h
        (λ p q same d. calls meaning (world_at old unit p) q step answer same d);
    delivers = λ old new unit name site h. subst (StepsUnit meaning (DeliverStep name) old unit) (sym h.is)
        (deliver-steps meaning old unit name h.out h.room site);
    collects = λ old new task value site first h. subst (StepsUnit meaning (CollectStep task value.name) old value.unit) (sym h)
        (collect-steps meaning old task site value first);
    settles = λ old new unit h. unit-settles meaning old new unit (OfBook (SettlesBook meaning)) h
        (λ p q d. subst (λ x. MakesSteps meaning (world_at old unit p) (world_at old unit x)) (sym d.1)
        (settles meaning (world_at old unit p) q.book (d.0).settles));
  }
