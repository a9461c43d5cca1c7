use Rattle.std.proofs.Common.{◌≡◌, ◌∙◌, length, sym, ap, subst, true}
use Rattle.tape_unit.specs.Item.{Item, content_of, is_item}
use Rattle.tape_unit.proofs.Spelled.{content_of-item_with, item_with-fits}
use Rattle.tape_unit.proofs.stored.Stored.len.Goals as goal

pub returns-clause-len : goal.returns-clause-len
returns-clause-len c =
    sym (ap length (content_of-item_with c.self.inside.content.now))
    ∙ ap (λ (x : Item). length (content_of x)) c.self.view_is

pub returns-clause-item : goal.returns-clause-item
returns-clause-item c =
    subst (λ (x : Item). is_item x ≡ true) c.self.view_is (item_with-fits c.self.inside.content.now c.self.invariant)
