use Rattle.unit_book.proofs.Names.{sym, ◌∙◌, Halt}
use Rattle.unit_book.proofs.Controls.{halts-none, halts-active}
use Rattle.unit_book.proofs.entries.Entries.running_of.Goals as goal

pub returns-then-not-is_running : goal.returns-then-not-is_running
returns-then-not-is_running g c =
    let b = c.args.self.now in
    halts-none g.D.Device.meaning b.mounted c.args.scope Halt b.trace (sym c.is_running.ensures ∙ c.if-not-is_running.true)

pub returns : goal.returns
returns g c =
    let b = c.args.self.now in
    rw c.active_of.ensures
    (halts-active g.D.Device.meaning b.mounted c.args.scope b.trace (sym c.is_running.ensures ∙ c.if-not-is_running.false))
