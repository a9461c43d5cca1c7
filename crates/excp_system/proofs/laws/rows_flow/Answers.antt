use Rattle.std.proofs.Common.{◌≡◌, ◌++◌, List, sym, ap, ◌∙◌}
use Rattle.device_port.specs.Meaning.{Meaning}
use Rattle.request_piece.specs.PostedState.{PostedState}
use Rattle.unit_book.specs.Book.{Book, given}
use Rattle.unit_book.specs.Posts.{posted}
use Rattle.fifo_row.specs.Lists.{of_sender}
use Rattle.fifo_row.proofs.Filters.{of-append}
use Rattle.excp_system.specs.Flows.{HasSent}
use Rattle.excp_system.specs.Sites.{task_of, for_task}
use Rattle.excp_system.proofs.laws.rows_flow.Goals as goal

-- what was posted of a task is what the unit has sent it, and then what is out
posted-of : {D : Type 0} (meaning : Meaning D) (b : Book D) (task : _) (sent on_rows : List PostedState) → HasSent meaning b task sent →
    on_rows ≡ sent →
    of_sender for_task task (posted meaning b.mounted b.trace) ≡ on_rows ++ of_sender for_task task b.out
posted-of meaning b task sent on_rows has all =
    ap (of_sender for_task task) (sym has.given_is) ∙ of-append for_task task (given meaning b) b.out
    ∙ ap (λ l. l ++ of_sender for_task task b.out) (sym (all ∙ has.sent_is))

pub returns-clause-intake : goal.returns-clause-intake
returns-clause-intake g c = λ b items views v w pass taker at sends taken.
    ap (λ l. of_sender task_of w.number (l ++ items)) (sym taken) ∙ c.flows.ensures.seated items views v w pass taker at sends

pub returns-clause-met_intake : goal.returns-clause-met_intake
returns-clause-met_intake g c = λ b items views v task sent taker met taken.
    ap (λ l. of_sender task_of task (l ++ items)) (sym taken) ∙ c.flows.ensures.met items views v task sent taker met

pub returns-clause-posts : goal.returns-clause-posts
returns-clause-posts g c = λ b task items views v w pass taker at sends has.
    posted-of g.D.Device.meaning b task w.sent _ has (c.flows-2.ensures.seated items views v w pass taker at sends)

pub returns-clause-met_posts : goal.returns-clause-met_posts
returns-clause-met_posts g c = λ b task unit items views v sent taker met has.
    posted-of g.D.Device.meaning b task sent _ has (c.flows-2.ensures.met items views v unit sent taker met)
