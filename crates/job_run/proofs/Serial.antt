-- What is printed of a run without controls is the text of its requests one at a time.
use Rattle.std.proofs.Common.{◌≡◌, ◌<◌, ◌+◌, ℕ, Option, Result, Ok, Err, IfOk, List, [], ◌++◌, length, map, refl, sym, ap, ◌∙◌, arith}
use Rattle.std.proofs.lemmas.Option.{slice_get_within}
use Rattle.request_piece.specs.PostedState.{PostedState}
use Rattle.request_piece.specs.declared.piece.Piece.{Piece}
use Rattle.any_device.specs.declared.device.AnyDevice.{AnyDevice}
use Rattle.unit_book.specs.Book.{Book}
use Rattle.job_script.specs.declared.fault.JobError.{JobError}
use Rattle.job_script.specs.Grammar.{FaultAt}
use Rattle.job_script.specs.Said.{Said}
use Rattle.job_mount.specs.Mounting.{◌>>=◌, books_with}
use Rattle.post_lines.specs.Lines.{count_text}
use Rattle.job_run.specs.Beginning.{AreBegunWith}
use Rattle.job_run.specs.Ending.{PrintsPosts}
use Rattle.job_run.specs.OneTask.{AreOfOneTask, task_after_task, unit_after_unit}
use Rattle.job_run.specs.Orders.{AreOrders, AsksNothing}
use Rattle.job_run.specs.Printing.{ended_slots, excp_count, posts_text, script_text, tasks_text}
use Rattle.job_run.specs.Ran.{Ran}
use Rattle.job_run.specs.Serial.{posts_of_tasks_text, serial_text}
use Rattle.job_run.specs.Serving.{IsOneAtATime, LeavesOneAtATime, WritesOneAtATime, left_text}
use Rattle.job_run.specs.declared.run.Finished.{Finished}
use Rattle.job_run.proofs.InOrder.{arrived, arrived_orders, serves_serially}
use Rattle.job_run.proofs.OneTask.{one_order, one_order_each}
use Rattle.job_run.proofs.Sized.{books_for, posts_sized, sized}

text_sized : (s : Said) (n : ℕ) (first : List (Book AnyDevice)) (orders : List (List Piece)) →
    serial_text s (map (sized n) first) orders ≡ serial_text s first orders
text_sized s n first orders =
    ap (λ (posts : List (List PostedState)). posts_of_tasks_text s.commands posts 0 s.set_up.tasks ++ count_text (excp_count s.commands))
    (posts_sized n first orders)

-- if one task uses each unit, only one order of its requests is possible
pub one_way : (s : Said) (orders : List (List Piece)) → AreOrders s orders → AreOfOneTask s →
    orders ≡ unit_after_unit s 0 (length s.set_up.units)
one_way s orders are one =
    one_order_each s 0 orders (λ k order at.
    let within : k < length s.set_up.units = omega (arith, slice_get_within orders k order at, are.count) in
    let same : k ≡ 0 + k = omega arith in
    one_order s k order (are.each k order at) (one k within)
    ∙ ap (λ (u : ℕ). task_after_task s.commands u 0 s.set_up.tasks) same)
    ∙ ap (unit_after_unit s 0) are.count

-- THE TEXT OF A RUN without controls is that of its requests one at a time
pub is_one_at_a_time : (given : List (Option AnyDevice)) (s : Said) (books : List (Book AnyDevice)) → AreBegunWith given s books →
    Ran s books → AsksNothing s → (text : List ℕ) → text ≡ posts_text s books → IsOneAtATime given s text
is_one_at_a_time given s books began ran unasked text is =
    let first : List (Book AnyDevice) = map (sized 1) began.first_books in
    let mounted : books_with given 1 s ≡ Ok first = books_for given 1 began.capacity s began.first_books began.mounted in
    let are = arrived_orders s books ran in
    let serves : text ≡ serial_text s first (arrived books) =
    is ∙ serves_serially given s books began ran unasked ∙ sym (text_sized s 1 began.first_books (arrived books)) in
    record {
      first_books = first;
      mounted = mounted;
      orders = arrived books;
      are_orders = are;
      text_is = serves;
      expected = λ one.
          ap (λ (r : Result (List (Book AnyDevice)) FaultAt). r >>= λ books. Ok (serial_text s books
          (unit_after_unit s 0 (length s.set_up.units)))) mounted
          ∙ ap (λ (orders : List (List Piece)). Ok (serial_text s first orders)) (sym (one_way s (arrived books) are one))
          ∙ ap (λ (t : List ℕ). Ok t) (sym serves);
    }

-- of what the tasks of a run left
pub leaves_one_at_a_time : {N : Type 0} (r : Result (Finished N) JobError) (given : List (Option AnyDevice)) (s : Said) →
    IfOk r (λ f. AreBegunWith given s f.report.books) → IfOk r (λ f. Ran s f.report.books) →
    IfOk r (λ f. tasks_text 0 (map ended_slots f.tasks.items) ≡ script_text s f.report.books) →
    IfOk r (λ f. LeavesOneAtATime given s f.tasks.items)
leaves_one_at_a_time (Ok f) given s began ran text = λ unasked.
    is_one_at_a_time given s f.report.books began ran unasked (left_text s f.tasks.items)
    (ap (λ (l : List ℕ). l ++ count_text (excp_count s.commands)) text)
leaves_one_at_a_time (Err fault) given s began ran text = tt

-- of what a run writes that reads a script
pub writes_one_at_a_time : {n : ℕ} {old new before after : Option (List ℕ)} → PrintsPosts n old new before after →
    WritesOneAtATime n old new before after
writes_one_at_a_time p = record {
  script = p.run.text;
  whole = p.run.whole;
  says = p.says;
  parsed = p.run.parsed;
  text = posts_text p.says p.books;
  written = p.printed;
  serial = λ unasked. is_one_at_a_time [] p.says p.books p.run.began p.run.ran unasked (posts_text p.says p.books) refl;
}
