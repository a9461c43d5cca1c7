-- The text of a run without controls is that of units that serve one request at a time, in the order of arrival.
use Rattle.std.proofs.Common.{◌≡◌, ◌<◌, ◌+◌, ℕ, zero, suc, Option, Some, List, [], ◌∷◌, ◌++◌, map, refl, sym, subst, ap, ◌∙◌}
use Rattle.std.specs.Prelude.{slice_get}
use Rattle.std.proofs.lemmas.List.{length-map}
use Rattle.any_device.specs.Devices.{any_device}
use Rattle.any_device.specs.declared.device.AnyDevice.{AnyDevice}
use Rattle.request_piece.specs.PostedState.{PostedState}
use Rattle.request_piece.specs.declared.piece.Name.{Name}
use Rattle.request_piece.specs.declared.piece.Piece.{Piece}
use Rattle.unit_book.specs.Book.{Book}
use Rattle.unit_book.specs.Lists.{Each}
use Rattle.unit_book.specs.Posts.{posted}
use Rattle.unit_book.specs.Settle.{IsIdle}
use Rattle.unit_book.specs.Trace.{arrivals}
use Rattle.unit_book.specs.declared.entry.Entry.{Entry}
use Rattle.unit_book.proofs.Facts.{fresh-post}
use Rattle.unit_book.proofs.LegalFacts.{facts}
use Rattle.unit_book.proofs.NameLaws.{arrived-any}
use Rattle.unit_book.specs.Dcbs.{openings}
use Rattle.serial_order.specs.Laws.{IsUncontrolled, value_of}
use Rattle.serial_order.specs.OneAtATime.{one_at_a_time}
use Rattle.serial_order.proofs.InOrder.{serves-in-order}
use Rattle.serial_order.proofs.Values.{value-none}
use Rattle.fifo_row.specs.Lists.{of_sender}
use Rattle.excp_system.specs.Begun.{Continues}
use Rattle.excp_system.specs.Sites.{for_task, task_of}
use Rattle.post_ledger.proofs.Pairs.{all_get, get_map}
use Rattle.job_script.specs.Said.{CommandSaid, ExcpSaid, Said}
use Rattle.post_lines.specs.Lines.{count_text}
use Rattle.job_run.specs.Beginning.{AreBegunWith}
use Rattle.job_run.specs.Printing.{books_text, excp_count, excps_text, posts_text, run_text}
use Rattle.job_run.specs.Ran.{Ran}
use Rattle.job_run.specs.Requests.{excps}
use Rattle.job_run.specs.Orders.{AreOrders, AsksNothing, IsOrder}
use Rattle.job_run.specs.Serial.{all_serial_posts, posts_of_task_text, posts_of_tasks_text, serial_posts, serial_text}
use Rattle.job_run.proofs.Found.{first_named, same_lines, same_posts}
use Rattle.job_run.proofs.Openings.{asks_none, same_openings}

-- the requests to each unit, in the order of arrival
abbrev pub arrived : List (Book AnyDevice) → List (List Piece)
arrived books = map (λ (b : Book AnyDevice). arrivals b.trace) books

-- a unit posted for each name what it posts if it begins with this book, and serves in the order of arrival
abbrev pub PostsInOrder : Book AnyDevice → Book AnyDevice → Type 0
PostsInOrder first b = (n : Name) → value_of n (posted any_device b.mounted b.trace) ≡ value_of n (serial_posts first (arrivals b.trace))

-- of each unit: the first books may be more
abbrev pub AllPostInOrder : List (Book AnyDevice) → List (Book AnyDevice) → Type 0
AllPostInOrder first [] = Unit {0}
AllPostInOrder [] (b ∷ books) = ⊥
AllPostInOrder (f ∷ first) (b ∷ books) = PostsInOrder f b × AllPostInOrder first books

-- THE POSTS OF A UNIT without controls, which began with a book, are those that it gives one at a time
pub posts_in_order : (first b : Book AnyDevice) → Continues first b → openings b.trace ≡ openings first.trace →
    IsUncontrolled any_device b.mounted b.trace → IsIdle b.trace → PostsInOrder first b
posts_in_order first b continues opened free idle n =
    let H : List Entry = b.trace in
    let f = facts any_device b.mounted H free.legal in
    let each = (serves-in-order any_device).values b.mounted H free idle in
    same_posts (arrivals H) (posted any_device b.mounted H) (one_at_a_time any_device b.mounted (openings H) (arrivals H)) n each
    (λ none. value-none any_device b.mounted n H free.legal (fresh-post n H f (arrived-any n H ∙ none)))
    ∙ ap (λ (d : AnyDevice). value_of n (one_at_a_time any_device d (openings H) (arrivals H))) continues.mounted
    ∙ ap (λ (O : List Entry). value_of n (one_at_a_time any_device first.mounted O (arrivals H))) opened

-- what holds at each place holds of all
all_in_order : (first books : List (Book AnyDevice)) → ((u : ℕ) (b : Book AnyDevice) → slice_get books u ≡ Some b →
    (f : Book AnyDevice) × (slice_get first u ≡ Some f) × PostsInOrder f b) → AllPostInOrder first books
all_in_order first [] each = tt
all_in_order [] (b ∷ books) each = let e = each 0 b refl in absurd (cc e.1)
all_in_order (f ∷ first) (b ∷ books) each =
    let e = each 0 b refl in
    let is : e.0 ≡ f = cc e.1 in
    (subst (λ (x : Book AnyDevice). PostsInOrder x b) is e.2, all_in_order first books (λ u x at. each (suc u) x at))

module _ (commands : List CommandSaid) where
  task_text : (task unit : ℕ) (first books : List (Book AnyDevice)) → AllPostInOrder first books →
      books_text commands task unit books ≡ posts_of_task_text commands task unit (all_serial_posts first (arrived books))
  task_text task unit [] [] all = refl
  task_text task unit (f ∷ first) [] all = refl
  task_text task unit [] (b ∷ books) all = absurd all
  task_text task unit (f ∷ first) (b ∷ books) all =
      let es : List ExcpSaid = excps task unit commands in
      let ps : List PostedState = posted any_device b.mounted b.trace in
      let vs : List PostedState = serial_posts f (arrivals b.trace) in
      ap (λ (l : List ℕ). l ++ books_text commands task (unit + 1) books)
      (same_lines task unit 1 es (of_sender for_task task ps) (of_sender for_task task vs)
      (λ k. first_named task k ps ∙ all.0 (record { task = task; seq = k }) ∙ sym (first_named task k vs)))
      ∙ ap (λ (l : List ℕ). excps_text task unit 1 es (of_sender for_task task vs) ++ l) (task_text task (unit + 1) first books all.1)

  tasks_text : (first books : List (Book AnyDevice)) → AllPostInOrder first books → (task tasks : ℕ) →
      run_text commands books task tasks ≡ posts_of_tasks_text commands (all_serial_posts first (arrived books)) task tasks
  tasks_text first books all task zero = refl
  tasks_text first books all task (suc tasks) =
      ap (λ (l : List ℕ). l ++ run_text commands books (task + 1) tasks) (task_text task 0 first books all)
      ∙ ap (λ (l : List ℕ). posts_of_task_text commands task 0 (all_serial_posts first (arrived books)) ++ l)
      (tasks_text first books all (task + 1) tasks)

-- what arrived at the units are orders of their requests
pub arrived_orders : (s : Said) (books : List (Book AnyDevice)) → Ran s books → AreOrders s (arrived books)
arrived_orders s books ran = record {
  count = length-map books (λ (b : Book AnyDevice). arrivals b.trace) ∙ ran.count;
  each = λ u order at.
      let b = get_map (λ (x : Book AnyDevice). arrivals x.trace) books u order at in
      subst (IsOrder s u) (sym b.2) (record {
        of_each = λ t few. ran.received t u b.0 few b.1;
        of_tasks = all_get (λ (x : Book AnyDevice). Each (λ (r : Piece). task_of r < s.set_up.tasks) (arrivals x.trace)) books u b.0
            ran.of_tasks b.1;
      });
}

-- EACH RUN WITHOUT CONTROLS prints what units print that serve one request at a time
pub serves_serially : (given : List (Option AnyDevice)) (s : Said) (books : List (Book AnyDevice)) (began : AreBegunWith given s books) →
    Ran s books → AsksNothing s → posts_text s books ≡ serial_text s began.first_books (arrived books)
serves_serially given s books began ran unasked =
    ap (λ (l : List ℕ). l ++ count_text (excp_count s.commands))
    (tasks_text s.commands began.first_books books
    (all_in_order began.first_books books (λ u b at.
    let c = began.controlled u b at in
    let e = began.began u b at in
    let same : e.first ≡ c.first = cc (e.is, c.is) in (
      c.first,
      c.is,
      posts_in_order c.first b (subst (λ (f : Book AnyDevice). Continues f b) same e.continues)
          (same_openings c.controlled) (ran.uncontrolled u b at (asks_none s unasked u))
          (all_get (λ (x : Book AnyDevice). IsIdle x.trace) books u b ran.idle at),
    ))) 0 s.set_up.tasks)
