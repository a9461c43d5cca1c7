-- WHAT A SCRIPT PRINTS if each unit serves one request at a time: a line for each of its EXCPs, by the books that the units begin
-- with and an order of the requests to each (profile).
use Rattle.std.specs.Prelude.{ℕ, zero, suc, ◌+◌, List, [], ◌∷◌, ◌++◌}
use Rattle.request_piece.specs.PostedState.{PostedState}
use Rattle.request_piece.specs.declared.piece.Piece.{Piece}
use Rattle.any_device.specs.Devices.{any_device}
use Rattle.any_device.specs.declared.device.AnyDevice.{AnyDevice}
use Rattle.unit_book.specs.Book.{Book}
use Rattle.unit_book.specs.Dcbs.{openings}
use Rattle.serial_order.specs.OneAtATime.{one_at_a_time}
use Rattle.fifo_row.specs.Lists.{of_sender}
use Rattle.excp_system.specs.Sites.{for_task}
use Rattle.job_script.specs.Said.{CommandSaid, Said}
use Rattle.post_lines.specs.Lines.{count_text}
use Rattle.job_run.specs.Printing.{excp_count, excps_text}
use Rattle.job_run.specs.Requests.{excps}

-- the posts of a unit that begins with this book, and serves these requests one at a time
abbrev pub serial_posts : Book AnyDevice → List Piece → List PostedState
serial_posts book order = one_at_a_time any_device book.mounted (openings book.trace) order

-- the posts of each unit, by its book and its order
abbrev pub all_serial_posts : List (Book AnyDevice) → List (List Piece) → List (List PostedState)
all_serial_posts [] orders = []
all_serial_posts (book ∷ books) [] = []
all_serial_posts (book ∷ books) (order ∷ orders) = serial_posts book order ∷ all_serial_posts books orders

-- the lines of a task's EXCPs to the units from this one on, by the posts of each unit
abbrev pub posts_of_task_text : List CommandSaid → ℕ → ℕ → List (List PostedState) → List ℕ
posts_of_task_text commands task unit [] = []
posts_of_task_text commands task unit (posts ∷ others) =
    excps_text task unit 1 (excps task unit commands) (of_sender for_task task posts) ++ posts_of_task_text commands task (unit + 1) others

-- the lines of several tasks, of which this is the first, by the posts of each unit
abbrev pub posts_of_tasks_text : List CommandSaid → List (List PostedState) → ℕ → ℕ → List ℕ
posts_of_tasks_text commands posts task zero = []
posts_of_tasks_text commands posts task (suc tasks) =
    posts_of_task_text commands task 0 posts ++ posts_of_tasks_text commands posts (task + 1) tasks

-- THE TEXT OF A SCRIPT whose units begin with these books, and serve the requests in these orders one at a time
abbrev pub serial_text : Said → List (Book AnyDevice) → List (List Piece) → List ℕ
serial_text s first_books orders =
    posts_of_tasks_text s.commands (all_serial_posts first_books orders) 0 s.set_up.tasks ++ count_text (excp_count s.commands)
