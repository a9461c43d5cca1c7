-- The lines of slots that hold the first post of each number, are those of what the units posted.
use Rattle.std.proofs.Common.{◌≡◌, ◌<◌, ℕ, zero, suc, ◌+◌, List, [], ◌∷◌, ◌++◌, Option, Some, None, length, map, refl, ap, ◌∙◌, arith}
use Rattle.std.proofs.lemmas.List.{length-replicate}
use Rattle.std.specs.Prelude.{slice_get}
use Rattle.any_device.specs.declared.device.AnyDevice.{AnyDevice}
use Rattle.unit_book.specs.Book.{Book}
use Rattle.request_piece.specs.PostedState.{PostedState}
use Rattle.job_script.specs.Said.{CommandSaid, ExcpSaid}
use Rattle.post_lines.specs.Slots.{SlotState, posted_end, shown_in, waiting_slot}
use Rattle.post_lines.specs.Lines.{post_line, units_text, slot_line, task_text, unit_text}
use Rattle.job_run.specs.Filling.{slots_at}
use Rattle.job_run.specs.Printing.{books_text, excp_text, excps_text, first_numbered, posts_for, run_text, tasks_text}
use Rattle.job_run.specs.Requests.{excps}
use Rattle.job_run.proofs.Firsts.{posted_from, with_post}
use Rattle.job_run.proofs.Places.{at}

-- the slot of an EXCP that waits
abbrev pub slot_for : ExcpSaid → SlotState
slot_for e = waiting_slot e.show e.len

line_of : (task unit k : ℕ) (e : ExcpSaid) (o : Option PostedState) → slot_line task unit k (with_post o (slot_for e)) ≡ excp_text task unit k e o
line_of task unit k e None = refl
line_of task unit k e (Some p) =
    ap (λ (n : ℕ). post_line task unit k (posted_end p) (shown_in p.area e.show n)) (length-replicate e.len 0)

lines_of : (task unit k : ℕ) (es : List ExcpSaid) (posts : List PostedState) →
    unit_text task unit k (posted_from k posts (map slot_for es)) ≡ excps_text task unit k es posts
lines_of task unit k [] posts = refl
lines_of task unit k (e ∷ es) posts =
    ap (λ (l : List ℕ). l ++ unit_text task unit (k + 1) (posted_from (k + 1) posts (map slot_for es)))
    (line_of task unit k e (first_numbered k posts))
    ∙ ap (λ (l : List ℕ). excp_text task unit k e (first_numbered k posts) ++ l) (lines_of task unit (k + 1) es posts)

-- what the slots of a task at a unit hold after a run
abbrev pub holds : List CommandSaid → ℕ → ℕ → Book AnyDevice → List SlotState
holds commands task unit b = posted_from 1 (posts_for task b) (map slot_for (excps task unit commands))

module _ (commands : List CommandSaid) where
  books_from : (task : ℕ) (books : List (Book AnyDevice)) (slots : List (List SlotState)) (unit : ℕ) → length slots ≡ length books →
      ((i : ℕ) (b : Book AnyDevice) → slice_get books i ≡ Some b → at slots i ≡ holds commands task (unit + i) b) →
      units_text task unit slots ≡ books_text commands task unit books
  books_from task [] [] unit size each = refl
  books_from task [] (s ∷ ss) unit size each = absurd (omega (arith, size))
  books_from task (b ∷ books) [] unit size each = absurd (omega (arith, size))
  books_from task (b ∷ books) (s ∷ ss) unit size each =
      let none : unit + 0 ≡ unit = omega arith in
      let first : s ≡ holds commands task unit b = each 0 b refl ∙ ap (λ (u : ℕ). holds commands task u b) none in
      let rest : (i : ℕ) (x : Book AnyDevice) → slice_get books i ≡ Some x → at ss i ≡ holds commands task (unit + 1 + i) x =
      λ i x there. let next : unit + suc i ≡ unit + 1 + i = omega arith in
      each (suc i) x there ∙ ap (λ (u : ℕ). holds commands task u x) next in
      let es : List ExcpSaid = excps task unit commands in
      ap (λ (l : List SlotState). unit_text task unit 1 l ++ units_text task (unit + 1) ss) first
      ∙ ap (λ (l : List ℕ). l ++ units_text task (unit + 1) ss) (lines_of task unit 1 es (posts_for task b))
      ∙ ap (λ (l : List ℕ). excps_text task unit 1 es (posts_for task b) ++ l)
      (books_from task books ss (unit + 1) (omega (arith, size)) rest)

  -- the lines of a task
  pub books_by : (task : ℕ) (books : List (Book AnyDevice)) (slots : List (List SlotState)) → length slots ≡ length books →
      ((i : ℕ) (b : Book AnyDevice) → slice_get books i ≡ Some b → at slots i ≡ holds commands task i b) →
      task_text task slots ≡ books_text commands task 0 books
  books_by task books slots size each =
      books_from task books slots 0 size
      (λ i b there. let same : i ≡ 0 + i = omega arith in each i b there ∙ ap (λ (u : ℕ). holds commands task u b) same)

  -- the lines of all tasks
  pub tasks_by : (books : List (Book AnyDevice)) (n : ℕ) (tasks : List (List (List SlotState))) (task : ℕ) → length tasks ≡ n →
      ((t : ℕ) → t < n → task_text (task + t) (slots_at tasks t) ≡ books_text commands (task + t) 0 books) →
      tasks_text task tasks ≡ run_text commands books task n
  tasks_by books zero [] task size each = refl
  tasks_by books zero (s ∷ ss) task size each = absurd (omega (arith, size))
  tasks_by books (suc n) [] task size each = absurd (omega (arith, size))
  tasks_by books (suc n) (s ∷ ss) task size each =
      let none : task + 0 ≡ task = omega arith in
      let first : task_text task s ≡ books_text commands task 0 books =
      ap (λ (t : ℕ). task_text t s) (omega arith) ∙ each 0 (omega arith) ∙ ap (λ (t : ℕ). books_text commands t 0 books) none in
      let rest : (t : ℕ) → t < n → task_text (task + 1 + t) (slots_at ss t) ≡ books_text commands (task + 1 + t) 0 books =
      λ t few. let next : task + suc t ≡ task + 1 + t = omega arith in
      ap (λ (k : ℕ). task_text k (slots_at ss t)) (omega arith) ∙ each (suc t) (omega (arith, few))
      ∙ ap (λ (k : ℕ). books_text commands k 0 books) next in
      ap (λ (l : List ℕ). l ++ tasks_text (task + 1) ss) first
      ∙ ap (λ (l : List ℕ). books_text commands task 0 books ++ l) (tasks_by books n ss (task + 1) (omega (arith, size)) rest)
