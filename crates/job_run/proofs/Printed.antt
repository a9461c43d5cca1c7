-- The slots of a run that ended make the lines of what its units posted.
use Rattle.std.proofs.Common.{◌≡◌, ◌<◌, ℕ, zero, suc, Result, Ok, Err, Some, IfOk, List, [], ◌∷◌, ◌++◌, ◌+◌, length, get_or, map, replicate, subst, sym, ap, ◌∙◌, arith}
use Rattle.std.specs.Prelude.{slice_get, vec_len}
use Rattle.std.proofs.lemmas.List.{append-nil, length-map, length-replicate, nil_from_length}
use Rattle.std.proofs.lemmas.Option.{slice_get_within, slice_get-get_or}
use Rattle.any_device.specs.Devices.{any_device}
use Rattle.any_device.specs.declared.device.AnyDevice.{AnyDevice}
use Rattle.unit_book.specs.Book.{Book}
use Rattle.request_piece.specs.PostedState.{PostedState}
use Rattle.fifo_row.specs.Lists.{of_sender}
use Rattle.excp_system.proofs.Places.{index_replicate}
use Rattle.excp_system.specs.Opening.{fresh_task}
use Rattle.excp_system.specs.Sites.{unit_of}
use Rattle.excp_system.specs.States.{TaskState}
use Rattle.post_ledger.proofs.Pairs.{get_map, get_there}
use Rattle.post_ledger.specs.Report.{IsFor, ReportState, list_at}
use Rattle.post_ledger.specs.Work.{lists_of}
use Rattle.system_threads.specs.Running.{Accounts}
use Rattle.job_script.specs.declared.fault.JobError.{JobError}
use Rattle.job_script.specs.Views.{said}
use Rattle.job_script.specs.declared.script.Script.{Script}
use Rattle.post_lines.specs.Slots.{SlotState, filled_by_all}
use Rattle.post_lines.specs.Lines.{task_text}
use Rattle.job_run.specs.declared.run.Finished.{Finished}
use Rattle.job_run.specs.declared.task_end.TaskEnd.{TaskEnd}
use Rattle.job_run.specs.declared.task_error.TaskError.{TaskError}
use Rattle.job_run.specs.Filling.{EndedBy, FillsOwn, FillsSlots, RunsScript, listed_from, slots_at, slots_for}
use Rattle.job_run.specs.Printing.{books_text, ended_slots, posts_for, script_text, tasks_text}
use Rattle.job_run.specs.Requests.{excps}
use Rattle.job_run.specs.Sending.{DoesScript}
use Rattle.job_run.proofs.Expected.{expects_at, expects_length}
use Rattle.job_run.proofs.Firsts.{filled_all, holds_firsts}
use Rattle.job_run.proofs.Held.{books_by, holds, slot_for, tasks_by}
use Rattle.job_run.proofs.Places.{all-append, at, by_all_at, by_all_length, listed_at, listed_length}
use Rattle.job_run.proofs.Rans.{own_of}

-- the tasks do the commands of the script
pub does_accounts : {N : Type 0} (script : Script) (units count : ℕ) (opened : List (Book AnyDevice)) (report : ReportState AnyDevice)
    (outcomes : List (Result (TaskEnd N) TaskError)) → Accounts any_device (RunsScript script) units count opened report outcomes →
    Accounts any_device (DoesScript script.commands.items) units count opened report outcomes
does_accounts script units count opened report outcomes a = record {
  tasks = a.tasks;
  placed = a.placed;
  run = record { count_is = a.run.count_is; each = λ t w o at_t at_o. (a.run.each t w o at_t at_o).does };
  received = a.received;
  controlled = a.controlled;
  posted_once = a.posted_once;
  returned = a.returned;
}

-- what is filled by a task, from what it did
pub fills_own : {N : Type 0} (r : Result (TaskEnd N) TaskError) (script : Script) (old new : TaskState) →
    IfOk r (λ end. FillsSlots old.got (slots_for script old.number) new.got (ended_slots end)) → FillsOwn script old new r
fills_own (Ok end) script old new fills = fills
fills_own (Err fault) script old new fills = tt

there_is : {X : Type 0} (f : X → List (List SlotState)) (xs : List X) (k : ℕ) (x : X) → slice_get xs k ≡ Some x → slots_at (map f xs) k ≡ f x
there_is f [] k x is = absurd (cc is)
there_is f (y ∷ xs) zero x is = ap f (cc is)
there_is f (y ∷ xs) (suc k) x is = there_is f xs k x is

module _ {N : Type 0} (script : Script) (units count : ℕ) (opened : List (Book AnyDevice)) (report : ReportState AnyDevice)
    (outcomes : List (Result (TaskEnd N) TaskError)) (a : Accounts any_device (RunsScript script) units count opened report outcomes)
    (last : List (TaskEnd N)) (e : EndedBy report.lists outcomes last) (is_for : IsFor units count report)
    (same : script.set_up.tasks ≡ count) (sized : vec_len script.set_up.units ≡ units) where
  -- a task, and what its slots hold that it has left
  record Left (t : ℕ) : Type 0 where
    task : TaskState
    there : slice_get a.tasks t ≡ Some task
    slots : slots_at (map ended_slots e.first) t ≡ filled_by_all task.got (slots_for script t)

  left_by : (t : ℕ) → t < count → Left t
  left_by t few =
      let w : TaskState = get_or a.tasks t (fresh_task units t) in
      let there : slice_get a.tasks t ≡ Some w =
      slice_get-get_or a.tasks t (fresh_task units t) (omega (arith, few, a.placed.count_is)) in
      let o = get_there outcomes a.tasks t w (sym a.run.count_is) there in
      let end = get_map own_of e.first t o.0
      (subst (λ (l : List (Result (TaskEnd N) TaskError)). slice_get l t ≡ Some o.0) (sym e.made) o.1) in
      let fills : FillsSlots [] (slots_for script t) w.got (ended_slots end.0) =
      subst (FillsOwn script (fresh_task units t) w) end.2 (a.run.each t w o.0 there o.1).fills in
      record {
        task = w;
        there = there;
        slots = there_is ended_slots e.first t end.0 end.1 ∙ fills.filled_is
            ∙ ap (λ (l : List PostedState). filled_by_all l (slots_for script t)) (sym fills.got);
      }

  count_first : length (map ended_slots e.first) ≡ count
  count_first =
      length-map e.first ended_slots ∙ sym (length-map e.first own_of)
      ∙ ap (λ (l : List (Result (TaskEnd N) TaskError)). length l) e.made ∙ a.run.count_is ∙ a.placed.count_is

  -- the slots of a task in the end
  task_slots : (t : ℕ) → t < count → (k : Left t) →
      slots_at (map ended_slots last) t ≡ listed_from 0 (lists_of report.lists t) (filled_by_all k.task.got (slots_for script t))
  task_slots t few k =
      e.listed.each t (omega (arith, few, count_first)) ∙ ap (listed_from 0 (lists_of report.lists t)) k.slots

  held : (t : ℕ) → t < count → (u : ℕ) (b : Book AnyDevice) → slice_get report.books u ≡ Some b →
      at (slots_at (map ended_slots last) t) u ≡ holds (said script).commands t u b
  held t few u b at_u =
      let k = left_by t few in
      let own : List (List SlotState) = slots_for script t in
      let rest : List PostedState = list_at report t u in
      let got : List PostedState = of_sender unit_of u k.task.got in
      let none : List (List SlotState) = replicate (vec_len script.set_up.units) [] in
      let within : u < length none =
      omega (arith, slice_get_within report.books u b at_u, is_for.of_units, sized, length-replicate {A = List SlotState} (vec_len script.set_up.units) []) in
      let blank : at own u ≡ map slot_for (excps t u (said script).commands) =
      expects_at t u script.commands.items none within
      ∙ ap (λ (l : List SlotState). l ++ map slot_for (excps t u (said script).commands)) (index_replicate (vec_len script.set_up.units) u []) in
      ap (λ (s : List (List SlotState)). at s u) (task_slots t few k)
      ∙ listed_at (lists_of report.lists t) 0 u u (filled_by_all k.task.got own) (omega arith)
      ∙ ap (filled_all rest) (by_all_at k.task.got own u)
      ∙ sym (all-append got rest (at own u))
      ∙ ap (λ (ps : List PostedState). filled_all ps (at own u)) (a.returned u t b k.task at_u k.there)
      ∙ ap (filled_all (posts_for t b)) blank
      ∙ holds_firsts (posts_for t b) (map slot_for (excps t u (said script).commands))

  slots_count : (t : ℕ) → t < count → length (slots_at (map ended_slots last) t) ≡ length report.books
  slots_count t few =
      let k = left_by t few in
      let own : List (List SlotState) = slots_for script t in
      ap (λ (s : List (List SlotState)). length s) (task_slots t few k)
      ∙ listed_length (lists_of report.lists t) 0 (filled_by_all k.task.got own)
      ∙ by_all_length k.task.got own
      ∙ expects_length t script.commands.items (replicate (vec_len script.set_up.units) [])
      ∙ length-replicate (vec_len script.set_up.units) [] ∙ sized ∙ sym is_for.of_units

  pub printed : tasks_text 0 (map ended_slots last) ≡ script_text (said script) report.books
  printed =
      let size : length (map ended_slots last) ≡ script.set_up.tasks = e.listed.count ∙ count_first ∙ sym same in
      tasks_by (said script).commands report.books script.set_up.tasks (map ended_slots last) 0 size
      (λ t few.
      let zero_is : 0 + t ≡ t = omega arith in
      let inside : t < count = omega (arith, few, same) in
      let slots : List (List SlotState) = slots_at (map ended_slots last) t in
      ap (λ (k : ℕ). task_text k slots) zero_is
      ∙ books_by (said script).commands t report.books slots (slots_count t inside) (held t inside)
      ∙ ap (λ (k : ℕ). books_text (said script).commands k 0 report.books) (sym zero_is))

-- what follows of a run that ended
pub printed_of : {N : Type 0} (r : Result (Finished N) JobError) (script : Script) (units count : ℕ)
    (opened : List (Book AnyDevice)) (report : ReportState AnyDevice) (outcomes : List (Result (TaskEnd N) TaskError)) → Accounts any_device (RunsScript script) units count opened report outcomes →
    IsFor units count report → script.set_up.tasks ≡ count → vec_len script.set_up.units ≡ units →
    IfOk r (λ finished. finished.report ≡ report) → IfOk r (λ finished. EndedBy report.lists outcomes finished.tasks.items) →
    IfOk r (λ finished. tasks_text 0 (map ended_slots finished.tasks.items) ≡ script_text (said script) finished.report.books)
printed_of (Ok f) script units count opened report outcomes a is_for same sized is ended =
    printed script units count opened report outcomes a f.tasks.items ended is_for same sized
    ∙ ap (λ (x : ReportState AnyDevice). script_text (said script) x.books) (sym is)
printed_of (Err fault) script units count opened report outcomes a is_for same sized is ended = tt

-- the outcomes are the ends of these tasks
pub all_made : {A E : Type 0} (tasks : List A) (rest outcomes : List (Result A E)) → map (own_of {E = E}) tasks ++ rest ≡ outcomes →
    length rest ≡ 0 → map (own_of {E = E}) tasks ≡ outcomes
all_made {A} {E} tasks rest outcomes made none =
    sym (ap (λ (l : List (Result A E)). map own_of tasks ++ l) (nil_from_length rest none) ∙ append-nil (map own_of tasks)) ∙ made
