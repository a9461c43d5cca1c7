-- What a unit and a task do at the end of a run.
use Rattle.std.proofs.Common.{Vec, replicate, ◌≡◌, ℕ, zero, suc, ◌<◌, true, List, [], ◌∷◌, ◌++◌, length, set, refl, sym, ap, get_or, ◌∙◌}
use Rattle.std.proofs.Common.{subst, arith, append_assoc}
use Rattle.std.specs.Prelude.{slice_get}
use Rattle.std.specs.List.{list_all}
use Rattle.std.proofs.lemmas.List.{append-nil, get_or-map, length-map, map-set, get_or-set_same, get_or-set_other}
use Rattle.std.proofs.lemmas.Option.{slice_get-get_or}
use Rattle.std.proofs.Math.ListN.{length-set}
use mathlib.Core.Logic.{dite}
use native.Mathlib.Decide.{ℕ_discrete}
use Rattle.device_port.specs.Meaning.{Meaning}
use Rattle.request_piece.specs.PostedState.{PostedState}
use Rattle.request_piece.specs.declared.piece.Piece.{Piece}
use Rattle.io_images.specs.Images.{no_status}
use Rattle.io_images.specs.declared.code.Code.TheVariants.{Purged}
use Rattle.unit_book.specs.declared.entry.Entry.{Entry}
use Rattle.unit_book.specs.declared.entry.Entry.TheVariants.{Opened, Arrive, Start, Ran, Halted, Purge, Close, Reset, Post}
use Rattle.unit_book.specs.Book.{Book}
use Rattle.unit_book.specs.Dcbs.{doomed}
use Rattle.unit_book.specs.Dooms.{all_posted, after_dooms}
use Rattle.unit_book.specs.Settle.{AddsService, is_service}
use Rattle.unit_book.proofs.Lists.{all-append, all-weaker}
use Rattle.fifo_row.specs.Lists.{of_sender}
use Rattle.fifo_row.proofs.Filters.{of-append, of-snoc_same, of-snoc_other}
use Rattle.excp_system.proofs.Places.{get_set_other, index_replicate, some_is}
use Rattle.excp_system.specs.Drained.{ArePlaced}
use Rattle.excp_system.specs.RowCalls.{TakesIn}
use Rattle.excp_system.specs.Opening.{AreTasks}
use Rattle.excp_system.specs.Sites.{SiteRows, unit_of}
use Rattle.excp_system.specs.States.{Locked, TaskState}
use Rattle.unit_book.specs.declared.answer.Intake.{Intake}
use Rattle.unit_book.specs.declared.answer.Intake.TheVariants as intake
use Rattle.post_ledger.specs.Parting.{Paired}
use Rattle.post_ledger.specs.Work.{CollectsAll, Gathers, Works, is_work, list_of, lists_of, items_of_all}
use Rattle.post_ledger.proofs.Pairs.{get_there, new_is, there}

-- what was added, to a list of entries
record Adds (old new : List Entry) : Type 0 where
  pub later : List Entry
  pub is : new ≡ later ++ old
  pub only : list_all is_work later ≡ true

adds_none : (H : List Entry) → Adds H H
adds_none H = record { later = []; is = refl; only = refl }

adds_more : (H G K : List Entry) → Adds H G → Adds G K → Adds H K
adds_more H G K a b = record {
  later = b.later ++ a.later;
  is = b.is ∙ ap (λ x. b.later ++ x) a.is ∙ sym (append_assoc b.later a.later H);
  only = all-append is_work b.later a.later b.only a.only;
}

adds_one : (e : Entry) (H : List Entry) → is_work e ≡ true → Adds H (e ∷ H)
adds_one e H s = record { later = e ∷ []; is = refl; only = rw s refl }

adds_posts : (rs : List Piece) (H : List Entry) → Adds H (all_posted rs H)
adds_posts [] H = adds_none H
adds_posts (r ∷ rs) H =
    let G = Post r.name no_status 0 Purged ∷ H in
    adds_more H G (all_posted rs G) (adds_one (Post r.name no_status 0 Purged) H refl) (adds_posts rs G)

service_is_work : (e : Entry) → is_service e ≡ true → is_work e ≡ true
service_is_work (Start n) h = refl
service_is_work (Ran n j) h = refl
service_is_work (Post n csw sense code) h = refl
service_is_work (Opened d i x) h = absurd (cc h)
service_is_work (Arrive r) h = refl
service_is_work (Halted n) h = absurd (cc h)
service_is_work (Purge s m) h = absurd (cc h)
service_is_work (Close d) h = absurd (cc h)
service_is_work (Reset d) h = absurd (cc h)

module _ {D : Type 0} where
  works_by : (old new : Locked D) → new.unit ≡ old.unit → new.book.mounted ≡ old.book.mounted → Adds old.book.trace new.book.trace →
      Works old new
  works_by old new u m a = record { unit = u; book = record { mounted = m; later = a.later; is = a.is; only = a.only } }

  pub works_none : (old : Locked D) → Works old old
  works_none old = works_by old old refl refl (adds_none old.book.trace)

  pub works_same : (old new : Locked D) → new.unit ≡ old.unit → new.book.mounted ≡ old.book.mounted → new.book.trace ≡ old.book.trace →
      Works old new
  works_same old new u m t = works_by old new u m (record { later = []; is = t; only = refl })

  pub works_more : (a b c : Locked D) → Works a b → Works b c → Works a c
  works_more a b c x y = record {
    unit = y.unit ∙ x.unit;
    book = record {
      mounted = y.book.mounted ∙ x.book.mounted;
      later = y.book.later ++ x.book.later;
      is = y.book.is ∙ ap (λ l. y.book.later ++ l) x.book.is ∙ sym (append_assoc y.book.later x.book.later a.book.trace);
      only = all-append is_work y.book.later x.book.later y.book.only x.book.only;
    };
  }

  pub works_served : (old new : Locked D) → new.unit ≡ old.unit → new.book.mounted ≡ old.book.mounted →
      AddsService old.book.trace new.book.trace → Works old new
  works_served old new u m a =
      works_by old new u m (record { later = a.later; is = a.is; only = all-weaker is_service is_work service_is_work a.later a.only })

  pub works_taking : (meaning : Meaning D) (s : SiteRows) (old new : Locked D) (answer : Intake) → TakesIn meaning s old answer new →
      Works old new
  works_taking meaning s old new intake.Held h = subst (Works old) (sym h.1) (works_none old)
  works_taking meaning s old new intake.Quiet h =
      let is = h.1 in works_same old new (ap (λ (v : Locked D). v.unit) is) (ap (λ (v : Locked D). v.book.mounted) is)
      (ap (λ (v : Locked D). v.book.trace) is)
  works_taking meaning s old new (intake.Took name) h =
      let t = h.1 in
      let H = Arrive t.request ∷ old.book.trace in
      works_by old new (ap (λ (v : Locked D). v.unit) h.2) (ap (λ (b : Book D). b.mounted) t.arrives)
      (subst (Adds old.book.trace) (sym (ap (λ (b : Book D). b.trace) t.arrives))
      (adds_more old.book.trace H (after_dooms H) (adds_one (Arrive t.request) old.book.trace refl) (adds_posts (doomed H) H)))

  pub placed_units : (count : ℕ) {first units : List (Locked D)} → ArePlaced (λ (v : Locked D). v.unit) count first →
      Paired Works first units → ArePlaced (λ (v : Locked D). v.unit) count units
  placed_units count {first = first} {units = units} placed works = record {
    count_is = works.count ∙ placed.count_is;
    each = λ k v e. let f = get_there first units k v works.count e in (works.each k f.0 v f.1 e).unit ∙ placed.each k f.0 f.1;
  }

-- WHAT IS COLLECTED

within : {A : Type 0} (xs : List A) (i : ℕ) (d e : A) → i < length xs → get_or xs i d ≡ get_or xs i e
within xs i d e lt = some_is (get_or xs i d) (get_or xs i e) (sym (slice_get-get_or xs i d lt) ∙ slice_get-get_or xs i e lt)

module _ (units : ℕ) where
  pub gathers_none : (a : TaskState) (lists : List (List PostedState)) → Gathers units a a lists lists
  gathers_none a lists =
      record { values = []; task = λ i. record a { got = sym (append-nil a.got) i }; lists = λ u lt. sym (append-nil (list_of lists u)) }

  pub gathers_more : (a b c : TaskState) (k l m : List (List PostedState)) → Gathers units a b k l → Gathers units b c l m →
      Gathers units a c k m
  gathers_more a b c k l m x y = record {
    values = x.values ++ y.values;
    task = y.task ∙ (λ i. record (x.task i) { got = (x.task i).got ++ y.values })
        ∙ (λ i. record a { got = append_assoc a.got x.values y.values i });
    lists = λ u lt.
        y.lists u lt ∙ ap (λ z. z ++ of_sender unit_of u y.values) (x.lists u lt)
        ∙ append_assoc (list_of k u) (of_sender unit_of u x.values) (of_sender unit_of u y.values)
        ∙ ap (λ z. list_of k u ++ z) (sym (of-append unit_of u x.values y.values));
  }

  -- one value more, behind those of its unit
  pub gathers_one : (old new : TaskState) (before : List (List PostedState)) (p : PostedState) → p.unit < length before →
      new ≡ record old { got = old.got ++ p ∷ [] } →
      Gathers units old new before (set before p.unit (list_of before p.unit ++ p ∷ []))
  gathers_one old new before p lt is = record {
    values = p ∷ [];
    task = is;
    lists = λ u _.
        let longer = list_of before p.unit ++ p ∷ [] in
        dite (ℕ_discrete u p.unit)
        (λ same.
        ap (λ n. get_or (set before p.unit longer) n []) same ∙ get_or-set_same before p.unit longer [] lt
        ∙ ap (λ n. list_of before n ++ p ∷ []) (sym same)
        ∙ ap (λ z. list_of before u ++ z) (sym (of-snoc_same unit_of u p [] (sym same))))
        (λ ne.
        get_or-set_other before p.unit u longer [] ne ∙ sym (append-nil (list_of before u))
        ∙ ap (λ z. list_of before u ++ z) (sym (of-snoc_other unit_of u p [] (λ e. ne (sym e)))));
  }

  -- the same in a vector of lists, one of which has the value pushed
  pub gathers_push : {A : Type 0} (old new : TaskState) (lists : List (Vec PostedState A)) (list longer : Vec PostedState A)
      (p : PostedState) → p.unit < length lists → list ≡ get_or lists p.unit list →
      longer.items ≡ list.items ++ p ∷ [] → new ≡ record old { got = old.got ++ p ∷ [] } →
      Gathers units old new (items_of_all lists) (items_of_all (set lists p.unit longer))
  gathers_push {A} old new lists list longer p lt at pushed is =
      let items = λ (v : Vec PostedState A). v.items in
      let there : list_of (items_of_all lists) p.unit ≡ list.items = get_or-map items lists p.unit list [] lt ∙ ap items (sym at) in
      let after : set (items_of_all lists) p.unit (list_of (items_of_all lists) p.unit ++ p ∷ []) ≡ items_of_all (set lists p.unit longer) =
      ap (λ l. set (items_of_all lists) p.unit (l ++ p ∷ [])) there ∙ ap (set (items_of_all lists) p.unit) (sym pushed)
      ∙ sym (map-set items lists p.unit longer) in
      subst (Gathers units old new (items_of_all lists)) after
      (gathers_one old new (items_of_all lists) p (omega (arith, lt, length-map lists items)) is)

  pub collects_none : (tasks : List TaskState) (lists : List (List (List PostedState))) → CollectsAll units tasks tasks lists lists
  collects_none tasks lists = record {
    count = refl;
    each = λ t w v e e'. subst (λ (q : TaskState). Gathers units w q (lists_of lists t) (lists_of lists t)) (some_is w v (sym e ∙ e'))
        (gathers_none w (lists_of lists t));
  }

  pub collects_more : {a b c : List TaskState} {k l m : List (List (List PostedState))} → CollectsAll units a b k l →
      CollectsAll units b c l m → CollectsAll units a c k m
  collects_more {a = a} {b = b} {c = c} {k = k} {l = l} {m = m} x y = record {
    count = y.count ∙ x.count;
    each = λ t w v e e'.
        let w' = get_there b c t v y.count e' in
        gathers_more w w'.0 v (lists_of k t) (lists_of l t) (lists_of m t) (x.each t w w'.0 e w'.1) (y.each t w'.0 v w'.1 e');
  }

  -- one task and its lists go on
  module _ (tasks : List TaskState) (lists : List (List (List PostedState))) (i : ℕ) (old new : TaskState)
      (from to : List (List PostedState))
      (lt : i < length tasks) (lt' : i < length lists) (at : old ≡ get_or tasks i old) (at' : from ≡ get_or lists i from) where
    collects_set : Gathers units old new from to → CollectsAll units tasks (set tasks i new) lists (set lists i to)
    collects_set step = record {
      count = length-set tasks i new;
      each = λ t w v e e'. dite (ℕ_discrete t i)
          (λ same.
          let w_is : old ≡ w = some_is old w (sym (there tasks i old new lt at) ∙ (ap (slice_get tasks) (sym same) ∙ e)) in
          let v_is = new_is tasks i old new lt at t v same e' in
          let from_is : from ≡ lists_of lists t = at' ∙ within lists i from [] lt' ∙ ap (lists_of lists) (sym same) in
          let to_is : to ≡ lists_of (set lists i to) t = sym (get_or-set_same lists i to [] lt')
          ∙ ap (lists_of (set lists i to)) (sym same) in
          subst (λ (q : TaskState × TaskState × List (List PostedState) × List (List PostedState)). Gathers units q.0 q.1 q.2 q.3)
          (λ j. (w_is j, v_is j, from_is j, to_is j)) step)
          (λ ne.
          let w_is = some_is w v (sym e ∙ (sym (get_set_other tasks i t new ne) ∙ e')) in
          let same : lists_of lists t ≡ lists_of (set lists i to) t = sym (get_or-set_other lists i t to [] ne) in
          subst (λ (q : TaskState × List (List PostedState)). Gathers units w q.0 (lists_of lists t) q.1) (λ j. (w_is j, same j))
          (gathers_none w (lists_of lists t)));
    }

    pub collects_next : {first : List TaskState} {kept : List (List (List PostedState))} → CollectsAll units first tasks kept lists →
        Gathers units old new from to → CollectsAll units first (set tasks i new) kept (set lists i to)
    collects_next so_far step = collects_more so_far (collects_set step)

  pub placed_tasks : (count : ℕ) {first tasks : List TaskState} {before after : List (List (List PostedState))} →
      ArePlaced (λ (w : TaskState). w.number) count first → CollectsAll units first tasks before after →
      ArePlaced (λ (w : TaskState). w.number) count tasks
  placed_tasks count {first = first} {tasks = tasks} placed c = record {
    count_is = c.count ∙ placed.count_is;
    each = λ k v e.
        let w = get_there first tasks k v c.count e in
        ap (λ (x : TaskState). x.number) (c.each k w.0 v w.1 e).task ∙ placed.each k w.0 w.1;
  }

  -- values that stood in lists that were as these
  pub collects_from : (a b : List TaskState) (k l m : List (List (List PostedState))) →
      ((t u : ℕ) → list_of (lists_of l t) u ≡ list_of (lists_of k t) u) → CollectsAll units a b l m → CollectsAll units a b k m
  collects_from a b k l m same c = record {
    count = c.count;
    each = λ t w v e e'.
        let x = c.each t w v e e' in
        record { values = x.values; task = x.task; lists = λ u lt. x.lists u lt ∙ ap (λ z. z ++ of_sender unit_of u x.values) (same t u) };
  }

-- empty lists of one task more
pub lists_more : (posts : List (List (List PostedState))) (x : List (List PostedState)) (units : ℕ) → x ≡ replicate units [] → (t u : ℕ) →
    list_of (lists_of (posts ++ x ∷ []) t) u ≡ list_of (lists_of posts t) u
lists_more [] x units is zero u = ap (λ l. list_of l u) is ∙ index_replicate units u []
lists_more [] x units is (suc t) u = refl
lists_more (y ∷ posts) x units is zero u = refl
lists_more (y ∷ posts) x units is (suc t) u = lists_more posts x units is t u

-- tasks of a system that was just made are at their places
pub placed_start : (count units : ℕ) (tasks : List TaskState) → AreTasks count units tasks →
    ArePlaced (λ (w : TaskState). w.number) count tasks
placed_start count units tasks made =
    record { count_is = made.count_is; each = λ k w e. ap (λ (x : TaskState). x.number) (made.each k w e) }

-- and stay there where one is replaced by one of its number
pub placed_set : (count : ℕ) (tasks : List TaskState) (i : ℕ) (old new : TaskState) → i < length tasks → old ≡ get_or tasks i old →
    new.number ≡ old.number → ArePlaced (λ (w : TaskState). w.number) count tasks →
    ArePlaced (λ (w : TaskState). w.number) count (set tasks i new)
placed_set count tasks i old new lt at same placed = record {
  count_is = length-set tasks i new ∙ placed.count_is;
  each = λ k w e. dite (ℕ_discrete k i)
      (λ here. ap (λ (x : TaskState). x.number) (sym (new_is tasks i old new lt at k w here e))
      ∙ (same ∙ (placed.each i old (there tasks i old new lt at) ∙ sym here)))
      (λ ne. placed.each k w (sym (get_set_other tasks i k new ne) ∙ e));
}
