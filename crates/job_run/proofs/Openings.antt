-- A run opens no DCB, and a script without controls asks none of any unit.
use Rattle.std.proofs.Common.{◌≡◌, ◌==◌, ℕ, Bool, true, false, if◌then◌else◌, Some, List, [], ◌∷◌, ◌++◌, refl, ap, ◌∙◌}
use Rattle.std.specs.List.{list_any}
use Rattle.std.proofs.lemmas.Bool.{or_parts}
use Rattle.unit_book.specs.declared.entry.Entry.{Entry}
use Rattle.unit_book.specs.declared.entry.Entry.TheVariants.{Opened}
use Rattle.unit_book.specs.Dcbs.{openings}
use Rattle.unit_book.specs.declared.control.Control.{Control}
use Rattle.excp_system.specs.Controls.{Begins, Controlled, Goes, Makes, MakesNone, Opens, control_of, is_quiet}
use Rattle.job_script.specs.Said.{ActionSaid, CommandSaid, Said, close, excp, purge, purge_task, reset, wait}
use Rattle.job_run.specs.Controls.{AsksNone, asked_controls, control_to}
use Rattle.job_run.specs.Orders.{AsksNothing, asks_control}

quiet_opens : (e : Entry) (H : List Entry) → is_quiet e ≡ true → openings (e ∷ H) ≡ openings H
quiet_opens (Opened d method extents) H quiet = absurd cc
quiet_opens (_) H quiet = refl

control_opens : (e : Entry) (c : Control) (H : List Entry) → control_of e ≡ Some c → openings (e ∷ H) ≡ openings H
control_opens (Opened d method extents) c H is = absurd cc
control_opens (_) c H is = refl

-- THE OPENINGS OF A TRACE are those of its first book, if a unit's own calls may not be used
pub same_openings : {first H : List Entry} {asked : List Control} → Controlled false first asked H → openings H ≡ openings first
same_openings Begins = refl
same_openings (Goes {H = H} e quiet k) = quiet_opens e H quiet ∙ same_openings k
same_openings (Opens e may is k) = absurd cc
same_openings (Makes {H = H} c e is k) = control_opens e c H is ∙ same_openings k
same_openings (MakesNone c is k) = same_openings k

asks_nothing_of : (unit : ℕ) (a : ActionSaid) → asks_control a ≡ false → control_to unit a ≡ []
asks_nothing_of unit (excp e) unasked = refl
asks_nothing_of unit (purge dcb mode) unasked = absurd cc
asks_nothing_of unit (purge_task other mode) unasked = absurd cc
asks_nothing_of unit (close dcb) unasked = absurd cc
asks_nothing_of unit (reset dcb) unasked = absurd cc
asks_nothing_of unit wait unasked = refl

no_more : (b : Bool) (xs ys : List Control) → xs ≡ [] → ys ≡ [] → (if b then xs else []) ++ ys ≡ []
no_more true xs ys none rest = ap (λ (l : List Control). l ++ ys) none ∙ rest
no_more false xs ys none rest = rest

none_asked : (task unit : ℕ) (commands : List CommandSaid) → list_any (λ c. asks_control c.action) commands ≡ false →
    asked_controls task unit commands ≡ []
unfolding asked_controls
none_asked task unit [] unasked = refl
none_asked task unit (c ∷ others) unasked =
    let parts = or_parts (asks_control c.action) (list_any (λ (x : CommandSaid). asks_control x.action) others) unasked in
    no_more (c.task == task) (control_to unit c.action) (asked_controls task unit others) (asks_nothing_of unit c.action parts.0)
    (none_asked task unit others parts.1)

-- A SCRIPT WITHOUT CONTROLS asks none of any unit
pub asks_none : (s : Said) → AsksNothing s → (unit : ℕ) → AsksNone s unit
asks_none s unasked unit t of_script = none_asked t unit s.commands unasked
