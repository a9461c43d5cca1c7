-- A unit of which nothing is asked has a trace without controls.
use Rattle.std.proofs.Common.{◌≡◌, ℕ, ◌==◌, true, false, not, if◌then◌else◌, List, [], ◌∷◌, ◌++◌, length, refl, subst, ap}
use Rattle.std.proofs.Common.{arith, length-append}
use Rattle.std.specs.List.{list_all}
use Rattle.std.proofs.lemmas.Bool.Decides.{nat_tests}
use Rattle.std.proofs.lemmas.Grind.{common_steps}
use Rattle.device_port.specs.Meaning.{Meaning}
use Rattle.unit_book.specs.declared.entry.Entry.{Entry}
use Rattle.unit_book.specs.declared.entry.Entry.TheVariants.{Opened, Arrive, Start, Ran, Halted, Purge, Close, Reset, Post}
use Rattle.unit_book.specs.Legal.{Legal}
use Rattle.unit_book.specs.Trace.{arrivals, is_opening}
use Rattle.serial_order.specs.Laws.{IsUncontrolled, is_controlling, opens_before}
use Rattle.signed_list.specs.Signed.{items_of, signed_by}
use Rattle.unit_book.specs.declared.control.Control.{Control}
use Rattle.excp_system.specs.Controls.{Begins, Controlled, Goes, Makes, MakesNone, Opens, is_quiet}

same_number : (n : ℕ) → (n == n) ≡ true
same_number n = grind (arith, nat_tests)

-- what nobody signed has no items
nothing_signed : (xs : List (ℕ × Control)) → ((k : ℕ) → signed_by k xs ≡ []) → items_of xs ≡ []
unfolding signed_by items_of
nothing_signed [] none = refl
nothing_signed (x ∷ xs) none =
    let h : x.1 ∷ signed_by x.0 xs ≡ [] =
    subst (λ b. (if b then x.1 ∷ signed_by x.0 xs else signed_by x.0 xs) ≡ []) (same_number x.0) (none x.0) in
    absurd cc

abbrev IsFree : List Entry → Type 0
IsFree H = (list_all (λ e. not (is_controlling e)) H ≡ true) × (opens_before H ≡ true)

-- openings alone
free_openings : (H : List Entry) → list_all is_opening H ≡ true → IsFree H × (arrivals H ≡ [])
unfolding opens_before arrivals
free_openings [] only = ((refl, refl), refl)
free_openings (e ∷ H) only = grind (arith, common_steps, free_openings H)

free_more : (e : Entry) (H : List Entry) → is_quiet e ≡ true → IsFree H → IsFree (e ∷ H)
unfolding opens_before
free_more (Arrive r) H quiet free = free
free_more (Start n) H quiet free = free
free_more (Ran n j) H quiet free = free
free_more (Halted n) H quiet free = free
free_more (Post n csw sense code) H quiet free = free
free_more (Opened d method extents) H quiet free = absurd cc
free_more (Purge scope mode) H quiet free = absurd cc
free_more (Close d) H quiet free = absurd cc
free_more (Reset d) H quiet free = absurd cc

not_none : (asked : List Control) (c : Control) → asked ++ c ∷ [] ≡ [] → ⊥
not_none asked c none = omega (arith, ap length none, length-append asked (c ∷ []))

-- since openings alone nothing was asked, and no DCB was opened
asked_nothing : {first H : List Entry} {asked : List Control} → Controlled false first asked H → asked ≡ [] →
    list_all is_opening first ≡ true → IsFree H
asked_nothing {first} Begins none only = (free_openings first only).0
asked_nothing (Goes {H = H} e quiet k) none only = free_more e H quiet (asked_nothing k none only)
asked_nothing (Opens e may is k) none only = absurd cc
asked_nothing (Makes {asked = asked} c e is k) none only = elim (not_none asked c none) [ ]
asked_nothing (MakesNone {asked = asked} c is k) none only = elim (not_none asked c none) [ ]

-- A TRACE WITHOUT CONTROLS: nobody asked one, and the first book was opened and no more
pub uncontrolled_trace : {D : Type 0} (meaning : Meaning D) (mounted : D) (first H : List Entry) (asked : List (ℕ × Control)) →
    Controlled false first (items_of asked) H → ((k : ℕ) → signed_by k asked ≡ []) → list_all is_opening first ≡ true →
    Legal meaning mounted H → IsUncontrolled meaning mounted H
uncontrolled_trace meaning mounted first H asked controlled none only legal =
    let free = asked_nothing controlled (nothing_signed asked none) only in
    record { legal = legal; uncontrolled = free.0; opened = free.1 }
