-- Mounting units and opening their DCBs one unit after another gives what mounting all and then opening all gives.
use Rattle.std.proofs.Common.{◌≡◌, ◌≤◌, ◌<◌, ℕ, ◌+◌, true, false, nat_lt, min, refl, sym, ap, subst, ◌∙◌, arith}
use Rattle.std.proofs.Common.{List, [], ◌∷◌, ◌++◌, Option, Some, None, Result, Ok, Err, length, map, get_or, drop}
use Rattle.std.proofs.lemmas.Bool.Decides.{nat_tests}
use Rattle.std.proofs.lemmas.List.{append_assoc, append-nil, drop_all, drop_more, map-append}
use Rattle.unit_book.specs.declared.answer.OpenError.{OpenError}
use Rattle.unit_book.specs.declared.answer.OpenError.TheVariants as opening_errors
use Rattle.unit_book.specs.declared.entry.Entry.TheVariants.{Opened}
use Rattle.unit_book.specs.Answers.{OpensBook, OpenRefused}
use Rattle.unit_book.specs.Book.{Book, opening}
use Rattle.unit_book.specs.Dcbs.{opened_count}
use Rattle.any_device.specs.declared.device.AnyDevice.{AnyDevice}
use Rattle.any_device.specs.Devices.{any_device}
use Rattle.job_script.specs.declared.fault.JobError.{JobError}
use Rattle.job_script.specs.declared.fault.JobError.TheVariants as faults
use Rattle.job_script.specs.declared.fault.FaultName.TheVariants as names
use Rattle.job_script.specs.declared.command.ScriptCommand.{ScriptCommand}
use Rattle.job_script.specs.declared.set_up.Opening.{Opening}
use Rattle.job_script.specs.declared.set_up.UnitSetup.{UnitSetup}
use Rattle.job_script.specs.Views.{action_said, command_said, opening_said, unit_said}
use Rattle.job_mount.specs.Requests.{is_doable}
use Rattle.job_mount.proofs.Trying.{all_tried, one_tried, one_untried}
use Rattle.job_script.specs.Grammar.{FaultAt}
use Rattle.job_script.specs.Outcomes.{Gives}
use Rattle.job_script.specs.Said.{OpeningSaid, UnitSaid}
use Rattle.job_mount.specs.Mounting.{◌>>=◌, at, at_extent, device_with, devices_with, first_given, given_after, opened, tried, units_with}
use Rattle.job_mount.specs.Openings.{beside, earlier, open_all, with_dcb}
use Rattle.job_mount.specs.Outcomes.{MountsBook, all_without_spare, without_spare}

abbrev Books : Type 0
Books = List (Book AnyDevice)

abbrev Given : Type 0
Given = List (Option AnyDevice)

-- the least line that was found, and the books that are done, before the books of the units that are left
pub joined : Option ℕ → Books → Result Books ℕ → Result Books ℕ
joined None done (Ok books) = Ok (done ++ books)
joined None done (Err line) = Err line
joined (Some found) done (Ok books) = Err found
joined (Some found) done (Err line) = Err (min found line)

-- the same, if the units that are left are yet to be mounted
pub after : ℕ → Option ℕ → Books → Given → List UnitSaid → Result Books FaultAt
after capacity found done given rest =
    devices_with given rest >>= λ devices. at_extent (joined found done (opened capacity rest devices))

min_assoc : (a b c : ℕ) → min a (min b c) ≡ min (min a b) c
min_assoc a b c = omega arith

one_more : (found : Option ℕ) (done : Books) (book : Book AnyDevice) (rest : Result Books ℕ)
    → joined found done (beside (Ok book) rest) ≡ joined found (done ++ book ∷ []) rest
unfolding joined
one_more None done book (Ok books) = ap (λ (l : Books). Ok l) (sym (append_assoc done (book ∷ []) books))
one_more None done book (Err line) = refl
one_more (Some f) done book (Ok books) = refl
one_more (Some f) done book (Err line) = refl

one_fault : (found : Option ℕ) (done : Books) (line : ℕ) (rest : Result Books ℕ)
    → joined found done (beside (Err line) rest) ≡ joined (Some (earlier found line)) done rest
unfolding joined
one_fault None done line (Ok books) = refl
one_fault None done line (Err other) = refl
one_fault (Some f) done line (Ok books) = refl
one_fault (Some f) done line (Err other) = ap (λ (n : ℕ). Err n) (min_assoc f line other)

-- a unit's book, or the line of a DCB that cannot be opened
pub one_unit : Option ℕ → Books → Result (Book AnyDevice) ℕ → Option ℕ × Books
one_unit found done (Ok book) = (found, done ++ book ∷ [])
one_unit found done (Err line) = (Some (earlier found line), done)

joined_one : (found : Option ℕ) (done : Books) (one : Result (Book AnyDevice) ℕ) (rest : Result Books ℕ)
    → joined found done (beside one rest) ≡ joined (one_unit found done one).0 (one_unit found done one).1 rest
unfolding one_unit
joined_one found done (Ok book) rest = one_more found done book rest
joined_one found done (Err line) rest = one_fault found done line rest

after_one : (capacity : ℕ) (found : Option ℕ) (done : Books) (unit : UnitSaid) (others : List UnitSaid) (device : AnyDevice)
    (devices : Result (List AnyDevice) FaultAt)
    → ((devices >>= λ ds. Ok (device ∷ ds)) >>= λ ds. at_extent (joined found done (opened capacity (unit ∷ others) ds)))
    ≡ (devices >>= λ ds. at_extent (joined (one_unit found done (open_all (opening device unit.isc capacity) unit.openings)).0
    (one_unit found done (open_all (opening device unit.isc capacity) unit.openings)).1 (opened capacity others ds)))
unfolding opened
after_one capacity found done unit others device (Ok ds) =
    ap (λ (r : Result Books ℕ). at_extent r)
    (joined_one found done (open_all (opening device unit.isc capacity) unit.openings) (opened capacity others ds))
after_one capacity found done unit others device (Err fault) = refl

-- a unit that is mounted
next_unit : (capacity : ℕ) (found : Option ℕ) (done : Books) (given : Given) (unit : UnitSaid) (others : List UnitSaid) (device : AnyDevice)
    (one : Result (Book AnyDevice) ℕ) → device_with (first_given given) unit ≡ Ok device
    → open_all (opening device unit.isc capacity) unit.openings ≡ one
    → after capacity found done given (unit ∷ others)
    ≡ after capacity (one_unit found done one).0 (one_unit found done one).1 (given_after given) others
unfolding after devices_with
next_unit capacity found done given unit others device one e is =
    rw e (after_one capacity found done unit others device (devices_with (given_after given) others))
    ∙ ap (λ (r : Result (Book AnyDevice) ℕ). after capacity (one_unit found done r).0 (one_unit found done r).1 (given_after given) others) is

-- a unit that cannot be mounted
no_unit : (capacity : ℕ) (found : Option ℕ) (done : Books) (given : Given) (unit : UnitSaid) (others : List UnitSaid) (fault : FaultAt)
    → at unit.line (device_with (first_given given) unit) ≡ Err fault → after capacity found done given (unit ∷ others) ≡ Err fault
unfolding after devices_with
no_unit capacity found done given unit others fault e = rw e refl

-- no unit is mounted yet
unjoined : (r : Result Books ℕ) → joined None [] r ≡ r
unfolding joined
unjoined (Ok books) = refl
unjoined (Err line) = refl

first : (capacity : ℕ) (units : List UnitSaid) (devices : Result (List AnyDevice) FaultAt)
    → (devices >>= λ ds. at_extent (joined None [] (opened capacity units ds))) ≡ (devices >>= λ ds. at_extent (opened capacity units ds))
first capacity units (Ok ds) = ap (λ (r : Result Books ℕ). at_extent r) (unjoined (opened capacity units ds))
first capacity units (Err fault) = refl

pub no_unit_yet : (capacity : ℕ) (given : Given) (units : List UnitSaid)
    → after capacity None [] given units ≡ units_with capacity given units
unfolding after units_with
no_unit_yet capacity given units = first capacity units (devices_with given units)

-- all units are mounted
all_opened : (capacity : ℕ) (done : Books) (given : Given) → after capacity None done given [] ≡ Ok done
unfolding after devices_with opened joined
all_opened capacity done given = ap (λ (l : Books). Ok l) (append-nil done)

one_not_opened : (capacity : ℕ) (line : ℕ) (done : Books) (given : Given)
    → after capacity (Some line) done given [] ≡ at_extent (Err line)
unfolding after devices_with opened joined
one_not_opened capacity line done given = refl

-- what is left of a list that is gone through
left_of : {A B : Type 0} (f : A → B) (xs : List A) (k : ℕ) (x : A) → k < length xs → x ≡ get_or xs k x
    → map f (drop k xs) ≡ f x ∷ map f (drop (k + 1) xs)
left_of f xs k x within is = ap (map f) (drop_more xs k x within) ∙ ap (λ y. f y ∷ map f (drop (k + 1) xs)) (sym is)

none_left_of : {A B : Type 0} (f : A → B) (xs : List A) (k : ℕ) → length xs ≤ k → map f (drop k xs) ≡ []
none_left_of f xs k over = ap (map f) (drop_all k xs over)

-- a unit is mounted, and its DCBs are opened
pub unit_opened : (capacity : ℕ) (found : Option ℕ) (books : Books) (given : Given) (units : List UnitSetup) (k : ℕ) (unit : UnitSetup)
    (mounted book : Book AnyDevice) (whole : Result Books FaultAt) → k < length units → unit ≡ get_or units k unit
    → MountsBook capacity (first_given given) (unit_said unit) (Ok mounted)
    → open_all (without_spare mounted) (map opening_said unit.openings.items) ≡ Ok (without_spare book)
    → after capacity found (map without_spare books) given (map unit_said (drop k units)) ≡ whole
    → after capacity found (map without_spare (books ++ book ∷ [])) (given_after given) (map unit_said (drop (k + 1) units)) ≡ whole
unfolding one_unit
unit_opened capacity found books given units k unit mounted book whole within is (device, fresh) opens so_far =
    let one = subst (λ b. open_all b (map opening_said unit.openings.items) ≡ Ok (without_spare book)) fresh opens in
    let left = left_of unit_said units k unit within is in
    let next = next_unit capacity found (map without_spare books) given (unit_said unit) (map unit_said (drop (k + 1) units)) mounted.mounted
    (Ok (without_spare book)) device one in
    ap (λ (done : Books). after capacity found done (given_after given) (map unit_said (drop (k + 1) units))) (map-append without_spare books (book ∷ []))
    ∙ sym next ∙ ap (after capacity found (map without_spare books) given) (sym left) ∙ so_far

-- a unit is mounted, and one of its DCBs cannot be opened
pub unit_at_fault : (capacity : ℕ) (found : Option ℕ) (books : Books) (given : Given) (units : List UnitSetup) (k : ℕ) (unit : UnitSetup)
    (mounted : Book AnyDevice) (line : ℕ) (whole : Result Books FaultAt) → k < length units → unit ≡ get_or units k unit
    → MountsBook capacity (first_given given) (unit_said unit) (Ok mounted)
    → open_all (without_spare mounted) (map opening_said unit.openings.items) ≡ Err line
    → after capacity found (map without_spare books) given (map unit_said (drop k units)) ≡ whole
    → after capacity (Some (earlier found line)) (map without_spare books) (given_after given) (map unit_said (drop (k + 1) units)) ≡ whole
unfolding one_unit
unit_at_fault capacity found books given units k unit mounted line whole within is (device, fresh) opens so_far =
    let one = subst (λ b. open_all b (map opening_said unit.openings.items) ≡ Err line) fresh opens in
    let left = left_of unit_said units k unit within is in
    let next = next_unit capacity found (map without_spare books) given (unit_said unit) (map unit_said (drop (k + 1) units)) mounted.mounted
    (Err line) device one in
    sym next ∙ ap (after capacity found (map without_spare books) given) (sym left) ∙ so_far

-- a unit cannot be mounted
pub unit_refused : (capacity : ℕ) (found : Option ℕ) (books : Books) (given : Given) (units : List UnitSetup) (k : ℕ) (unit : UnitSetup) (fault : JobError)
    (whole : Result Books FaultAt) → k < length units → unit ≡ get_or units k unit → MountsBook capacity (first_given given) (unit_said unit) (Err fault)
    → after capacity found (map without_spare books) given (map unit_said (drop k units)) ≡ whole → Gives all_without_spare (Err fault) whole
unit_refused capacity found books given units k unit (faults.Line line name) whole within is refused so_far =
    sym so_far ∙ ap (after capacity found (map without_spare books) given) (left_of unit_said units k unit within is)
    ∙ no_unit capacity found (map without_spare books) given (unit_said unit) (map unit_said (drop (k + 1) units))
    (record { line = line; name = name }) refused
unit_refused capacity found books given units k unit faults.NoMemory whole within is refused so_far = tt
unit_refused capacity found books given units k unit faults.TooLong whole within is refused so_far = absurd refused
unit_refused capacity found books given units k unit faults.Unreadable whole within is refused so_far = absurd refused
unit_refused capacity found books given units k unit faults.NotWritten whole within is refused so_far = absurd refused
unit_refused capacity found books given units k unit faults.Unmatched whole within is refused so_far = absurd refused
unit_refused capacity found books given units k unit faults.NoThread whole within is refused so_far = absurd refused

-- all units are mounted
pub units_opened : (capacity : ℕ) (books : Books) (given : Given) (units : List UnitSetup) (k : ℕ) (whole : Result Books FaultAt) → length units ≤ k
    → after capacity None (map without_spare books) given (map unit_said (drop k units)) ≡ whole → whole ≡ Ok (map without_spare books)
units_opened capacity books given units k whole over so_far =
    sym so_far ∙ ap (after capacity None (map without_spare books) given) (none_left_of unit_said units k over)
    ∙ all_opened capacity (map without_spare books) given

pub units_at_fault : (capacity : ℕ) (line : ℕ) (books : Books) (given : Given) (units : List UnitSetup) (k : ℕ) (whole : Result Books FaultAt) →
    length units ≤ k
    → after capacity (Some line) (map without_spare books) given (map unit_said (drop k units)) ≡ whole
    → whole ≡ Err (record { line = line; name = names.Extent })
units_at_fault capacity line books given units k whole over so_far =
    sym so_far ∙ ap (after capacity (Some line) (map without_spare books) given) (none_left_of unit_said units k over)
    ∙ one_not_opened capacity line (map without_spare books) given

-- one DCB is opened
one_more_dcb : (old new : Book AnyDevice) (dcb : ℕ) (o : OpeningSaid) → OpensBook any_device old dcb o.method o.extents new
    → with_dcb (without_spare old) o ≡ without_spare new
one_more_dcb old new dcb o h =
    ap (λ (n : ℕ). record (without_spare old) { trace = Opened n o.method o.extents ∷ old.trace }) (sym h.fits.next)
    ∙ sym (ap without_spare h.adds)

one_opened : (old new : Book AnyDevice) (dcb : ℕ) (o : OpeningSaid) (others : List OpeningSaid)
    → OpensBook any_device old dcb o.method o.extents new → open_all (without_spare old) (o ∷ others) ≡ open_all (without_spare new) others
unfolding open_all
one_opened old new dcb o others h =
    let few : nat_lt (opened_count old.trace) 65535 ≡ true = grind (arith, nat_tests, h.fits.next, h.fits.few) in
    rw (few, h.fits.taken) (ap (λ (b : Book AnyDevice). open_all b others) (one_more_dcb old new dcb o h))

-- one DCB cannot be opened
one_refused : (old : Book AnyDevice) (o : OpeningSaid) (others : List OpeningSaid) (e : OpenError)
    → OpenRefused any_device old o.extents e → (e ≡ opening_errors.NoMemory → ⊥) → open_all (without_spare old) (o ∷ others) ≡ Err o.line
unfolding open_all
one_refused old o others opening_errors.TooManyDcbs h other =
    let few : nat_lt (opened_count old.trace) 65535 ≡ false = grind (arith, nat_tests, h) in
    rw few refl
one_refused old o others opening_errors.BadExtent (few, bad) other =
    let few : nat_lt (opened_count old.trace) 65535 ≡ true = grind (arith, nat_tests, few) in
    rw (few, bad) refl
one_refused old o others opening_errors.NoMemory h other = absurd (other refl)

none_left : (book : Book AnyDevice) → open_all book [] ≡ Ok book
unfolding open_all
none_left book = refl

-- the DCBs of a unit, one after another
pub dcb_opened : (old new : Book AnyDevice) (dcb : ℕ) (openings : List Opening) (k : ℕ) (o : Opening) (whole : Result (Book AnyDevice) ℕ)
    → k < length openings → o ≡ get_or openings k o → OpensBook any_device old dcb o.method o.extents.items new
    → open_all (without_spare old) (map opening_said (drop k openings)) ≡ whole →
    open_all (without_spare new) (map opening_said (drop (k + 1) openings)) ≡ whole
dcb_opened old new dcb openings k o whole within is opens so_far =
    sym (one_opened old new dcb (opening_said o) (map opening_said (drop (k + 1) openings)) opens)
    ∙ ap (open_all (without_spare old)) (sym (left_of opening_said openings k o within is)) ∙ so_far

pub dcb_refused : (old : Book AnyDevice) (openings : List Opening) (k : ℕ) (o : Opening) (e : OpenError) (whole : Result (Book AnyDevice) ℕ)
    → k < length openings → o ≡ get_or openings k o → OpenRefused any_device old o.extents.items e → (e ≡ opening_errors.NoMemory → ⊥)
    → open_all (without_spare old) (map opening_said (drop k openings)) ≡ whole → whole ≡ Err o.line
dcb_refused old openings k o e whole within is refused other so_far =
    sym so_far ∙ ap (open_all (without_spare old)) (left_of opening_said openings k o within is)
    ∙ one_refused old (opening_said o) (map opening_said (drop (k + 1) openings)) e refused other

pub dcbs_opened : (book : Book AnyDevice) (openings : List Opening) (k : ℕ) (whole : Result (Book AnyDevice) ℕ) → length openings ≤ k
    → open_all (without_spare book) (map opening_said (drop k openings)) ≡ whole → whole ≡ Ok (without_spare book)
dcbs_opened book openings k whole over so_far =
    sym so_far ∙ ap (open_all (without_spare book)) (none_left_of opening_said openings k over) ∙ none_left (without_spare book)

-- the requests, one after another
pub command_tried : (commands : List ScriptCommand) (k : ℕ) (command : ScriptCommand) (whole : Result (Unit {0}) FaultAt)
    → k < length commands → command ≡ get_or commands k command → is_doable (action_said command.action) ≡ true
    → tried (map command_said (drop k commands)) ≡ whole → tried (map command_said (drop (k + 1) commands)) ≡ whole
command_tried commands k command whole within is can so_far =
    sym (one_tried (command_said command) (map command_said (drop (k + 1) commands)) can)
    ∙ ap tried (sym (left_of command_said commands k command within is)) ∙ so_far

pub command_untried : (commands : List ScriptCommand) (k : ℕ) (command : ScriptCommand) (whole : Result (Unit {0}) FaultAt)
    → k < length commands → command ≡ get_or commands k command → is_doable (action_said command.action) ≡ false
    → tried (map command_said (drop k commands)) ≡ whole → whole ≡ Err (record { line = command.line; name = names.Request })
command_untried commands k command whole within is cannot so_far =
    sym so_far ∙ ap tried (left_of command_said commands k command within is)
    ∙ one_untried (command_said command) (map command_said (drop (k + 1) commands)) cannot

pub commands_tried : (commands : List ScriptCommand) (k : ℕ) (whole : Result (Unit {0}) FaultAt) → length commands ≤ k
    → tried (map command_said (drop k commands)) ≡ whole → whole ≡ Ok tt
commands_tried commands k whole over so_far = sym so_far ∙ ap tried (none_left_of command_said commands k over) ∙ all_tried
