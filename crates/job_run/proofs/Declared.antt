-- The DCB of each EXCP of a script that was read is declared.
use Rattle.std.proofs.Common.{◌≡◌, ◌≤◌, ◌+◌, ◌==◌, ◌&&◌, ℕ, Bool, true, false, if◌then◌else◌, Option, Some, None, Result, Ok, Err, IfOk}
use Rattle.std.proofs.lemmas.Result.{IfOk-at_ok}
use Rattle.std.proofs.Common.{List, [], ◌∷◌, ◌++◌, length, refl, sym, ap, ◌∙◌, arith, subst}
use Rattle.std.specs.Prelude.{nat_le}
use Rattle.std.proofs.lemmas.Bool.{eqb-true}
use Rattle.std.proofs.lemmas.Bool.Decides.{nat_tests}
use Rattle.std.proofs.lemmas.Grind.{common_steps}
use Rattle.unit_book.specs.Lists.{Each}
use Rattle.script_words.specs.Forms.{decimal, decimal_in, in_range}
use Rattle.script_words.specs.Text.{is_printable, lines, words}
use Rattle.job_script.specs.declared.command.DcbName.{DcbName}
use Rattle.job_script.specs.declared.fault.FaultName.{FaultName}
use Rattle.job_script.specs.declared.fault.FaultName.TheVariants as names
use Rattle.job_script.specs.declared.line.ExcpLine.{ExcpLine}
use Rattle.job_script.specs.declared.line.verb.Verb.{Verb}
use Rattle.job_script.specs.declared.line.verb.Verb.TheVariants as verbs
use Rattle.job_script.specs.Steps.{◌>>=◌}
use Rattle.job_script.specs.Forms.{Word, address, dcb_name, formed, has, index, mode_of, number, number_in, word}
use Rattle.job_script.specs.Said.{ActionSaid, CommandSaid, ExcpSaid, LineSaid, Said, SetUpSaid, nothing}
use Rattle.job_script.specs.Said.{close, excp, purge, purge_task, reset, wait, says_command, says_excp, says_nothing, says_set_up}
use Rattle.job_script.specs.Lines.{by_kind, by_verb, excp_line, line_kind, line_of, set_up_line}
use Rattle.job_script.specs.Lines.{close_line, purge_line, purgetask_line, reset_line, wait_line}
use Rattle.job_script.specs.Adding.{add_command, add_line, add_set_up, excp_command, excp_on, excp_over, is_dcb, is_early, is_task, names_action}
use Rattle.job_script.specs.Adding.{names_command, numbered}
use Rattle.job_script.specs.Grammar.{FaultAt, at_end, lacks, lines_from, script_of, script_with_line, then_lines}

-- what a step gives has a property, if the steps before it give what it needs
step_ok : {A B : Type 0} (r : Result A FaultName) (f : A → Result B FaultName) (P : A → Type 0) (Q : B → Type 0) → IfOk r P →
    ((x : A) → P x → IfOk (f x) Q) → IfOk (r >>= f) Q
step_ok (Ok x) f P Q p next = next x p
step_ok (Err e) f P Q p next = tt

-- whatever the step before gives
any_ok : {A B : Type 0} (r : Result A FaultName) (f : A → Result B FaultName) (Q : B → Type 0) → ((x : A) → IfOk (f x) Q) →
    IfOk (r >>= f) Q
any_ok (Ok x) f Q next = next x
any_ok (Err e) f Q next = tt

-- an EXCP names a DCB from 1 on, and no other command is an EXCP
abbrev IsOther : ActionSaid → Type 0
IsOther (excp e) = ⊥
IsOther (_) = Unit {0}

abbrev IsLine : LineSaid → Type 0
IsLine (says_excp e) = 1 ≤ e.dcb.number
IsLine (says_command c) = IsOther c.action
IsLine (_) = Unit {0}

ranged : (b : Bool) (n least : ℕ) → (b ≡ true → least ≤ n) → IfOk (formed (if b then Some n else None)) (λ x. least ≤ x)
ranged true n least is = is refl
ranged false n least is = tt

in_range_least : (o : Option ℕ) (least most : ℕ) → IfOk (formed (in_range least most o)) (λ n. least ≤ n)
in_range_least None least most = tt
in_range_least (Some n) least most =
    ranged (nat_le least n && nat_le n most) n least (λ is. grind (arith, common_steps, nat_tests, is))

number_least : (least most : ℕ) (w : Word) → IfOk (number_in least most w) (λ n. least ≤ n)
unfolding decimal_in
number_least least most w = in_range_least (decimal w) least most

dcb_least : (u d : Word) → IfOk (dcb_name u d) (λ n. 1 ≤ n.number)
unfolding dcb_name
dcb_least u d =
    any_ok (index u) (λ unit. number_in 1 65535 d >>= λ dcb. Ok (record { unit = unit; number = dcb })) (λ (n : DcbName). 1 ≤ n.number) (λ unit.
    step_ok (number_in 1 65535 d) (λ dcb. Ok (record { unit = unit; number = dcb })) (λ n. 1 ≤ n) (λ (n : DcbName). 1 ≤ n.number)
    (number_least 1 65535 d) (λ n least. least))

-- the EXCP of a line names a DCB from 1 on
abbrev Counts : ExcpLine → Type 0
Counts e = 1 ≤ e.dcb.number

-- the command is no EXCP
abbrev IsOtherCommand : CommandSaid → Type 0
IsOtherCommand c = IsOther c.action

module _ (line : ℕ) (ws : List Word) (task : ℕ) (dcb : DcbName) where
  -- the rest of the line of an EXCP after its DCB
  abbrev with_len : ℕ → ℕ → ℕ → ℕ → Result ExcpLine FaultName
  with_len iob area show len =
      Ok (record { line = line; task = task; dcb = dcb; iob = iob; area = area; show = show; len = len })

  abbrev with_show : ℕ → ℕ → ℕ → Result ExcpLine FaultName
  with_show iob area show = number (word 7 ws) >>= λ len. with_len iob area show len

  abbrev with_area : ℕ → ℕ → Result ExcpLine FaultName
  with_area iob area = address (word 6 ws) >>= λ show. with_show iob area show

  abbrev with_iob : ℕ → Result ExcpLine FaultName
  with_iob iob = number (word 5 ws) >>= λ area. with_area iob area

  abbrev with_dcb : Result ExcpLine FaultName
  with_dcb = address (word 4 ws) >>= λ iob. with_iob iob

  rest_ok : 1 ≤ dcb.number → IfOk with_dcb Counts
  rest_ok least =
      any_ok (address (word 4 ws)) with_iob Counts (λ iob. any_ok (number (word 5 ws)) (with_area iob) Counts (λ area.
      any_ok (address (word 6 ws)) (with_show iob area) Counts (λ show.
      any_ok (number (word 7 ws)) (with_len iob area show) Counts (λ len. least))))

excp_least : (line : ℕ) (ws : List Word) → IfOk (excp_line line ws) Counts
unfolding excp_line
excp_least line ws =
    any_ok (has 8 ws) (λ x. index (word 1 ws) >>= λ task. dcb_name (word 2 ws) (word 3 ws) >>= λ dcb. with_dcb line ws task dcb) Counts (λ x.
    any_ok (index (word 1 ws)) (λ task. dcb_name (word 2 ws) (word 3 ws) >>= λ dcb. with_dcb line ws task dcb) Counts (λ task.
    step_ok (dcb_name (word 2 ws) (word 3 ws)) (λ dcb. with_dcb line ws task dcb) (λ n. 1 ≤ n.number) Counts
    (dcb_least (word 2 ws) (word 3 ws)) (λ dcb least. rest_ok line ws task dcb least)))

-- a command of a task in a line
abbrev does : ℕ → ℕ → ActionSaid → CommandSaid
does line task action = record { line = line; task = task; action = action }

purge_ok : (line : ℕ) (ws : List Word) → IfOk (purge_line line ws) IsOtherCommand
unfolding purge_line
purge_ok line ws =
    any_ok (has 5 ws) (λ x. index (word 1 ws) >>= λ task. dcb_name (word 2 ws) (word 3 ws) >>= λ dcb. mode_of (word 4 ws) >>= λ mode. Ok (does line task (purge dcb mode))) IsOtherCommand (λ x.
    any_ok (index (word 1 ws)) (λ task. dcb_name (word 2 ws) (word 3 ws) >>= λ dcb. mode_of (word 4 ws) >>= λ mode. Ok (does line task (purge dcb mode))) IsOtherCommand (λ task.
    any_ok (dcb_name (word 2 ws) (word 3 ws)) (λ dcb. mode_of (word 4 ws) >>= λ mode. Ok (does line task (purge dcb mode))) IsOtherCommand (λ dcb.
    any_ok (mode_of (word 4 ws)) (λ mode. Ok (does line task (purge dcb mode))) IsOtherCommand (λ mode.
    tt))))

purgetask_ok : (line : ℕ) (ws : List Word) → IfOk (purgetask_line line ws) IsOtherCommand
unfolding purgetask_line
purgetask_ok line ws =
    any_ok (has 4 ws) (λ x. index (word 1 ws) >>= λ task. index (word 2 ws) >>= λ other. mode_of (word 3 ws) >>= λ mode. Ok (does line task (purge_task other mode))) IsOtherCommand (λ x.
    any_ok (index (word 1 ws)) (λ task. index (word 2 ws) >>= λ other. mode_of (word 3 ws) >>= λ mode. Ok (does line task (purge_task other mode))) IsOtherCommand (λ task.
    any_ok (index (word 2 ws)) (λ other. mode_of (word 3 ws) >>= λ mode. Ok (does line task (purge_task other mode))) IsOtherCommand (λ other.
    any_ok (mode_of (word 3 ws)) (λ mode. Ok (does line task (purge_task other mode))) IsOtherCommand (λ mode.
    tt))))

close_ok : (line : ℕ) (ws : List Word) → IfOk (close_line line ws) IsOtherCommand
unfolding close_line
close_ok line ws =
    any_ok (has 4 ws) (λ x. index (word 1 ws) >>= λ task. dcb_name (word 2 ws) (word 3 ws) >>= λ dcb. Ok (does line task (close dcb))) IsOtherCommand (λ x.
    any_ok (index (word 1 ws)) (λ task. dcb_name (word 2 ws) (word 3 ws) >>= λ dcb. Ok (does line task (close dcb))) IsOtherCommand (λ task.
    any_ok (dcb_name (word 2 ws) (word 3 ws)) (λ dcb. Ok (does line task (close dcb))) IsOtherCommand (λ dcb.
    tt)))

reset_ok : (line : ℕ) (ws : List Word) → IfOk (reset_line line ws) IsOtherCommand
unfolding reset_line
reset_ok line ws =
    any_ok (has 4 ws) (λ x. index (word 1 ws) >>= λ task. dcb_name (word 2 ws) (word 3 ws) >>= λ dcb. Ok (does line task (reset dcb))) IsOtherCommand (λ x.
    any_ok (index (word 1 ws)) (λ task. dcb_name (word 2 ws) (word 3 ws) >>= λ dcb. Ok (does line task (reset dcb))) IsOtherCommand (λ task.
    any_ok (dcb_name (word 2 ws) (word 3 ws)) (λ dcb. Ok (does line task (reset dcb))) IsOtherCommand (λ dcb.
    tt)))

wait_ok : (line : ℕ) (ws : List Word) → IfOk (wait_line line ws) IsOtherCommand
unfolding wait_line
wait_ok line ws =
    any_ok (has 2 ws) (λ x. index (word 1 ws) >>= λ task. Ok (does line task (wait))) IsOtherCommand (λ x.
    any_ok (index (word 1 ws)) (λ task. Ok (does line task (wait))) IsOtherCommand (λ task.
    tt))

verb_ok : (verb : Verb) (line : ℕ) (ws : List Word) → IfOk (by_verb verb line ws) IsLine
unfolding by_verb
verb_ok (verbs.SetUp v) line ws = any_ok (set_up_line v line ws) (λ said. Ok (says_set_up said)) IsLine (λ said. tt)
verb_ok verbs.Excp line ws = step_ok (excp_line line ws) (λ said. Ok (says_excp said)) Counts IsLine (excp_least line ws) (λ e least. least)
verb_ok verbs.Purge line ws = step_ok (purge_line line ws) (λ said. Ok (says_command said)) IsOtherCommand IsLine (purge_ok line ws) (λ c other. other)
verb_ok verbs.PurgeTask line ws = step_ok (purgetask_line line ws) (λ said. Ok (says_command said)) IsOtherCommand IsLine (purgetask_ok line ws) (λ c other. other)
verb_ok verbs.Close line ws = step_ok (close_line line ws) (λ said. Ok (says_command said)) IsOtherCommand IsLine (close_ok line ws) (λ c other. other)
verb_ok verbs.Reset line ws = step_ok (reset_line line ws) (λ said. Ok (says_command said)) IsOtherCommand IsLine (reset_ok line ws) (λ c other. other)
verb_ok verbs.Wait line ws = step_ok (wait_line line ws) (λ said. Ok (says_command said)) IsOtherCommand IsLine (wait_ok line ws) (λ c other. other)

kind_ok : (kind : Option Verb) (line : ℕ) (ws : List Word) → IfOk (by_kind kind line ws) IsLine
kind_ok None line ws = tt
kind_ok (Some verb) line ws = verb_ok verb line ws

line_ok : (line : ℕ) (text : List ℕ) → IfOk (line_of line text) IsLine
line_ok line text = any_ok (line_kind (is_printable text) (words text)) (λ kind. by_kind kind line (words text)) IsLine (λ kind. kind_ok kind line (words text))

-- if the command is an EXCP, its DCB is declared in the set-up, and counts from 1
pub record IsDcb (s : SetUpSaid) (dcb : DcbName) : Type 0 where
  pub declared : is_dcb dcb s ≡ Ok tt
  pub counted : 1 ≤ dcb.number

abbrev pub NamesDcb : SetUpSaid → ActionSaid → Type 0
NamesDcb s (excp e) = IsDcb s e.dcb
NamesDcb s (_) = Unit {0}

-- EACH EXCP of the script names a DCB that is declared
abbrev pub AreDeclared : Said → Type 0
AreDeclared s = Each (λ c. NamesDcb s.set_up c.action) s.commands

one_more : {X : Type 0} (P : X → Type 0) (xs : List X) (x : X) → Each P xs → P x → Each P (xs ++ x ∷ [])
one_more P [] x each last = (last, tt)
one_more P (y ∷ xs) x each last = (each.0, one_more P xs x each.1 last)

-- an EXCP that the command is counts its DCB from 1
abbrev CountsDcb : CommandSaid → Type 0
CountsDcb c = (e : ExcpSaid) → c.action ≡ excp e → 1 ≤ e.dcb.number

names_dcb : (s : SetUpSaid) (a : ActionSaid) → names_action a s ≡ Ok tt → ((e : ExcpSaid) → a ≡ excp e → 1 ≤ e.dcb.number) → NamesDcb s a
names_dcb s (excp e) names least = record { declared = names; counted = least e refl }
names_dcb s (purge dcb mode) names least = tt
names_dcb s (purge_task other mode) names least = tt
names_dcb s (close dcb) names least = tt
names_dcb s (reset dcb) names least = tt
names_dcb s wait names least = tt

-- a step without a result is done
is_done : (r : Result (Unit {0}) FaultName) → IfOk r (λ done. r ≡ Ok tt)
is_done (Ok x) = refl
is_done (Err e) = tt

names_ok : (c : CommandSaid) (s : SetUpSaid) → IfOk (names_command c s) (λ done. names_action c.action s ≡ Ok tt)
unfolding names_command
names_ok c s = any_ok (is_task c.task s) (λ done. names_action c.action s) (λ done. names_action c.action s ≡ Ok tt) (λ done. is_done (names_action c.action s))

add_ok : (c : CommandSaid) (s : Said) → AreDeclared s → CountsDcb c → IfOk (add_command c s) AreDeclared
unfolding add_command
add_ok c s each counted =
    step_ok (names_command c s.set_up) (λ done. Ok (record s { commands = s.commands ++ c ∷ [] })) (λ done. names_action c.action s.set_up ≡ Ok tt) AreDeclared (names_ok c s.set_up)
    (λ done names. one_more (λ x. NamesDcb s.set_up x.action) s.commands c each (names_dcb s.set_up c.action names counted))

early : (b : Bool) (n : ℕ) → (n == 0) ≡ b → IfOk (if b then Ok tt else Err names.Order) (λ (done : Unit {0}). n ≡ 0)
early true n is = eqb-true n 0 is
early false n is = tt

early_ok : (s : Said) → IfOk (is_early s) (λ done. length s.commands ≡ 0)
early_ok s = early (length s.commands == 0) (length s.commands) refl

none_named : (s : SetUpSaid) (commands : List CommandSaid) → length commands ≡ 0 → Each (λ c. NamesDcb s c.action) commands
none_named s [] none = tt
none_named s (c ∷ commands) none = absurd cc

no_excp : (a : ActionSaid) → IsOther a → (e : ExcpSaid) → a ≡ excp e → 1 ≤ e.dcb.number
no_excp (excp x) other e is = absurd other
no_excp (purge dcb mode) other e is = absurd cc
no_excp (purge_task task mode) other e is = absurd cc
no_excp (close dcb) other e is = absurd cc
no_excp (reset dcb) other e is = absurd cc
no_excp wait other e is = absurd cc

counts_over : (e : ExcpLine) (over x : ExcpSaid) → 1 ≤ e.dcb.number → over.dcb ≡ e.dcb → over ≡ x → 1 ≤ x.dcb.number
counts_over e over x least same is =
    let dcb : e.dcb ≡ x.dcb = sym same ∙ ap (λ (o : ExcpSaid). o.dcb) is in subst (λ (d : DcbName). 1 ≤ d.number) dcb least

over_ok : (e : ExcpLine) (s : SetUpSaid) → IfOk (excp_over e s) (λ over. over.dcb ≡ e.dcb)
over_ok e s = any_ok (numbered e.area s.areas) (λ area. Ok (excp_on e area)) (λ (over : ExcpSaid). over.dcb ≡ e.dcb) (λ area. refl)

excp_ok : (e : ExcpLine) (s : SetUpSaid) → 1 ≤ e.dcb.number → IfOk (excp_command e s) CountsDcb
unfolding excp_command
excp_ok e s least =
    step_ok (excp_over e s) (λ over. Ok (does e.line e.task (excp over))) (λ over. over.dcb ≡ e.dcb) CountsDcb (over_ok e s)
    (λ over same x is. counts_over e over x least same (cc is))

add_line_ok : (line : LineSaid) (s : Said) → AreDeclared s → IsLine line → IfOk (add_line line s) AreDeclared
unfolding add_line
add_line_ok says_nothing s each is = each
add_line_ok (says_set_up line) s each is =
    step_ok (is_early s) (λ done. add_set_up line s.set_up >>= λ set_up. Ok (record s { set_up = set_up })) (λ done. length s.commands ≡ 0) AreDeclared (early_ok s)
    (λ done none. any_ok (add_set_up line s.set_up) (λ set_up. Ok (record s { set_up = set_up })) AreDeclared (λ set_up. none_named set_up s.commands none))
add_line_ok (says_excp e) s each is =
    step_ok (excp_command e s.set_up) (λ c. add_command c s) CountsDcb AreDeclared (excp_ok e s.set_up is)
    (λ c counted. add_ok c s each counted)
add_line_ok (says_command c) s each is = add_ok c s each (no_excp c.action is)

with_line_ok : (line : ℕ) (text : List ℕ) (s : Said) → AreDeclared s → IfOk (script_with_line line text s) AreDeclared
with_line_ok line text s each = step_ok (line_of line text) (λ said. add_line said s) IsLine AreDeclared (line_ok line text) (λ said is. add_line_ok said s each is)

then_ok : (line : ℕ) (r : Result Said FaultName) (others : Said → Result Said FaultAt) → IfOk r AreDeclared →
    ((s : Said) → AreDeclared s → IfOk (others s) AreDeclared) → IfOk (then_lines line r others) AreDeclared
then_ok line (Ok s) others each next = next s each
then_ok line (Err e) others each next = tt

lines_ok : (line : ℕ) (s : Said) (texts : List (List ℕ)) → AreDeclared s → IfOk (lines_from line s texts) AreDeclared
unfolding lines_from
lines_ok line s [] each = each
lines_ok line s (text ∷ others) each =
    then_ok line (script_with_line line text s) (λ next. lines_from (line + 1) next others) (with_line_ok line text s each)
    (λ next more. lines_ok (line + 1) next others more)

unless : (b : Bool) (fault : FaultAt) (s : Said) → AreDeclared s → IfOk {T = Said} {E = FaultAt} (if b then Err fault else Ok s) AreDeclared
unless true fault s each = tt
unless false fault s each = each

end_ok : (r : Result Said FaultAt) → IfOk r AreDeclared → IfOk (at_end r) AreDeclared
end_ok (Err fault) each = tt
end_ok (Ok s) each = unless (lacks s) (record { line = 0; name = names.Order }) s each

script_ok : (text : List ℕ) → IfOk (script_of text) AreDeclared
unfolding script_of
script_ok text = end_ok (lines_from 1 nothing (lines text)) (lines_ok 1 nothing (lines text) tt)

-- of a script that was read
pub are_declared : (text : List ℕ) (s : Said) → script_of text ≡ Ok s → AreDeclared s
are_declared text s parsed = IfOk-at_ok AreDeclared parsed (script_ok text)
