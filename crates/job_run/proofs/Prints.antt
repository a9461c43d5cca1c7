-- What is written of a run is the text of its posts.
use Rattle.std.proofs.Common.{◌≡◌, Bool, true, false, ℕ, suc, List, [], ◌∷◌, Option, Result, Ok, Err, IfErr, OnErr, ◌++◌, cond, length, map, refl, sym, ap, subst, ◌∙◌}
use Rattle.std.specs.Io.KnownBytes.{Appends}
use Rattle.std.specs.List.{filter}
use Rattle.any_device.specs.declared.device.AnyDevice.{AnyDevice}
use Rattle.unit_book.specs.Book.{Book}
use Rattle.job_script.specs.Commands.{is_excp}
use Rattle.job_script.specs.Views.{action_said, command_said, said}
use Rattle.job_script.specs.declared.command.Action.{Action}
use Rattle.job_script.specs.declared.command.Action.TheVariants.{Excp, Purge, PurgeTask, Close, Reset, Wait}
use Rattle.job_script.specs.declared.command.ScriptCommand.{ScriptCommand}
use Rattle.job_script.specs.declared.script.Script.{Script}
use Rattle.post_lines.specs.Lines.{count_text}
use Rattle.job_script.specs.declared.fault.JobError.{JobError}
use Rattle.job_script.specs.declared.fault.JobError.TheVariants as faults
use Rattle.post_lines.specs.Writing.{AppendsPart}
use Rattle.job_run.specs.Ending.{EndsBy, EndsWriting, IsRunOf, PrintsPosts, WritesPart}
use Rattle.job_run.specs.Printing.{excp_count, issues, posts_text, script_text}

issues_said : (a : Action) → is_excp a ≡ issues (action_said a)
issues_said (Excp e) = refl
issues_said (Purge dcb mode) = refl
issues_said (PurgeTask other mode) = refl
issues_said (Close dcb) = refl
issues_said (Reset dcb) = refl
issues_said Wait = refl

one_more : {X Y : Type 0} (p q : Bool) (x : X) (y : Y) (xs : List X) (ys : List Y) → p ≡ q → length xs ≡ length ys →
    length (cond p (x ∷ xs) xs) ≡ length (cond q (y ∷ ys) ys)
one_more true true x y xs ys is same = ap suc same
one_more true false x y xs ys is same = absurd (cc is)
one_more false true x y xs ys is same = absurd (cc is)
one_more false false x y xs ys is same = same

-- the EXCPs are those of what the commands say
count_said : (commands : List ScriptCommand) → length (filter (λ c. is_excp c.action) commands) ≡ excp_count (map command_said commands)
count_said [] = refl
count_said (c ∷ others) =
    one_more (is_excp c.action) (issues (action_said c.action)) c (command_said c) (filter (λ x. is_excp x.action) others)
    (filter (λ x. issues x.action) (map command_said others)) (issues_said c.action) (count_said others)

-- the text of a run whose tasks left these lines
texts : (script : Script) (books : List (Book AnyDevice)) (text : List ℕ) (commands : List ScriptCommand) →
    text ≡ script_text (said script) books → commands ≡ script.commands.items →
    text ++ count_text (length (filter (λ c. is_excp c.action) commands)) ≡ posts_text (said script) books
texts script books text commands lines all =
    ap (λ (l : List ℕ). l ++ count_text (length (filter (λ c. is_excp c.action) commands))) lines
    ∙ ap (λ (k : ℕ). script_text (said script) books ++ count_text k)
    (ap (λ (l : List ScriptCommand). length (filter (λ c. is_excp c.action) l)) all ∙ count_said script.commands.items)

-- a first part of the text that is written, if a write fails
pub prints_part : (n : ℕ) (old new before after : Option (List ℕ)) (script : Script) (books : List (Book AnyDevice)) (text : List ℕ)
    (commands : List ScriptCommand) → IsRunOf n old new (said script) books → text ≡ script_text (said script) books →
    commands ≡ script.commands.items →
    AppendsPart before after (text ++ count_text (length (filter (λ c. is_excp c.action) commands))) → WritesPart n old new before after
prints_part n old new before after script books text commands run lines all written = record {
  says = said script;
  books = books;
  run = run;
  part = subst (λ (l : List ℕ). AppendsPart before after l) (texts script books text commands lines all) written;
}

-- what ends a run that has written nothing
pub ends_unwritten : (n : ℕ) (old new before after : Option (List ℕ)) (fault : JobError) → EndsBy n old new fault →
    EndsWriting n old new before after fault
ends_unwritten n old new before after (faults.Line line name) ends = ends
ends_unwritten n old new before after faults.TooLong ends = ends
ends_unwritten n old new before after faults.Unreadable ends = ends
ends_unwritten n old new before after faults.NotWritten ends = absurd ends
ends_unwritten n old new before after faults.Unmatched ends = ends
ends_unwritten n old new before after faults.NoMemory ends = ends
ends_unwritten n old new before after faults.NoThread ends = ends

-- a failed write ends the run of a script
pub ends_writing : {A : Type 0} (r : Result A JobError) (n : ℕ) (old new before after : Option (List ℕ)) →
    IfErr r (λ fault. fault ≡ faults.NotWritten) → OnErr r (WritesPart n old new before after) →
    IfErr r (EndsWriting n old new before after)
ends_writing (Ok x) n old new before after is part = tt
ends_writing (Err fault) n old new before after is part = subst (EndsWriting n old new before after) (sym is) part

-- THE TEXT that is written
pub prints : (n : ℕ) (old new before after : Option (List ℕ)) (script : Script) (books : List (Book AnyDevice)) (text : List ℕ)
    (commands : List ScriptCommand) → IsRunOf n old new (said script) books → text ≡ script_text (said script) books →
    commands ≡ script.commands.items →
    Appends before after (text ++ count_text (length (filter (λ c. is_excp c.action) commands))) → PrintsPosts n old new before after
prints n old new before after script books text commands run lines all written = record {
  says = said script;
  books = books;
  run = run;
  printed = subst (λ (l : List ℕ). Appends before after l) (texts script books text commands lines all) written;
}
