use Rattle.std.proofs.Common.{◌≡◌, List, OnOk, subst, arith}
use Rattle.std.proofs.lemmas.Grind.{common_steps}
use Rattle.std.specs.Prelude.{option_copied}
use Rattle.aws_tape.specs.declared.layout.Part.{Part}
use Rattle.aws_tape.specs.Writing.{IsReadBack, IsUntouched, saved}
use Rattle.medium_image.specs.Saving.{layout_of}
use Rattle.medium_image.proofs.saving.save_tape.Goals as goal

pub returns-in-Some-Tape-clause-read_back : goal.returns-in-Some-Tape-clause-read_back
returns-in-Some-Tape-clause-read_back g c =
    let is : c.in-Some-Tape.layout ≡ layout_of (option_copied c.args.kept) = grind (arith, common_steps) in
    let mounted = c.args.mounted.now.reel.items in
    let now = c.args.now.now.reel.items in
    subst (λ (parts : List Part). OnOk c.write_tape.result (IsReadBack now (saved parts mounted now))) is c.write_tape.ensures.read_back

pub returns-in_default-clause-read_back : goal.returns-in_default-clause-read_back
returns-in_default-clause-read_back g c =
    let is : c.canonical.result ≡ layout_of (option_copied c.args.kept) = grind (arith, common_steps) in
    let mounted = c.args.mounted.now.reel.items in
    let now = c.args.now.now.reel.items in
    subst (λ (parts : List Part). OnOk c.write_tape-in_default-2.result (IsReadBack now (saved parts mounted now))) is
    c.write_tape-in_default-2.ensures.read_back

pub returns-in-Some-Tape-clause-untouched : goal.returns-in-Some-Tape-clause-untouched
returns-in-Some-Tape-clause-untouched g c =
    let is : c.in-Some-Tape.layout ≡ layout_of (option_copied c.args.kept) = grind (arith, common_steps) in
    let mounted = c.args.mounted.now.reel.items in
    let now = c.args.now.now.reel.items in
    subst (λ (parts : List Part). OnOk c.write_tape.result (IsUntouched parts mounted now (saved parts mounted now))) is
    c.write_tape.ensures.untouched
