-- Requests that are tried one after another.
use Rattle.std.proofs.Common.{◌≡◌, true, false, refl, List, [], ◌∷◌, Ok, Err}
use Rattle.job_script.specs.declared.fault.FaultName.TheVariants as names
use Rattle.job_script.specs.Said.{CommandSaid}
use Rattle.job_mount.specs.Mounting.{tried}
use Rattle.job_mount.specs.Requests.{is_doable}

pub one_tried : (command : CommandSaid) (others : List CommandSaid) → is_doable command.action ≡ true →
    tried (command ∷ others) ≡ tried others
unfolding tried
one_tried command others can = rw can refl

pub one_untried : (command : CommandSaid) (others : List CommandSaid) → is_doable command.action ≡ false
    → tried (command ∷ others) ≡ Err (record { line = command.line; name = names.Request })
unfolding tried
one_untried command others can = rw can refl

pub all_tried : tried [] ≡ Ok tt
unfolding tried
all_tried = refl
