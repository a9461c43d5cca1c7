use Rattle.disk_laws.proofs.Programs.{disk-confined, unit-confined}
use Rattle.disk_laws.proofs.laws.programs_are_confined.Goals as goal

pub returns : goal.returns
returns c = record { disk = disk-confined; unit = unit-confined }
