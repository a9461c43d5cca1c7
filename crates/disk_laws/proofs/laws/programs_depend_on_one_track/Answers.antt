use Rattle.disk_laws.proofs.Sights.{depends-on_one_track}
use Rattle.disk_laws.proofs.laws.programs_depend_on_one_track.Goals as goal

pub returns : goal.returns
returns c = depends-on_one_track
