use Rattle.disk_laws.proofs.Requests.{disk-requests_confined, unit-requests_confined}
use Rattle.disk_laws.proofs.laws.requests_are_confined.Goals as goal

pub returns : goal.returns
returns c = record { disk = disk-requests_confined; unit = unit-requests_confined }
