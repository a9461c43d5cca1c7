use Rattle.unit_book.proofs.Worlds.{world-laws}
use Rattle.unit_book.proofs.laws.worlds_keep_requests.Goals as goal

pub returns : goal.returns
returns g c = world-laws g.D.Device.meaning
