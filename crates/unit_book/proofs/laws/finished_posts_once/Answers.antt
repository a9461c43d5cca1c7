use Rattle.unit_book.proofs.Worlds.{finished-once}
use Rattle.unit_book.proofs.laws.finished_posts_once.Goals as goal

pub returns : goal.returns
returns g c = finished-once g.D.Device.meaning
