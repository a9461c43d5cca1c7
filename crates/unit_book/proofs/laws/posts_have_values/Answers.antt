use Rattle.unit_book.proofs.Counted.{have-values}
use Rattle.unit_book.proofs.laws.posts_have_values.Goals as goal

pub returns : goal.returns
returns g c = have-values g.D.Device.meaning
