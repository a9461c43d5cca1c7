use Rattle.unit_book.proofs.Names.{posted_value}
use Rattle.unit_book.proofs.entries.posts.posted_from.Goals as goal

pub returns : goal.returns
unfolding posted_value
returns c = c.new.ensures
