use Rattle.unit_book.proofs.Names.{sym, ap, ◌∙◌}
use Rattle.std.specs.Prelude.{option_map, box_value}
use Rattle.unit_book.proofs.Posting.{posting-next}
use Rattle.unit_book.proofs.entries.posts.post_all.Goals as goal

pub loop-piece-preserved : goal.loop-piece-preserved
loop-piece-preserved c = posting-next c.loop-piece.invariant (record {
  first = sym (ap (option_map box_value) c.in-Some.is) ∙ c.pop.ensures.first;
  queue_is = c.pop.ensures.rest;
  trace_is = c.post_purged.ensures.trace;
  out_is = c.post_purged.ensures.out;
  spare_is = c.post_purged.ensures.spare;
})
