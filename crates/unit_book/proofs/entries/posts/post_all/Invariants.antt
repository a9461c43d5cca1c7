use Rattle.unit_book.proofs.Names.{◌-◌, length, reverse}
use Rattle.std.proofs.Common.{vec_len, vec_capacity}
use Rattle.unit_book.proofs.Posting.{Posting}
use Rattle.unit_book.proofs.entries.posts.post_all.Given as goal

abbrev pub invariant-loop-piece : goal.invariant-loop-piece
invariant-loop-piece l =
    let b = l.initial in
    Posting (record { queue = b.swept; trace = reverse b.trace.items; out = b.out; spare = vec_capacity b.trace - vec_len b.trace })
    (record { queue = l.swept; trace = reverse l.trace.items; out = l.out; spare = vec_capacity l.trace - vec_len l.trace })

abbrev pub decreases-loop-piece : goal.decreases-loop-piece
decreases-loop-piece l = length l.swept.pieces
