use Rattle.std.proofs.Common.{[], ◌∷◌, ◌++◌, ap, sym, ◌∙◌}
use Rattle.circular_buffer.specs.Buffer.{buffer}
use Rattle.unit_queue.proofs.Copies.{take-next}
use Rattle.unit_book.proofs.entries.copies.copy_posts.Goals as goal

pub loop-at-preserved : goal.loop-at-preserved
loop-at-preserved c =
    let posts = c.args.posts.now in
    let x = c.in_ok-copy_post.field-0 in
    c.hand_out.ensures ∙ ap (λ b. buffer (b.items ++ x ∷ []) b.capacity) c.loop-at.invariant
    ∙ ap (λ items. buffer items posts.capacity) (sym (take-next posts.items c.loop-at.at x c.in_ok-copy_post.ensures))
