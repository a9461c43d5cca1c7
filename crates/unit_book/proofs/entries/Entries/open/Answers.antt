use Rattle.unit_book.proofs.Names.{◌≡◌, ◌+◌, ◌∷◌, [], List, false, reverse, length, length-append, ap, ◌∙◌, Dcb, opened_count}
use Rattle.unit_book.proofs.Opens.{ties-open}
use Rattle.unit_book.proofs.entries.Entries.open.Goals as goal

pub invariant_of-self-2 : goal.invariant_of-self-2
invariant_of-self-2 g c =
    let i = c.self.inside in
    let settled = rw (← c.self.view_is) at c.requires.settled in
    let fits = rw (← c.self.view_is) at c.requires.fits in
    let k = ties-open g.D.Device.meaning i.mounted c.args.method settled fits c.self.invariant.0 in
    let p = c.in_ok-push.ensures.ok in
    let row : List Dcb = record { method = c.args.method; extents = c.in_ok-kept.kept; closed = false; in_error = false } ∷ [] in
    let number : c.len-dcb.result ≡ opened_count (reverse i.trace.items) + 1 = c.len-dcb.ensures ∙ ap length p ∙ length-append i.dcbs row
    ∙ ap (λ n. n + 1) c.self.invariant.0.count in
    (rw (c.write.ensures.items, p, c.in_ok-kept.ensures, c.in_ok-shown.ensures, number) k, c.self.invariant.1)
