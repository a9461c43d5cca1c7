use Rattle.unit_book.proofs.Names.{◌≡◌, Some, length, reverse, arith, refl, ap, length-append, slice_get}
use Rattle.unit_book.proofs.Names.{ExtentViolated, no_status, Post, OfFirst, waiting}
use Rattle.unit_book.specs.Refusals.{ForPost}
use Rattle.unit_book.specs.Legal.{FailsCheck}
use Rattle.unit_book.proofs.Dooms.{doomed-post, doomed-few, due-doomed}
use Rattle.unit_book.proofs.LegalFacts.{facts, first-waits}
use Rattle.unit_book.proofs.Same.{fits-free, on-err}
use Rattle.unit_book.proofs.Starts.{ties-first_post, waiting-value}
use Rattle.unit_book.proofs.Opens.{first-opened, opened-row}
use Rattle.unit_book.proofs.entries.Entries.post_violated.Given.{Over}
use Rattle.unit_book.proofs.entries.Entries.post_violated.Goals.{In-Some}
use Rattle.unit_book.proofs.entries.Entries.post_violated.Goals as goal
use Rattle.std.proofs.lemmas.Grind.{common_steps}

-- what was found: the request that waits first, which fails the check
found : (g : Over) (c : In-Some g) → let i = c.self.inside in let b = c.in-Some.piece.value in
    FailsCheck g.D.Device.meaning i.mounted b.name (reverse i.trace.items)
    × (slice_get (waiting (reverse i.trace.items)) 0 ≡ Some b)
    × (slice_get i.waiting.pieces 0 ≡ Some b)
found g c = grind (arith, common_steps)

pub returns-in_err-reserve-clause-full : goal.returns-in_err-reserve-clause-full
returns-in_err-reserve-clause-full g c =
    let s = rw (← c.self.view_is) at c.requires.first in
    let queue = ap length c.self.invariant.0.queue in
    on-err c.from_residual.result _
    (rw (← c.self.view_is) (ForPost s.0 s.1 (omega (arith, c.in_err-reserve.ensures.full, c.len.ensures.len, queue))))

pub note_post-requires : goal.note_post-requires
note_post-requires g c =
    let m = g.D.Device.meaning in
    let i = c.self.inside in
    let b = c.in-Some.piece.value in
    let f = found g (goal.at.note_post-requires g c).In-Some in
    let settled = rw (← c.self.view_is) at c.requires.settled in
    let opened = first-opened m i.mounted b (reverse i.trace.items) settled f.1 in
    rw c.deref-request.ensures (opened-row m i.mounted b.dcb c.self.invariant.0 opened)

pub invariant_of-self-2 : goal.invariant_of-self-2
invariant_of-self-2 g c =
    let i = c.self.inside in
    let b = c.in-Some.piece.value in
    let f = found g (goal.at.invariant_of-self-2 g c).In-Some in
    let settled = rw (← c.self.view_is) at c.requires.settled in
    let fits = fits-free g.D.Device.meaning i.mounted (Post b.name no_status 0 ExtentViolated) (reverse i.trace.items) settled (OfFirst
    (record { fails = f.0; code_is = refl; csw_is = refl; sense_is = refl })) in
    let noted = rw c.deref-request.ensures at c.note_post.ensures.dcbs in
    let k = ties-first_post c.self.invariant.0 fits f.1 noted c.note_post.ensures.count in
    grind (arith, common_steps, length-append)

pub returns-clause-ok : goal.returns-clause-ok
returns-clause-ok g c =
    let m = g.D.Device.meaning in
    let i = c.self.inside in
    let b = c.in-Some.piece.value in
    let H = reverse i.trace.items in
    let f = found g (goal.at.returns-clause-ok g c).In-Some in
    let t = c.self.invariant.0 in
    let settled = rw (← c.self.view_is) at c.requires.settled in
    let value = waiting-value t f.1 in
    let issued = (first-waits b H (facts m i.mounted H t.legal) f.1).known.0 in
    let dooms = doomed-post b.name no_status 0 ExtentViolated H (due-doomed m i.mounted H settled) in
    let few = doomed-few b.name no_status 0 ExtentViolated H in
    let queue = ap length t.queue in
    grind (arith, common_steps)
