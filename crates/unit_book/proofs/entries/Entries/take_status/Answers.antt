use Rattle.unit_book.proofs.Names.{◌≡◌, Some, None, length, length-append, reverse, arith, refl, sym, ap, ◌∙◌, Piece, Ties, request_named}
use Rattle.subchannel.specs.Subchannel.{status_of}
use Rattle.unit_book.specs.Fields.{pending_code, fields_of}
use Rattle.unit_book.proofs.ActivePosts.{ties-post, value-is, doom-is}
use Rattle.unit_book.proofs.Decisions.{decided, decided_pending, ties-await}
use Rattle.unit_book.proofs.Dooms.{doomed-post, doomed-few, due-doomed}
use Rattle.unit_book.proofs.Facts.{active-is}
use Rattle.unit_book.proofs.Opens.{opened-row, started-opened}
use Rattle.unit_book.proofs.Same.{ties-found, rooms-found}
use Rattle.unit_book.proofs.entries.Entries.take_status.Given.{Over}
use Rattle.unit_book.proofs.entries.Entries.take_status.Goals.{After-code}
use Rattle.unit_book.proofs.entries.Entries.take_status.Goals as goal
use Rattle.std.proofs.lemmas.Grind.{common_steps}

-- what was found: the active request, whose status is pending, and its code
found : (g : Over) (c : After-code g) → let i = c.self.inside in let a = c.in-Some-take.active in
    (i.active ≡ Some a)
    × Ties g.D.Device.meaning i.mounted (fields_of (reverse i.trace.items) i.channel i.waiting.pieces i.dcbs i.out.items) (Some a)
    × (status_of i.channel.phase ≡ Some c.in-Some.status)
    × (pending_code (g.D.Device.meaning.kind i.mounted) c.in-Some.status a.starts a.halted a.covered ≡ c.code.result)
found g c =
    let o : c.self.inside.active ≡ Some c.in-Some-take.active = sym c.take.ensures.value ∙ c.in-Some-take.is in
    (o, ties-found o c.self.invariant.0, sym c.status.ensures ∙ c.in-Some.is, sym (rw c.kind.ensures at c.code.ensures))

pub invariant_of-self-in_default-code : goal.invariant_of-self-in_default-code
invariant_of-self-in_default-code g c =
    let f = found g (goal.at.invariant_of-self-in_default-code g c).After-code in
    let k = decided g.D.Device.meaning c.self.inside.mounted f.1 f.2 None (f.3 ∙ c.in_default-code.is) in
    let v = c.awaiting.ensures in
    let room = rooms-found f.0 c.self.invariant.1 in (
      rw (c.tsch.ensures.state, v) (ties-await g.D.Device.meaning c.self.inside.mounted f.1 k.0 k.1),
      rw v (record { occupancy = room.occupancy; waiting_room = room.waiting_room; swept_is = room.swept_is }),
    )

pub returns-in_default-code-clause-ok : goal.returns-in_default-code-clause-ok
returns-in_default-code-clause-ok g c =
    let f = found g (goal.at.returns-in_default-code-clause-ok g c).After-code in
    let k = decided g.D.Device.meaning c.self.inside.mounted f.1 f.2 None (f.3 ∙ c.in_default-code.is) in
    grind (arith, common_steps, decided_pending)

pub returns-in-Err-clause-full : goal.returns-in-Err-clause-full
returns-in-Err-clause-full g c =
    let f = found g (goal.at.returns-in-Err-clause-full g c).After-code in
    let fits = decided g.D.Device.meaning c.self.inside.mounted f.1 f.2 (Some c.in-Some-code.code) (f.3 ∙ c.in-Some-code.is) in
    let full = c.in-Err.ensures.full in
    let count = c.len.ensures.len in
    let queue = ap length f.1.queue in
    rw (← c.self.view_is) (record {
      name = c.in-Some-take.active.piece.value.name;
      status = c.in-Some.status;
      code = c.in-Some-code.code;
      fits = fits;
      room = omega arith;
    })

pub returns-in-Err-clause-pending : goal.returns-in-Err-clause-pending
returns-in-Err-clause-pending g c =
    let f = found g (goal.at.returns-in-Err-clause-pending g c).After-code in
    rw (← c.self.view_is) (rw f.0 (decided_pending g.D.Device.meaning c.self.inside.mounted f.1 f.2))

pub note_post-requires : goal.note_post-requires
note_post-requires g c =
    let m = g.D.Device.meaning in
    let i = c.self.inside in
    let a = c.in-Some-take.active in
    let t = (found g (goal.at.note_post-requires g c).After-code).1 in
    let H = reverse i.trace.items in
    let opened = started-opened m i.mounted a.piece.value.name H t.legal (active-is a.piece.value.name H t.activity.is).0 in
    let same = ap (λ (r : Piece). r.dcb) t.activity.request in
    rw (c.deref-request.ensures, same) (opened-row m i.mounted (request_named a.piece.value.name H).dcb t opened)

pub invariant_of-self-2 : goal.invariant_of-self-2
invariant_of-self-2 g c =
    let i = c.self.inside in
    let f = found g (goal.at.invariant_of-self-2 g c).After-code in
    let fits = decided g.D.Device.meaning i.mounted f.1 f.2 (Some c.in-Some-code.code) (f.3 ∙ c.in-Some-code.is) in
    let noted = rw c.deref-request.ensures at c.note_post.ensures.dcbs in
    let settled = rw (← c.self.view_is) at c.requires in
    let k = ties-post settled f.1 fits noted c.note_post.ensures.count in
    grind (arith, common_steps, length-append)

pub returns-clause-ok : goal.returns-clause-ok
returns-clause-ok g c =
    let m = g.D.Device.meaning in
    let i = c.self.inside in
    let a = c.in-Some-take.active in
    let H = reverse i.trace.items in
    let f = found g (goal.at.returns-clause-ok g c).After-code in
    let fits = decided m i.mounted f.1 f.2 (Some c.in-Some-code.code) (f.3 ∙ c.in-Some-code.is) in
    let settled = rw (← c.self.view_is) at c.requires in
    let value = value-is settled f.1 fits in
    let dooms = doomed-post a.piece.value.name c.in-Some.status.csw c.in-Some.status.sense c.in-Some-code.code H
    (due-doomed m i.mounted H settled) in
    let same = doom-is m i.mounted c.in-Some-code.code f.1 in
    let few = doomed-few a.piece.value.name c.in-Some.status.csw c.in-Some.status.sense c.in-Some-code.code H in
    let w = c.write_post.ensures.items in
    let r = c.reserve.ensures.items in
    let n = c.name-name.ensures in
    let ok = c.in-Ok.ensures.ok in
    let len = c.in-Ok.ensures.len in
    let spare = c.write_post.ensures.spare in
    let count = c.len.ensures.len in
    let queue = ap length f.1.queue in
    rw (← c.self.view_is) (
      rw f.0 (decided_pending m i.mounted f.1 f.2),
      record {
        status = c.in-Some.status;
        fits = rw n fits;
        posts = record {
          extends = rw (w, r, n, c.hand_out.ensures, c.posted_from.ensures, c.tsch-stored.ensures.state, c.take.ensures.after, value) refl;
          room = rw (w, r, n) (omega arith);
          dooms = rw (w, r, n, c.doomed_by_post-doom.ensures, c.deref-request.ensures, same) dooms;
        };
      },
    )
