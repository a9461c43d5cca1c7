use Rattle.unit_book.proofs.Names.{◌≡◌, [], ◌∷◌, Some, length-append, append_assoc, map, reverse, arith, refl, sym, ap, ◌∙◌, true, Ties}
use Rattle.unit_book.proofs.Names.{PostsActive, covers_awaiting, subst, Purged, filter, Queue, covers, purged, posted_value}
use Rattle.unit_book.specs.Fields.{kept_by, fields_of}
use Rattle.unit_book.proofs.Facts.{Each-filter}
use Rattle.std.proofs.lemmas.List.{length-map}
use Rattle.unit_book.proofs.Dooms.{length-filters}
use Rattle.unit_book.proofs.Awaiting.{ties-awaiting, settled-awaiting, since-awaiting, after-is, fits-purged, FoundAwaiting}
use Rattle.unit_book.proofs.Controls.{awaiting-is}
use Rattle.unit_book.proofs.Room.{length-posted}
use Rattle.unit_book.proofs.Same.{ties-found, rooms-found, swept-found}
use Rattle.unit_book.proofs.entries.Entries.purge_awaiting.Given.{Over}
use Rattle.unit_book.proofs.entries.Entries.purge_awaiting.Goals.{After-is_covered_awaiting}
use Rattle.unit_book.proofs.entries.Entries.purge_awaiting.Goals as goal
use Rattle.std.proofs.lemmas.Grind.{common_steps}

pub post_all-requires : goal.post_all-requires
post_all-requires g c = grind (arith, common_steps, swept-found, length-filters, Each-filter)

pub write_post-requires : goal.write_post-requires
write_post-requires g c = grind (arith, common_steps, swept-found, length-filters)

pub hand_out-requires : goal.hand_out-requires
hand_out-requires g c = grind (arith, common_steps, rooms-found, swept-found, length-filters, length-append, length-map)

-- what was found: the active request awaits its restart, and the purge covers it
found : (g : Over) (c : After-is_covered_awaiting g) → let i = c.self.inside in let m = g.D.Device.meaning in
    c.is_covered_awaiting.result ≡ true → (i.active ≡ Some c.in-Some.active)
    × Ties m i.mounted (fields_of (reverse i.trace.items) i.channel i.waiting.pieces i.dcbs i.out.items) (Some c.in-Some.active)
    × FoundAwaiting m i.mounted (reverse i.trace.items) c.in-Some.active c.args.scope c.args.mode
found g c covered = grind (arith, common_steps, ties-found)

pub invariant_of-self-2 : goal.invariant_of-self-2
invariant_of-self-2 g c =
    let i = c.self.inside in
    let p = covers c.args.scope in
    let f = found g (goal.at.invariant_of-self-2 g c).After-is_covered_awaiting c.if-not-is_covered_awaiting.false in
    let k = ties-awaiting g.D.Device.meaning i.mounted f.1 f.2 in
    let room = rooms-found f.0 c.self.invariant.1 in
    let sw = swept-found c.sweep.ensures.swept room.swept_is in
    let items_is = ap (λ (x : Queue). x.pieces) sw in
    let few = length-filters p i.waiting.pieces in
    let purges = map purged (filter p i.waiting.pieces) in
    grind (arith, common_steps, length-append, length-map)

pub returns-clause-book : goal.returns-clause-book
returns-clause-book g c =
    let m = g.D.Device.meaning in
    let i = c.self.inside in
    let a = c.in-Some.active in
    let f = found g (goal.at.returns-clause-book g c).After-is_covered_awaiting c.if-not-is_covered_awaiting.false in
    let fits = fits-purged m i.mounted f.1 f.2 in
    let since = since-awaiting m i.mounted f.1 f.2 in
    let after = after-is m i.mounted f.1 f.2 in
    let status = kept_by a.standing in
    let sw = swept-found c.sweep.ensures.swept c.self.invariant.1.swept_is in
    let items_is = ap (λ (x : Queue). x.pieces) sw in
    let trace_is = rw items_is at c.post_all.ensures.trace in
    let out_is = rw items_is at c.post_all.ensures.out in
    let value = posted_value a.piece.value status.csw status.sense Purged a.piece.value.area in
    let joined = append_assoc i.out.items (map purged (filter (covers c.args.scope) i.waiting.pieces)) (value ∷ []) in
    rw (← c.self.view_is) (λ is. record {
      name = a.piece.value.name;
      status = status;
      fits = subst (PostsActive m i.mounted a.piece.value.name status Purged) (sym after) fits;
      extends = rw after (rw since
          (rw (
            c.write_post.ensures.items,
            trace_is,
            c.write.ensures.items,
            c.hand_out.ensures,
            out_is,
            c.posted_from.ensures,
            c.kept_status-kept.ensures,
            c.name-name.ensures,
            c.take.ensures.after,
            joined,
          ) refl));
    })

pub returns-clause-settled : goal.returns-clause-settled
returns-clause-settled g c =
    let f = found g (goal.at.returns-clause-settled g c).After-is_covered_awaiting c.if-not-is_covered_awaiting.false in
    let sw = swept-found c.sweep.ensures.swept c.self.invariant.1.swept_is in
    let items_is = ap (λ (x : Queue). x.pieces) sw in
    let trace_is = rw items_is at c.post_all.ensures.trace in
    rw (c.write_post.ensures.items, trace_is, c.write.ensures.items, c.kept_status-kept.ensures, c.name-name.ensures)
    (settled-awaiting g.D.Device.meaning c.self.inside.mounted f.1 f.2)

pub returns-clause-spare : goal.returns-clause-spare
returns-clause-spare g c = grind (arith, common_steps, length-posted)

-- whether the purge covers it, as the trace says
told : (g : Over) (c : After-is_covered_awaiting g) →
    c.is_covered_awaiting.result ≡ covers_awaiting c.args.self.now c.args.scope c.args.mode
told g c = grind (arith, common_steps, awaiting-is)

pub returns-clause-covered : goal.returns-clause-covered
returns-clause-covered g c = sym c.if-not-is_covered_awaiting.false ∙ told g (goal.at.returns-clause-covered g c).After-is_covered_awaiting

pub returns-then-not-is_covered_awaiting-clause-covered : goal.returns-then-not-is_covered_awaiting-clause-covered
returns-then-not-is_covered_awaiting-clause-covered g c = grind (arith, common_steps, told)
