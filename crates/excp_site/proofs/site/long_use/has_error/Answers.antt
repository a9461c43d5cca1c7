use Rattle.std.proofs.Common.{◌≡◌, ◌∙◌, ◌+◌, ◌∷◌, [], List, ap, reverse, slice_index_or, subst, sym, take}
use Rattle.std.proofs.lemmas.List.{take_more, reverse-append}
use Rattle.unit_book.specs.declared.entry.Entry.{Entry}
use Rattle.excp_site.proofs.Flagged.{AllUnflagged, one-more, opened-is, opens-none}
use Rattle.excp_site.proofs.site.long_use.has_error.Goals as goal
use Rattle.excp_site.proofs.site.long_use.has_error.Goals.{in-Opened+else-is_flagged, in_default}

pub loop-entry-preserved : goal.loop-entry-preserved
loop-entry-preserved c =
    let b = c.args.book.now in
    let items = c.trace-entry-items.result.now in
    let n = c.loop-entry.entry-index in
    let e = c.entry-item.result in
    let others = c.loop-entry.invariant.unflagged in
    let more : reverse (take (n + 1) items) ≡ e ∷ reverse (take n items) = ap reverse (take_more items n e c.loop-entry-test.true)
    ∙ reverse-append (take n items) (slice_index_or items n e ∷ []) ∙ ap (λ (x : Entry). x ∷ reverse (take n items)) (sym c.entry-item.is) in
    elim c.match-entry.branch [
      | in-Opened+else-is_flagged w ↦ record {
        unflagged = subst (λ (H : List Entry). AllUnflagged b H) (sym more) (one-more b e (reverse (take n items))
            (opened-is b e w.in-Opened.dcb w.in-Opened.field-1 w.in-Opened.field-2 w.in-Opened.is ((w.if-is_flagged.ensures {u = tt}).no)) others);
        trace = c.loop-entry.invariant.trace;
      }
      | in_default w ↦ record {
        unflagged = subst (λ (H : List Entry). AllUnflagged b H) (sym more)
            (one-more b e (reverse (take n items)) (opens-none b e w.in_default.not-Opened) others);
        trace = c.loop-entry.invariant.trace;
      }
    ]
