use Rattle.std.proofs.Common.{◌∙◌, ap, reverse, rules}
use Rattle.std.proofs.lemmas.Fn.{filter_same}
use Rattle.unit_book.specs.Renewal.{is_opening_or_close}
use Rattle.unit_book.proofs.DcbRows.{filter-reverse}
use Rattle.unit_book.proofs.entries.renewal.keep_openings_and_closes.Goals as goal

pub returns : goal.returns
returns c =
    ap reverse (c.shrink_to_fit.ensures.items
    ∙ filter_same _ is_opening_or_close _ (λ x b f' k. search rules) _ _ c.retain.ensures.filtered)
    ∙ filter-reverse is_opening_or_close c.args.trace.now.items
