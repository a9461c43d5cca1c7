-- What the passes of a row know. Profile.
use Rattle.std.specs.Prelude.{ℕ, List, [], true, false}
use Rattle.crossbeam_queue.specs.Passes.{Pass, view}
use Rattle.fifo_row.specs.declared.view.RowView.{RowView}

-- what this pass knows
abbrev pub known : {I : Type 0} → Pass I (RowView I) → RowView I
known p = view p

-- sender `number` has sent this
abbrev pub sender_view : {I : Type 0} → ℕ → ℕ → List I → RowView I
sender_view tag number sent =
    record { takes = false; sends = true; number = number; tag = tag; sent = sent; taken = []; made = 0; met = [] }

-- the taker has made the senders below `made`, has taken this, and has met these
abbrev pub taker_view : {I : Type 0} → ℕ → ℕ → List I → List (ℕ × List I) → RowView I
taker_view tag made taken met =
    record { takes = true; sends = false; number = 0; tag = tag; sent = []; taken = taken; made = made; met = met }

-- the first pass of a row: a taker that has made no sender, and carries no tag yet
abbrev pub opening_view : {I : Type 0} → RowView I
opening_view = taker_view 0 0 [] []

-- the pass of a sender that was met, which nobody uses any more
abbrev pub spent_view : {I : Type 0} → RowView I
spent_view = record { takes = false; sends = false; number = 0; tag = 0; sent = []; taken = []; made = 0; met = [] }
