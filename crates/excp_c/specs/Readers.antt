-- WHAT A READER WROTE OUT: what the site tells (excp_site), as C sees it.
use Rattle.std.specs.Prelude.{◌≡◌, ◌<◌, ◌+◌, ℕ, Some, List, ◌++◌, length}
use Rattle.tape_unit.specs.Item.{Item as OnTape, content_of}
use Rattle.ckd_disk.specs.Record.{Record as OnTrack}
use Rattle.line_printer.specs.Paper.{Line as Printed}
use Rattle.request_piece.specs.declared.piece.Name.{Name}
use Rattle.excp_site.specs.Looks.{ItemAt, LineAt, RecordAt, WaitsAt, device_now}
use Rattle.excp_site.specs.Sites.{HasPart, SiteView, number_of}
use Rattle.excp_c.specs.Buffers.{copied}
use Rattle.excp_c.specs.Contents.{item_in_c, line_in_c, record_in_c}
use Rattle.excp_c.specs.declared.contents.Item.{Item}
use Rattle.excp_c.specs.declared.contents.Line.{Line}
use Rattle.excp_c.specs.declared.contents.Record.{Record}

-- the task and the number of the request that waits at a place
abbrev pub Waits : SiteView → ℕ → ℕ → ℕ → ℕ → Type 0
Waits s unit place task number =
    (name : Name) × HasPart s.plain unit (λ p. WaitsAt p place name) × (task ≡ name.task) × (number ≡ number_of s unit name)

-- the record at a place, with its key and its data at the front of the buffer
abbrev pub ReadsSite : SiteView → ℕ → ℕ → ℕ → ℕ → Record → List ℕ → List ℕ → Type 0
ReadsSite s unit cylinder head place shown old new =
    (r : OnTrack) × HasPart s.plain unit (λ p. RecordAt (device_now p.book) cylinder head place (Some r)) × (shown ≡ record_in_c r) ×
    (new ≡ copied (r.key ++ r.content) old)

-- the record at a place does not fit into this buffer
abbrev pub RecordIsLonger : SiteView → ℕ → ℕ → ℕ → ℕ → ℕ → Type 0
RecordIsLonger s unit cylinder head place room =
    (r : OnTrack) × HasPart s.plain unit (λ p. RecordAt (device_now p.book) cylinder head place (Some r)) ×
    (room < length r.key + length r.content)

-- the item at a place, with its data at the front of the buffer
abbrev pub ReadsItem : SiteView → ℕ → ℕ → Item → List ℕ → List ℕ → Type 0
ReadsItem s unit place shown old new =
    (i : OnTape) × HasPart s.plain unit (λ p. ItemAt (device_now p.book) place (Some i)) × (shown ≡ item_in_c i) ×
    (new ≡ copied (content_of i) old)

-- the item at a place does not fit into this buffer
abbrev pub ItemIsLonger : SiteView → ℕ → ℕ → ℕ → Type 0
ItemIsLonger s unit place room =
    (i : OnTape) × HasPart s.plain unit (λ p. ItemAt (device_now p.book) place (Some i)) × (room < length (content_of i))

-- the line at a place, with its bytes at the front of the buffer
abbrev pub Prints : SiteView → ℕ → ℕ → Line → List ℕ → List ℕ → Type 0
Prints s unit place shown old new =
    (l : Printed) × HasPart s.plain unit (λ p. LineAt (device_now p.book) place (Some l)) × (shown ≡ line_in_c l) × (new ≡ copied l.bytes old)

-- the line at a place does not fit into this buffer
abbrev pub LineIsLonger : SiteView → ℕ → ℕ → ℕ → Type 0
LineIsLonger s unit place room =
    (l : Printed) × HasPart s.plain unit (λ p. LineAt (device_now p.book) place (Some l)) × (room < length l.bytes)
