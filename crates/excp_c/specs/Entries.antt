-- AN ENTRY OF A TRACE as C sees it: `excp_trace_entry` of c/excp.h.
use Rattle.std.specs.Prelude.{◌≡◌, ℕ, Some}
use Rattle.io_images.specs.Codes.{code_byte}
use Rattle.request_piece.specs.declared.piece.Name.{Name}
use Rattle.request_piece.specs.declared.scope.Scope.TheVariants as scope
use Rattle.unit_book.specs.declared.dcb.ProcessingMethod.{ProcessingMethod}
use Rattle.unit_book.specs.declared.dcb.ProcessingMethod.TheVariants as methods
use Rattle.unit_book.specs.declared.entry.Entry.{Entry as Made}
use Rattle.unit_book.specs.declared.entry.Entry.TheVariants as made
use Rattle.unit_book.specs.declared.entry.Mode.{Mode}
use Rattle.unit_book.specs.declared.entry.Mode.TheVariants as modes
use Rattle.excp_site.specs.Looks.{TraceAt}
use Rattle.excp_site.specs.Sites.{HasPart, SiteView, number_of}
use Rattle.excp_c.specs.declared.entries.TraceEntry.{TraceEntry}

abbrev pub method_number : ProcessingMethod → ℕ
method_number methods.Input = 0
method_number methods.Output = 1

abbrev pub mode_number : Mode → ℕ
mode_number modes.Quiesce = 0
mode_number modes.Halt = 1

-- an entry of a DCB: its kind, its number, and what it was opened for or the mode of its purge
abbrev pub entry_of_dcb : ℕ → ℕ → ℕ → TraceEntry
entry_of_dcb kind dcb way = record {
  number = 0;
  commands = 0;
  address = 0;
  task = 0;
  dcb = dcb;
  residual = 0;
  sense = 0;
  kind = kind;
  way = way;
  code = 0;
  unit_status = 0;
  channel_status = 0;
}

-- an entry of a request: its kind, and its name
abbrev pub entry_of_request : SiteView → ℕ → ℕ → Name → TraceEntry
entry_of_request s unit kind name = record (entry_of_dcb kind 0 0) { number = number_of s unit name; task = name.task }

abbrev pub entry_in_c : SiteView → ℕ → Made → TraceEntry
entry_in_c s unit (made.Opened dcb method extents) = entry_of_dcb 0 dcb (method_number method)
entry_in_c s unit (made.Arrive issued) = entry_of_request s unit 1 issued.name
entry_in_c s unit (made.Start name) = entry_of_request s unit 2 name
entry_in_c s unit (made.Ran name commands) = record (entry_of_request s unit 3 name) { commands = commands }
entry_in_c s unit (made.Halted name) = entry_of_request s unit 4 name
entry_in_c s unit (made.Purge (scope.Dcb dcb) mode) = entry_of_dcb 5 dcb (mode_number mode)
entry_in_c s unit (made.Purge (scope.Task task) mode) = record (entry_of_dcb 6 0 (mode_number mode)) { task = task }
entry_in_c s unit (made.Close dcb) = entry_of_dcb 7 dcb 0
entry_in_c s unit (made.Reset dcb) = entry_of_dcb 8 dcb 0
entry_in_c s unit (made.Post name csw sense code) = record (entry_of_request s unit 9 name) {
  address = csw.address;
  residual = csw.residual;
  sense = sense;
  code = code_byte code;
  unit_status = csw.unit.0;
  channel_status = csw.sub.0;
}

-- the entry at a place of the trace of a unit
abbrev pub ShowsEntry : SiteView → ℕ → ℕ → TraceEntry → Type 0
ShowsEntry s unit place entry = (it : Made) × HasPart s.plain unit (λ p. TraceAt p place (Some it)) × (entry ≡ entry_in_c s unit it)
