-- A RECORD, AN ITEM AND A LINE as C sees them: `excp_record`, `excp_item` and `excp_line` of c/excp.h.
use Rattle.std.specs.Prelude.{ℕ, ◌+◌, ◌*◌, List, length, min, slice_index_or}
use Rattle.ckd_disk.specs.Record.{Record as OnTrack}
use Rattle.line_printer.specs.Paper.{Line as Printed}
use Rattle.tape_unit.specs.Item.{Item as OnTape, content_of, is_mark}
use Rattle.excp_site.specs.Numbers.{as_bit}
use Rattle.excp_c.specs.declared.contents.Item.{Item}
use Rattle.excp_c.specs.declared.contents.Line.{Line}
use Rattle.excp_c.specs.declared.contents.Record.{Record}

-- the byte at a place, or 0 past the end
abbrev pub byte_at : List ℕ → ℕ → ℕ
byte_at bytes place = slice_index_or bytes place 0

-- the halfword at a place
abbrev pub halfword_at : List ℕ → ℕ → ℕ
halfword_at bytes place = byte_at bytes place * 256 + byte_at bytes (place + 1)

-- its identifier is CCHHR; the lengths that a count area can hold are shown as they are
abbrev pub record_in_c : OnTrack → Record
record_in_c r = record {
  cylinder = halfword_at r.id 0;
  head = halfword_at r.id 2;
  number = byte_at r.id 4;
  key_length = min (length r.key) 255;
  data_length = min (length r.content) 65535;
}

abbrev pub item_in_c : OnTape → Item
item_in_c i = record { length = length (content_of i); is_mark = as_bit (is_mark i) }

abbrev pub line_in_c : Printed → Line
line_in_c l = record { page = l.at.page; line = l.at.line; length = length l.bytes }
