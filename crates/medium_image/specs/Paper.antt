-- THE PAPER OF A PRINTER AS TEXT in UTF-8 (profile).
use Rattle.std.specs.Prelude.{ℕ, ◌-◌, nat_lt, ◌==◌, Bool, true, false, ◌&&◌, List, [], ◌∷◌, ◌++◌, map}
use Rattle.std.specs.Prelude.{replicate, slice_index, if◌then◌else◌}
use Rattle.std.specs.Str.{encode_utf8_all}
use Rattle.line_printer.specs.declared.paper.PaperPosition.{PaperPosition}
use Rattle.line_printer.specs.Paper.{Line, first_line}
use Rattle.line_printer.specs.Printer.{PrinterState}
use Rattle.medium_image.specs.declared.characters.TheConstants.{GRAPHICS}

-- the character of a byte: that of code page 037, or U+FFFD for a control character
abbrev pub character : ℕ → ℕ
character byte = if nat_lt byte 0x40 then 0xFFFD else slice_index GRAPHICS (byte - 0x40)

-- a byte and those after it, but no blank that is the last
abbrev pub before_rest : ℕ → List ℕ → List ℕ
before_rest byte [] = if byte == 0x40 then [] else byte ∷ []
before_rest byte (next ∷ others) = byte ∷ next ∷ others

-- a line without the blanks that it ends with
unfoldable pub without_blanks : List ℕ → List ℕ
without_blanks [] = []
without_blanks (byte ∷ others) = before_rest byte (without_blanks others)

-- the text of a line
abbrev pub line_text : List ℕ → List ℕ
line_text bytes = encode_utf8_all (map character (without_blanks bytes))

-- the line from which the paper moves down: line 1 after a form feed
abbrev pub line_from : PaperPosition → PaperPosition → ℕ
line_from from to = if nat_lt from.page to.page then 1 else from.line

-- HOW THE PAPER MOVED: a form feed for each page, and then a line feed for each line
abbrev pub feeds : PaperPosition → PaperPosition → List ℕ
feeds from to = replicate (to.page - from.page) 0x0C ++ replicate (to.line - line_from from to) 0x0A

-- two positions are the same
abbrev pub is_same_position : PaperPosition → PaperPosition → Bool
is_same_position from to = (from.page == to.page) && (from.line == to.line)

-- after a printed line a carriage return says that the paper did not move
abbrev pub motion_text : Bool → PaperPosition → PaperPosition → List ℕ
motion_text is_printed from to = if is_printed && is_same_position from to then 0x0D ∷ [] else feeds from to

-- the lines that follow, and how the paper moved before each and after the last
unfoldable pub lines_text : Bool → PaperPosition → List Line → PaperPosition → List ℕ
lines_text is_printed from [] to = motion_text is_printed from to
lines_text is_printed from (line ∷ others) to =
    motion_text is_printed from line.at ++ (line_text line.bytes ++ lines_text true line.at others to)

-- THE TEXT: what was printed from the top of the first page on
abbrev pub paper_text : PrinterState → List ℕ
paper_text printer = lines_text false first_line printer.printed printer.at
