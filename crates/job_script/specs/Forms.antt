-- THE WORDS OF A LINE: how many there are, and what each says if it is of its form (profile).
use Rattle.std.specs.Prelude.{ℕ, ◌==◌, nat_le, codes, if◌then◌else◌}
use Rattle.std.specs.Prelude.{List, [], length, get_or, Option, Some, None, Result, Ok, Err}
use Rattle.std.specs.Option.{option_map}
use Rattle.std.specs.Str.{bytes_eq}
use Rattle.io_images.specs.Images.{extent_of}
use Rattle.io_images.specs.declared.extent.Extent.{Extent}
use Rattle.unit_book.specs.declared.dcb.ProcessingMethod.{ProcessingMethod}
use Rattle.unit_book.specs.declared.dcb.ProcessingMethod.TheVariants as methods
use Rattle.unit_book.specs.declared.entry.Mode.{Mode}
use Rattle.unit_book.specs.declared.entry.Mode.TheVariants as modes
use Rattle.script_words.specs.Forms.{decimal, decimal_in, each, hex_bytes, hexadecimal, joined, sized_pairs}
use Rattle.job_script.specs.declared.command.DcbName.{DcbName}
use Rattle.job_script.specs.declared.fault.FaultName.{FaultName}
use Rattle.job_script.specs.declared.fault.FaultName.TheVariants as names
use Rattle.job_script.specs.Steps.{◌>>=◌}

-- a word is its bytes
abbrev pub Word : Type 0
Word = List ℕ

-- the word with this number; the first word of a line has the number 0
abbrev pub word : ℕ → List Word → Word
word n ws = get_or ws n []

-- a line has this number of words
abbrev pub has : ℕ → List Word → Result (Unit {0}) FaultName
has n ws = if length ws == n then Ok tt else Err names.Words

-- a line has this number of words, or more
abbrev pub has_least : ℕ → List Word → Result (Unit {0}) FaultName
has_least n ws = if nat_le n (length ws) then Ok tt else Err names.Words

-- what a word says if it is of its form
abbrev pub formed : {X : Type 0} → Option X → Result X FaultName
formed None = Err names.Number
formed (Some x) = Ok x

-- a decimal number of 1 to 10 digits
abbrev pub number : Word → Result ℕ FaultName
number w = formed (decimal w)

-- a decimal number in a range
abbrev pub number_in : ℕ → ℕ → Word → Result ℕ FaultName
number_in least most w = formed (decimal_in least most w)

-- the number of a task or a unit
abbrev pub index : Word → Result ℕ FaultName
index w = number_in 0 63 w

-- the interruption subclass of a unit
abbrev pub subclass : Word → Result ℕ FaultName
subclass w = number_in 0 7 w

-- a number of this many hexadecimal digits
abbrev pub digits : ℕ → Word → Result ℕ FaultName
digits count w = formed (hexadecimal count w)

-- an address
abbrev pub address : Word → Result ℕ FaultName
address w = digits 6 w

-- bytes, or a hyphen for no byte
abbrev pub bytes : Word → Result (List ℕ) FaultName
bytes w = formed (hex_bytes w)

-- the bytes of words, joined
abbrev pub joined_bytes : List Word → Result (List ℕ) FaultName
joined_bytes ws = formed (joined ws)

-- an extent, sixteen bytes
abbrev pub extent : Word → Option Extent
extent w = option_map extent_of (sized_pairs 16 w)

-- an extent from each word
abbrev pub extents : List Word → Result (List Extent) FaultName
extents ws = formed (each extent ws)

-- the number of a unit, and of one of its DCBs
unfoldable pub dcb_name : Word → Word → Result DcbName FaultName
dcb_name u d = do
  unit ← index u
  dcb ← number_in 1 65535 d
  Ok (record { unit = unit; number = dcb })

-- in or out: what a DCB is opened for
unfoldable pub method_of : Word → Result ProcessingMethod FaultName
method_of w =
    if bytes_eq w (codes "in") then Ok methods.Input
    else if bytes_eq w (codes "out") then Ok methods.Output
    else Err names.Number

-- quiesce or halt
unfoldable pub mode_of : Word → Result Mode FaultName
mode_of w =
    if bytes_eq w (codes "quiesce") then Ok modes.Quiesce
    else if bytes_eq w (codes "halt") then Ok modes.Halt
    else Err names.Number
