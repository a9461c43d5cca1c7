-- THE FORMS OF WORDS: what a word says, if it is of a form (profile).
use Rattle.std.specs.Prelude.{◌≡◌, ℕ, Bool, List, [], ◌∷◌, ◌++◌, length, Option, Some, None, Result, Ok, Err, ◌==◌, ◌&&◌, nat_le, ◌+◌, ◌*◌}
use Rattle.std.specs.Prelude.{codes, if◌then◌else◌}
use Rattle.std.specs.List.{concat, list_all}
use Rattle.std.specs.Option.{option_map}
use Rattle.std.specs.Char.{is_digit, digit_value}
use Rattle.std.specs.Str.{bytes_eq}
use Rattle.std.specs.Str.Parse.{digits_value}
use Rattle.script_words.specs.declared.forms.FormError.{FormError}
use Rattle.script_words.specs.declared.forms.FormError.TheVariants.{NotOfForm, OutOfMemory}

-- each byte is a digit in this base, of either case
abbrev pub all_digits : ℕ → List ℕ → Bool
all_digits base word = list_all (λ byte. is_digit byte base) word

-- a decimal number of 1 to 10 digits
unfoldable pub decimal : List ℕ → Option ℕ
decimal word = if nat_le 1 (length word) && nat_le (length word) 10 && all_digits 10 word then Some (digits_value 10 word) else None

-- a number from the least to the most, if it is one
abbrev pub in_range : ℕ → ℕ → Option ℕ → Option ℕ
in_range least most None = None
in_range least most (Some n) = if nat_le least n && nat_le n most then Some n else None

-- a decimal number of 1 to 10 digits, from the least to the most
unfoldable pub decimal_in : ℕ → ℕ → List ℕ → Option ℕ
decimal_in least most word = in_range least most (decimal word)

-- a number of `count` hexadecimal digits
unfoldable pub hexadecimal : ℕ → List ℕ → Option ℕ
hexadecimal digits word = if length word == digits && all_digits 16 word then Some (digits_value 16 word) else None

-- bytes of two hexadecimal digits each
unfoldable pub pairs : List ℕ → Option (List ℕ)
pairs [] = Some []
pairs (high ∷ []) = None
pairs (high ∷ low ∷ more) =
    if is_digit high 16 && is_digit low 16
    then option_map (λ bytes. (digit_value high * 16 + digit_value low) ∷ bytes) (pairs more)
    else None

-- bytes as an even number of hexadecimal digits, or a hyphen for no byte
unfoldable pub hex_bytes : List ℕ → Option (List ℕ)
hex_bytes word = if bytes_eq word (codes "-") then Some [] else pairs word

-- `count` bytes of two hexadecimal digits each
unfoldable pub sized_pairs : ℕ → List ℕ → Option (List ℕ)
sized_pairs size word = if length word == 2 * size then pairs word else None

-- one element and the elements after it, if both are there
abbrev pub both : {X : Type 0} → Option X → Option (List X) → Option (List X)
both None others = None
both (Some x) None = None
both (Some x) (Some xs) = Some (x ∷ xs)

-- what each word says, if each is of the form
unfoldable pub each : {X : Type 0} → (List ℕ → Option X) → List (List ℕ) → Option (List X)
each form [] = Some []
each form (word ∷ more) = both (form word) (each form more)

-- the bytes of words, joined
unfoldable pub joined : List (List ℕ) → Option (List ℕ)
joined ws = option_map concat (each hex_bytes ws)

-- elements after others, if they were read
abbrev pub put_after : {X : Type 0} → List X → Option (List X) → Option (List X)
put_after front None = None
put_after front (Some others) = Some (front ++ others)

-- a call that changes a value has left what was to be read, or reports that nothing was, out of memory apart
abbrev pub Leaves : {S : Type 0} → Result (Unit {0}) FormError → S → Option S → Type 0
Leaves (Ok x) new read = read ≡ Some new
Leaves (Err NotOfForm) new read = read ≡ None
Leaves (Err OutOfMemory) new read = Unit {0}

-- a call has returned what was to be read, or reports that nothing was, out of memory apart
abbrev pub ReturnsForm : {X Y : Type 0} → (X → Y) → Result X FormError → Option Y → Type 0
ReturnsForm view (Ok x) read = read ≡ Some (view x)
ReturnsForm view (Err NotOfForm) read = read ≡ None
ReturnsForm view (Err OutOfMemory) read = Unit {0}
