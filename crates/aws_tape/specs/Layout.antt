-- The chunks of blocks that have several: the index of its block for each, and its length, in the order of the image.
use Rattle.std.specs.Prelude.{ℕ, ◌==◌, nat_lt, List, sum_by}
use Rattle.std.specs.List.{prefix_len}
use Rattle.aws_tape.specs.declared.layout.Part.{Part}

-- how many are of the items before an index, if they are in order
abbrev pub count_before : ℕ → List Part → ℕ
count_before place parts = prefix_len (λ p. nat_lt p.item place) parts

-- how many are of the item at an index, if they begin with those
abbrev pub own_count : ℕ → List Part → ℕ
own_count place parts = prefix_len (λ p. p.item == place) parts

-- how many bytes of data they have together
abbrev pub bytes_in : List Part → ℕ
bytes_in parts = sum_by (λ p. p.len) parts
