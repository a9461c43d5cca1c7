-- BUFFERS of the caller.
use Rattle.std.specs.Prelude.{ℕ, List, ◌++◌, drop, length}

-- a buffer with bytes copied to its front
abbrev pub copied : List ℕ → List ℕ → List ℕ
copied bytes buffer = bytes ++ drop (length bytes) buffer
