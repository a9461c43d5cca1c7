-- A chain in the words of the channel: each CCW is in storage at the address to which the one before leads.
use Rattle.std.specs.Prelude.{◌≡◌, ℕ, ◌+◌, ◌%◌, ◌==◌, not, Bool, true, false, List, [], ◌∷◌, ◌⊎◌}
use Rattle.io_area.specs.Storage.{Storage, lies_in, bytes_at}
use Rattle.io_images.specs.Images.{ccw_of}
use Rattle.io_images.specs.declared.ccw.Ccw.{Ccw}
use Rattle.ccw_programs.specs.declared.fetch.Link.{Link}
use Rattle.ccw_programs.specs.Links.{chains_data, is_transfer, chain, Whole}

-- the CCW at an address
abbrev pub ccw_at : Storage → ℕ → Ccw
ccw_at m at = ccw_of (bytes_at m at 8)

-- an address leads to the CCW at it; or, if a transfer is at it and may be, to the CCW that the transfer names
abbrev pub LeadsTo : Storage → Bool → ℕ → ℕ → Type 0
LeadsTo m may from at = (at ≡ from) ⊎ ((may ≡ true) × (is_transfer (ccw_at m from) ≡ true) × (at ≡ (ccw_at m from).address))

-- a CCW of a chain is the one at its address, a multiple of 8, and is no transfer
pub record Stands (m : Storage) (l : Link) : Type 0 where
  pub lies : lies_in m l.at 8 ≡ true
  pub aligned : (l.at % 8 == 0) ≡ true
  pub is : l.ccw ≡ ccw_at m l.at
  pub no_transfer : is_transfer l.ccw ≡ false

-- from an address the list is a chain: each but the last has CD on, and leads to the next
abbrev pub IsChain : Storage → Bool → ℕ → List Link → Type 0
IsChain m may from [] = ⊥
IsChain m may from (l ∷ []) = LeadsTo m may from l.at × Stands m l × (chains_data l.ccw ≡ false)
IsChain m may from (l ∷ k ∷ ls) = LeadsTo m may from l.at × Stands m l × (chains_data l.ccw ≡ true) × IsChain m true (l.at + 8) (k ∷ ls)

-- EVERY CHAIN that is fetched is one
abbrev pub ChainsAreWalks : Type 0
ChainsAreWalks = (m : Storage) (at fetches : ℕ) (links : List Link) (after : ℕ) → chain m at fetches ≡ Whole links after →
    IsChain m (not (fetches == 0)) at links
