-- WHAT A CLIENT COUNTS: the requests that its task sent, and the posted values that it collected, as far as 64 bits go
-- (profile).
use Rattle.std.specs.Prelude.{◌≡◌, ◌-◌, ◌^◌, ℕ, length, min}
use Rattle.excp_system.specs.States.{TaskState, sent_count}

-- the counts of a client are those of its task
pub record HasCounted (t : TaskState) (issued collected : ℕ) : Type 0 where
  pub issued_is : issued ≡ sent_count t
  pub collected_is : collected ≡ min (length t.got) (2 ^ 64 - 1)
