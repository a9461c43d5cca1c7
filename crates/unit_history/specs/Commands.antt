-- THE COMMANDS of a unit's programs, replayed (profile).
use Rattle.std.specs.Prelude.{◌≡◌, ◌≢◌, ℕ, false, if◌then◌else◌, Some, reverse, slice_get}
use Rattle.device_port.specs.Meaning.{Meaning}
use Rattle.unit_history.specs.Replayed.{IsBetweenPrograms, IsFirstStart, ListsNext, ReplayPlace, ShowsArea, ShowsContext, next_place, so_far}
use Rattle.unit_book.specs.Book.{Book}
use Rattle.unit_history.specs.declared.command.ExecutedCommand.{ExecutedCommand as Described}
use Rattle.unit_history.specs.declared.commands.Commands.{Commands}
use Rattle.unit_history.specs.declared.commands.Next.{Next}
use Rattle.unit_history.specs.declared.commands.Replayed.{Replayed}
use Rattle.unit_history.specs.declared.commands.Next.TheVariants.{Command, Idle, LeftOut}

-- a replayed command is what the program was to do next at a position of the replay
abbrev pub IsListedAt : {D : Type 0} → Meaning D → ReplayPlace D → Replayed → Type 0
IsListedAt meaning place r = ListsNext meaning place r.listing.links.now r.listing.flow r.listing.parts.now r.listing.refusal

-- WHAT COMES NEXT of a replay at a position, where this many commands more are described
abbrev pub GivesNext : {D : Type 0} → Meaning D → ReplayPlace D → ℕ → Next → Type 0
GivesNext meaning place left (Command replayed) = (left ≢ 0) × IsListedAt meaning place replayed
GivesNext meaning place left Idle = (left ≢ 0) × IsBetweenPrograms meaning place
GivesNext meaning place left LeftOut = left ≡ 0

-- the position of the replay after that: only a command goes on
abbrev pub place_behind : {D : Type 0} → Next → ReplayPlace D → ReplayPlace D
place_behind (Command replayed) place = next_place place
place_behind Idle place = place
place_behind LeftOut place = place

-- WHAT IS DESCRIBED of a replayed command: its listing and its fault, and where the program and its storage are at the position
-- after it
pub record Describes {D : Type 0} (meaning : Meaning D) (place : ReplayPlace D) (replayed : Replayed) (command : Described) : Type 0 where
  pub listed : command.listing ≡ replayed.listing
  pub fault : command.fault ≡ replayed.fault
  pub context : ShowsContext meaning place (Some command.context.now)
  pub area : ShowsArea meaning place (Some command.area.now)

-- the next entry is the first start of a request. A replay takes memory for this alone.
abbrev pub StartsNext : {D : Type 0} → ReplayPlace D → Type 0
StartsNext place = IsFirstStart (so_far place) (slice_get (reverse place.book.trace) place.done)

-- nothing of a book is replayed yet, and this many commands are described
pub record IsUnreplayed {D : Type 0} (book : Book D) (most : ℕ) (commands : Commands D) : Type 0 where
  pub replay : commands.replay ≡ record { book = book; done = 0; ran = 0 }
  pub left : commands.left ≡ most
  pub cut : commands.is_cut ≡ false

-- AN ENTRY IS PASSED: the replay goes on after it, unless a command was left out
abbrev pub PassesEntry : {D : Type 0} → Commands D → Commands D → Type 0
PassesEntry old new = new.replay ≡ (if old.is_cut then old.replay else next_place old.replay)
