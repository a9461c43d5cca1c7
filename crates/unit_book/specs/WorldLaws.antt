-- LAWS OF WORLDS: what holds after every list of steps (profile).
use Rattle.std.specs.Prelude.{◌≡◌, ◌≤◌, ℕ, ◌+◌, ◌==◌, Some, None, List, [], ◌++◌, length, map, slice_get}
use Rattle.std.specs.List.{filter}
use Rattle.device_port.specs.Meaning.{Meaning}
use Rattle.request_piece.specs.declared.piece.Name.{Name}
use Rattle.request_piece.specs.PostedState.{PostedState}
use Rattle.request_piece.specs.declared.piece.Piece.{Piece}
use Rattle.unit_book.specs.declared.entry.Entry.{Entry}
use Rattle.unit_book.specs.Trace.{posts, same, arrivals, waiting, active, has_started}
use Rattle.unit_book.specs.Legal.{Legal, Settled}
use Rattle.unit_book.specs.Posts.{posted}
use Rattle.unit_book.specs.Lists.{Each}
use Rattle.unit_book.specs.Laws.{first_starts, PostsLast, OnePlace, StartsInOrder, NoDoomedStarts, FewStarts}
use Rattle.unit_book.specs.World.{World, IsOpening, IsFinished, Reaches, requests_of, values_of}

-- how many Posts of a name are in the trace
abbrev pub posts_of : Name → List Entry → ℕ
posts_of n H = length (filter (posts n) H)

-- how many of these posted values have a name
abbrev pub values_named : Name → List PostedState → ℕ
values_named n ps = length (filter (λ p. same p.name n) ps)

module _ {D : Type 0} (meaning : Meaning D) where
  -- A LEGAL TRACE HAS AS MANY POSTED VALUES of a name as Posts of it
  abbrev pub HaveValues : Type 0
  HaveValues = (mounted : D) (n : Name) (H : List Entry) → Legal meaning mounted H →
      values_named n (posted meaning mounted H) ≡ posts_of n H

  -- A FINISHED TRACE HAS ONE POST FOR EACH ARRIVAL: one in which nothing waits and nothing is active
  abbrev pub FinishedOnce : Type 0
  FinishedOnce = (mounted : D) (H : List Entry) → Legal meaning mounted H → waiting H ≡ [] → active H ≡ None →
      Each (λ r. posts_of r.name H ≡ 1) (arrivals H)

  -- A WORLD KEEPS ITS REQUESTS
  pub record KeepsRequests (w : World D) : Type 0 where
    -- what arrived of a task, and then what is in flight of it, is what it sent
    pub received : (task : ℕ) → requests_of task (arrivals w.book.trace) ++ requests_of task w.flight ≡ w.sent task
    -- the requests that a task sent have its number, and are numbered from 1 in the order of sending
    pub numbered : (task at : ℕ) (r : Piece) → slice_get (w.sent task) at ≡ Some r → r.name ≡ record { task = task; seq = at + 1 }
    -- each is for this unit
    pub for_unit : (task : ℕ) → Each (λ r. r.unit ≡ w.unit) (w.sent task)
    -- what was posted of a task is what it has got, and then what is on the way back to it, and then what is out
    pub returned : (task : ℕ) → values_of task (posted meaning w.book.mounted w.book.trace) ≡ w.got task ++ w.back task
        ++ values_of task w.book.out
    -- the trace is legal, and nothing is due
    pub legal : Legal meaning w.book.mounted w.book.trace
    pub settled : Settled meaning w.book.mounted w.book.trace
    -- those of its requests that were started had their first Starts in the order of sending
    pub first_started : (task : ℕ) →
        filter (λ n. n.task == task) (first_starts w.book.trace) ≡ map (λ r. r.name)
        (filter (λ r. has_started r.name w.book.trace) (w.sent task))
    -- each has one post at most
    pub posted_once : (n : Name) → posts_of n w.book.trace ≤ 1
    -- in a finished world each request that was sent has one post
    pub finished : IsFinished w → (task : ℕ) → Each (λ r. posts_of r.name w.book.trace ≡ 1) (w.sent task)

-- EVERY LIST OF STEPS from an opening world leads to a world that keeps its requests, and whose trace, being legal, has
-- the laws of legal traces
pub record WorldLaws {D : Type 0} (meaning : Meaning D) : Type 0 where
  pub keeps : (first last : World D) → IsOpening meaning first → Reaches meaning first last → KeepsRequests meaning last
  pub posts_last : PostsLast meaning
  pub one_place : OnePlace meaning
  pub in_order : StartsInOrder meaning
  pub none_doomed : NoDoomedStarts meaning
  pub few_starts : FewStarts meaning
