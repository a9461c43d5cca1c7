-- WHAT A PROGRAM IS TO DO NEXT: the chain of its next command, how its data flow, and the parts of its data area. Or,
-- of a chain with a CCW that fails, the CCWs before that one, and the rule that it breaks (Principles of Operation,
-- chapter 15).
use Rattle.std.specs.Prelude.{◌≡◌, ℕ, List, [], Option, Some, None}
use Rattle.io_area.specs.Storage.{Storage}
use Rattle.device_port.specs.Meaning.{Meaning}
use Rattle.device_port.specs.declared.chain.Segment.{Segment}
use Rattle.device_port.specs.declared.kind.Flow.{Flow}
use Rattle.ccw_programs.specs.declared.fetch.Link.{Link}
use Rattle.ccw_programs.specs.declared.rule.FailedCcw.{FailedCcw}
use Rattle.ccw_programs.specs.Areas.{Parts, Bad, areas}
use Rattle.ccw_programs.specs.Links.{chain, Whole, Broken}
use Rattle.ccw_programs.specs.Place.{Place}
use Rattle.ccw_programs.specs.Step.{first_of}

module _ {D : Type 0} (meaning : Meaning D) (device : D) (m : Storage) (place : Place) where
  -- the CCWs are the chain, and this is how its data flow
  pub record Fetches (links : List Link) (flow : Flow) : Type 0 where
    pub fetches : ℕ
    pub chain_is : chain m place.next place.fetched ≡ Whole links fetches
    pub flow_is : flow ≡ meaning.flow device (first_of links).ccw.command

  -- WHAT IS LISTED: CCWs, a flow where all of them can be fetched, parts, and the CCW that fails
  abbrev pub Lists : List Link → Option Flow → List Segment → Option FailedCcw → Type 0
  Lists links (Some flow) parts None = Fetches links flow × (areas flow m links ≡ Parts parts)
  Lists links (Some flow) parts (Some refusal) = Fetches links flow × (areas flow m links ≡ Bad refusal) × (parts ≡ [])
  Lists links None parts (Some refusal) = (chain m place.next place.fetched ≡ Broken links refusal) × (parts ≡ [])
  Lists links None parts None = ⊥
