-- WHAT A FILE MASK KEEPS of a device, command by command, it keeps over a program.
use Rattle.std.proofs.Common.{◌≡◌, ◌≢◌, ℕ, zero, suc, List, true, refl, ◌∙◌}
use Rattle.io_images.specs.FileMask.{inhibits_seeks, inhibits_writes}
use Rattle.device_port.specs.Meaning.{Meaning}
use Rattle.device_port.specs.Moves.{offered}
use Rattle.ckd_disk.specs.Disk.{track_of}
use Rattle.ccw_programs.specs.declared.context.State.{State}
use Rattle.ccw_programs.specs.declared.context.State.TheVariants.{Running, Ended}
use Rattle.ccw_programs.specs.declared.fetch.Link.{Link}
use Rattle.ccw_programs.specs.Links.{Fetched, Whole, Broken, chain}
use Rattle.ccw_programs.specs.Areas.{Areas, Parts, Bad, areas}
use Rattle.ccw_programs.specs.Step.{Program, step, step_from, step_on_chain, step_on_areas, after, first_of}
use Rattle.disk_laws.specs.Views.{View}

module _ {D : Type 0} (view : View D) (mask : D → ℕ) where
  -- the mask stays. If it inhibits seeks, the heads stay on their track, and so do the records of the others. If it inhibits
  -- writes, the records of all stay
  pub record Shields (before after : D) : Type 0 where
    pub mask_is : mask after ≡ mask before
    pub stays : inhibits_seeks (mask before) ≡ true → view.position after ≡ view.position before
    pub others : inhibits_seeks (mask before) ≡ true → (number : ℕ) → number ≢ view.position before →
        track_of (view.tracks after) number ≡ track_of (view.tracks before) number
    pub medium : inhibits_writes (mask before) ≡ true → view.tracks after ≡ view.tracks before

  shields-same : (d : D) → Shields d d
  shields-same d = record { mask_is = refl; stays = λ s. refl; others = λ s number apart. refl; medium = λ w. refl }

  shields-then : {a b c : D} → Shields a b → Shields b c → Shields a c
  shields-then {a} {b} {c} f g = record {
    mask_is = g.mask_is ∙ f.mask_is;
    stays = λ s. g.stays (rw f.mask_is s) ∙ f.stays s;
    others = λ s number apart. g.others (rw f.mask_is s) number (rw (f.stays s) apart) ∙ f.others s number apart;
    medium = λ w. g.medium (rw f.mask_is w) ∙ f.medium w;
  }

  module _ (meaning : Meaning D) (acts : (d : D) (command : ℕ) (bytes : List ℕ) → Shields d (meaning.act d command bytes).device) where
    on-areas : (p : Program D) (links : List Link) (n : ℕ) (a : Areas) → Shields p.device (step_on_areas meaning p links n a).device
    on-areas p links n (Bad refusal) = shields-same p.device
    on-areas p links n (Parts parts) =
        acts p.device (first_of links).ccw.command (offered (meaning.flow p.device (first_of links).ccw.command) p.area parts)

    on-chain : (p : Program D) (c : Fetched) → Shields p.device (step_on_chain meaning p c).device
    on-chain p (Broken before refusal) = shields-same p.device
    on-chain p (Whole links n) = on-areas p links n (areas (meaning.flow p.device (first_of links).ccw.command) p.area links)

    on-state : (p : Program D) (s : State) → Shields p.device (step_from meaning p s).device
    on-state p Running = on-chain p (chain p.area p.place.next p.place.fetched)
    on-state p (Ended csw sense) = shields-same p.device

    pub after-shields : (k : ℕ) (p : Program D) → Shields p.device (after meaning k p).device
    unfolding after step
    after-shields zero p = shields-same p.device
    after-shields (suc k) p = shields-then (after-shields k p) (on-state (after meaning k p) (after meaning k p).place.state)
