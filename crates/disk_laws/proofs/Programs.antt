-- What no channel program does to a disk, and to the device of a unit.
use Rattle.std.proofs.Common.{◌≡◌, ◌≢◌, ℕ, List, true, refl, ap, ◌∙◌}
use Rattle.io_area.specs.Storage.{Storage}
use Rattle.io_images.specs.declared.seek.Seek.{Seek}
use Rattle.io_images.specs.FileMask.{inhibits_seeks, input_mask}
use Rattle.device_port.specs.Meaning.{Meaning}
use Rattle.device_port.specs.declared.kind.Kind.TheVariants.{Disk as DiskKind}
use Rattle.ckd_disk.specs.Disk.{disk, track_of}
use Rattle.any_device.specs.declared.device.AnyDevice.{AnyDevice}
use Rattle.any_device.specs.declared.device.AnyDevice.TheVariants.{Disk, Tape, Printer}
use Rattle.any_device.specs.Devices.{any_device}
use Rattle.ccw_programs.specs.Step.{begun}
use Rattle.unit_book.specs.declared.dcb.ProcessingMethod.{ProcessingMethod}
use Rattle.unit_book.specs.declared.dcb.ProcessingMethod.TheVariants.{Input, Output}
use Rattle.unit_book.specs.Dcbs.{mask_for}
use Rattle.disk_laws.specs.Views.{View, disk_view, unit_view}
use Rattle.disk_laws.specs.Laws.{seek_track, device_left, ConfinesPrograms}
use Rattle.disk_laws.proofs.Steps.{Shields, after-shields}
use Rattle.disk_laws.proofs.Commands.{kept-act}

-- the mask of each DCB inhibits seeks
pub mask-inhibits_seeks : (method : ProcessingMethod) → inhibits_seeks (mask_for method) ≡ true
mask-inhibits_seeks Input = refl
mask-inhibits_seeks Output = refl

module _ {D : Type 0} (meaning : Meaning D) (view : View D) (mask : D → ℕ) where
  -- the prefix moves a disk to the track of the seek address and sets its mask; what is no disk counts as one whose mask is
  -- always that for input
  pub data Prefixed (d : D) (seek : Seek) (set : ℕ) : Type 0 where
    OnDisk : view.position (meaning.prefix d seek set) ≡ seek_track meaning d seek →
        mask (meaning.prefix d seek set) ≡ set → Prefixed d seek set
    OffDisk : meaning.kind d ≢ DiskKind → mask (meaning.prefix d seek set) ≡ input_mask → Prefixed d seek set

  module _ (acts : (d : D) (command : ℕ) (bytes : List ℕ) → Shields view mask d (meaning.act d command bytes).device)
      (tracks : (d : D) (seek : Seek) (set : ℕ) → view.tracks (meaning.prefix d seek set) ≡ view.tracks d)
      (prefixed : (d : D) (seek : Seek) (set : ℕ) → Prefixed d seek set) where
    module _ (method : ProcessingMethod) (d : D) (seek : Seek) (start : ℕ) (area : Storage) (commands : ℕ) where
      abbrev first : D
      first = meaning.prefix d seek (mask_for method)

      shielded : Shields view mask first (device_left meaning method d seek start area commands)
      shielded = after-shields view mask meaning acts commands (begun start first area)

      kept-position : meaning.kind d ≡ DiskKind →
          view.position (device_left meaning method d seek start area commands) ≡ seek_track meaning d seek
      kept-position k =
          elim (prefixed d seek (mask_for method)) [
            | OnDisk place set ↦ shielded.stays (rw set (mask-inhibits_seeks method)) ∙ place
            | OffDisk off set ↦ absurd (off k)
          ]

      kept-others : (number : ℕ) → number ≢ seek_track meaning d seek →
          track_of (view.tracks (device_left meaning method d seek start area commands)) number ≡ track_of (view.tracks d) number
      kept-others number apart =
          elim (prefixed d seek (mask_for method)) [
            | OnDisk place set ↦
                shielded.others (rw set (mask-inhibits_seeks method)) number (rw place apart)
                ∙ ap (λ t. track_of t number) (tracks d seek (mask_for method))
            | OffDisk off set ↦ ap (λ t. track_of t number) (shielded.medium (rw set refl) ∙ tracks d seek (mask_for method))
          ]

    kept-medium : (d : D) (seek : Seek) (start : ℕ) (area : Storage) (commands : ℕ) →
        view.tracks (device_left meaning Input d seek start area commands) ≡ view.tracks d
    kept-medium d seek start area commands =
        let s = shielded Input d seek start area commands in
        elim (prefixed d seek input_mask) [
          | OnDisk place set ↦ s.medium (rw set refl) ∙ tracks d seek input_mask
          | OffDisk off set ↦ s.medium (rw set refl) ∙ tracks d seek input_mask
        ]

    pub confined : ConfinesPrograms meaning view
    confined = record { stays = kept-position; others = kept-others; input = kept-medium }

-- A DISK
pub disk-confined : ConfinesPrograms disk disk_view
disk-confined = confined disk disk_view (λ d. d.access.mask) kept-act (λ d seek set. refl) (λ d seek set. OnDisk refl refl)

-- THE DEVICE OF A UNIT
abbrev unit_mask : AnyDevice → ℕ
unit_mask (Disk d) = d.access.mask
unit_mask (Tape t) = input_mask
unit_mask (Printer p) = input_mask

unit-acts : (d : AnyDevice) (code : ℕ) (given : List ℕ) → Shields unit_view unit_mask d (any_device.act d code given).device
unit-acts (Disk d) code given =
    let k = kept-act d code given in record { mask_is = k.mask_is; stays = k.stays; others = k.others; medium = k.medium }
unit-acts (Tape t) code given = record { mask_is = refl; stays = λ s. refl; others = λ s number apart. refl; medium = λ w. refl }
unit-acts (Printer p) code given = record { mask_is = refl; stays = λ s. refl; others = λ s number apart. refl; medium = λ w. refl }

pub prefix-tracks : (d : AnyDevice) (seek : Seek) (set : ℕ) → unit_view.tracks (any_device.prefix d seek set) ≡ unit_view.tracks d
prefix-tracks (Disk d) seek set = refl
prefix-tracks (Tape t) seek set = refl
prefix-tracks (Printer p) seek set = refl

unit-prefixed : (d : AnyDevice) (seek : Seek) (set : ℕ) → Prefixed any_device unit_view unit_mask d seek set
unit-prefixed (Disk d) seek set = OnDisk refl refl
unit-prefixed (Tape t) seek set = OffDisk (λ e. absurd cc) refl
unit-prefixed (Printer p) seek set = OffDisk (λ e. absurd cc) refl

pub unit-confined : ConfinesPrograms any_device unit_view
unit-confined = confined any_device unit_view unit_mask unit-acts prefix-tracks unit-prefixed
