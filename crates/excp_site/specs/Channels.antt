-- CHANNELS ALONE (profile): each is a subchannel with a device of its own. What the subchannel answers, and what it is then, is that of
-- crate subchannel.
use Rattle.std.specs.Prelude.{◌≡◌, ◌≤◌, ◌<◌, ◌⊎◌, ◌^◌, ℕ, None, Option, Some, List, [], ◌∷◌, ◌++◌, length, option_map, slice_index_or, slice_set}
use Rattle.io_area.specs.AreaFault.{AreaFault}
use Rattle.io_area.specs.Storage.{Storage}
use Rattle.io_area.specs.declared.error.AreaError.TheVariants as areas
use Rattle.io_images.specs.declared.csw.Csw.{Csw}
use Rattle.io_images.specs.declared.seek.Seek.{Seek}
use Rattle.any_device.specs.Devices.{any_device}
use Rattle.any_device.specs.declared.device.AnyDevice.{AnyDevice}
use Rattle.ccw_programs.specs.declared.context.Burst.{Burst}
use Rattle.subchannel.specs.Subchannel.{Channel, Idle, RunsAs, TakesSeek, after_ssch, halted_phase, hsch_code, is_pending, running_program, ssch_code, status_of, stored_pair, tested_phase, tsch_code}
use Rattle.unit_world.specs.Sites.{SiteState, OnPart}
use Rattle.excp_site.specs.Imaging.{HasNoModel, IsImageOf}
use Rattle.excp_site.specs.Looks.{device_now}
use Rattle.excp_site.specs.Numbers.{as_bit}
use Rattle.excp_site.specs.Sites.{SiteView, beside_of}
use Rattle.excp_site.specs.declared.channel.ChannelRan.{ChannelRan}
use Rattle.excp_site.specs.declared.channel.ChannelStatus.{ChannelStatus}
use Rattle.excp_site.specs.declared.channel.OwnChannel.{OwnChannel}
use Rattle.excp_site.specs.declared.refusal.Refusal.{Refusal}
use Rattle.excp_site.specs.declared.refusal.Refusal.TheVariants.{NoMemory, BadNumber, NoImage, NoUnit, NothingThere, AreaMisaligned, AreaTooLong, AreaPastTop}

-- the channel with a number, if it was not freed
abbrev pub channel_at : SiteView → ℕ → Option OwnChannel
channel_at s number = slice_index_or s.channels number None

-- A CHANNEL IS ADDED: the next, idle, with the device of a unit as it is
pub record AddsChannel (old : SiteView) (unit number : ℕ) (new : SiteView) : Type 0 where
  pub there : unit < length old.plain.units
  pub number_is : number ≡ length old.channels
  pub channel : OnPart old.plain unit (λ p. new.channels ≡ old.channels
      ++ Some (record { unit = unit; subchannel = record { isc = 0; device = Some (device_now p.book); phase = Idle } }) ∷ [])
  pub rest : new ≡ record old { channels = new.channels }

-- A CALL OF A CHANNEL: what it does to the subchannel; nothing else differs
pub record OnChannel (old : SiteView) (number : ℕ) (Does : Channel AnyDevice → Channel AnyDevice → Type 0) (new : SiteView) : Type 0 where
  pub before : OwnChannel
  pub after : Channel AnyDevice
  pub at : channel_at old number ≡ Some before
  pub does : Does before.subchannel after
  pub is : new ≡ record old { channels = slice_set old.channels number (Some (record before { subchannel = after })) }

-- the seek to a track
abbrev pub seek_to : ℕ → ℕ → Seek
seek_to cylinder head = record { extent = 0; bin = 0; cylinder = cylinder; head = head; «record» = 0 }

-- storage of a caller, which lies at a base
abbrev pub storage_at : ℕ → List ℕ → Storage
storage_at base bytes = record { base = base; bytes = bytes }

-- START SUBCHANNEL, with the condition code that it gives
abbrev pub StartsChannel : ℕ → Seek → ℕ → ℕ → Channel AnyDevice → Channel AnyDevice → Type 0
StartsChannel start seek mask code old new = (code ≡ ssch_code old.phase) × (new ≡ after_ssch any_device old start seek mask old.phase)

-- what is written out of a stored status: with nothing stored, all is 0 but the condition code
abbrev pub stored_in_c : ℕ → Option (Csw × ℕ) → ChannelStatus
stored_in_c code None = record { address = 0; residual = 0; sense = 0; code = code; unit_status = 0; channel_status = 0 }
stored_in_c code (Some stored) = record {
  address = stored.0.address;
  residual = stored.0.residual;
  sense = stored.1;
  code = code;
  unit_status = stored.0.unit.0;
  channel_status = stored.0.sub.0;
}

-- TEST SUBCHANNEL, with the condition code and what it stores
abbrev pub TestsChannel : ChannelStatus → Channel AnyDevice → Channel AnyDevice → Type 0
TestsChannel status old new =
    (status ≡ stored_in_c (tsch_code old.phase) (option_map stored_pair (status_of old.phase))) × (new ≡ record old { phase = tested_phase old.phase })

-- HALT SUBCHANNEL, with the condition code
abbrev pub HaltsChannel : ℕ → Channel AnyDevice → Channel AnyDevice → Type 0
HaltsChannel code old new = (code ≡ hsch_code old.phase) × (new ≡ record old { phase = halted_phase old.phase })

-- how many commands a burst did
abbrev pub commands_of : Option Burst → ℕ
commands_of None = 0
commands_of (Some burst) = burst.commands

-- A RUN of at most `max` commands, on storage that was `m` and is `n`
pub record RunsChannel (max : ℕ) (ran : ChannelRan) (m n : Storage) (old new : Channel AnyDevice) : Type 0 where
  pub burst : Option Burst
  pub runs : RunsAs any_device old m max (running_program old.device old.phase m) burst new n
  pub commands : ran.commands ≡ commands_of burst
  pub pending : ran.pending ≡ as_bit (is_pending new.phase)

-- a channel with this number, of which this holds
abbrev pub HasChannel : SiteView → ℕ → (OwnChannel → Type 0) → Type 0
HasChannel s number P = (own : OwnChannel) × (channel_at s number ≡ Some own) × P own

-- the device of a channel, of which this holds
abbrev pub OnDevice : Option AnyDevice → (AnyDevice → Type 0) → Type 0
OnDevice None P = ⊥
OnDevice (Some device) P = P device

-- THE MEDIUM OF A CHANNEL IS MADE as an image, as that of its unit would be if its device were this one
pub record MakesChannelImage (old : SiteView) (number : ℕ) (new : SiteView) : Type 0 where
  pub image : HasChannel old number (λ own. OnDevice own.subchannel.device
      (λ device. OnPart old.plain own.unit (λ p. IsImageOf (beside_of old own.unit) p.book.mounted device new.made)))
  pub rest : new ≡ record old { made = new.made }

-- A CHANNEL IS NOT ADDED: there is no unit whose device it could have, or memory ran out
abbrev pub AddChannelRefused : SiteState AnyDevice → ℕ → Refusal → Type 0
AddChannelRefused s unit NoUnit = length s.units ≤ unit
AddChannelRefused s unit NoMemory = unit < length s.units
AddChannelRefused s unit _ = ⊥

-- there is no such channel
abbrev pub ChannelRefused : SiteView → ℕ → Refusal → Type 0
ChannelRefused s number NothingThere = channel_at s number ≡ None
ChannelRefused s number _ = ⊥

-- or its disk has no such track, or the address has more than 24 bits
abbrev pub ChannelStartRefused : SiteView → ℕ → ℕ → ℕ → ℕ → Refusal → Type 0
ChannelStartRefused s number start cylinder head BadNumber =
    HasChannel s number (λ own. (2 ^ 24 ≤ start) ⊎ (TakesSeek any_device own.subchannel.device (seek_to cylinder head) → ⊥))
ChannelStartRefused s number start cylinder head e = ChannelRefused s number e

-- A RUN: or the number of commands is 0, or the storage is none
abbrev pub ChannelRunRefused : SiteView → ℕ → ℕ → ℕ → ℕ → Refusal → Type 0
ChannelRunRefused s number max base len BadNumber = max ≡ 0
ChannelRunRefused s number max base len AreaMisaligned = AreaFault base len areas.Misaligned
ChannelRunRefused s number max base len AreaTooLong = AreaFault base len areas.TooLong
ChannelRunRefused s number max base len AreaPastTop = AreaFault base len areas.PastTop
ChannelRunRefused s number max base len NoMemory = 1 ≤ max
ChannelRunRefused s number max base len e = ChannelRefused s number e

-- AN IMAGE: its medium has none. That a channel is without a unit or a device never happens.
abbrev pub ChannelImageRefused : SiteView → ℕ → Refusal → Type 0
ChannelImageRefused s number NothingThere = (own : OwnChannel) → channel_at s number ≡ Some own → own.subchannel.device ≡ None
ChannelImageRefused s number NoUnit = HasChannel s number (λ own. length s.plain.units ≤ own.unit)
ChannelImageRefused s number NoImage = HasChannel s number (λ own. OnDevice own.subchannel.device (HasNoModel (beside_of s own.unit)))
ChannelImageRefused s number NoMemory = HasChannel s number (λ own. own.unit < length s.plain.units)
ChannelImageRefused s number _ = ⊥
