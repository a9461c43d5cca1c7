-- What a call of a channel leaves.
use Rattle.std.proofs.Common.{◌≡◌, ◌∙◌, ◌<◌, ℕ, List, Option, None, Some, Box, Global, ap, get_or, length, map, set, subst, sym}
use Rattle.std.specs.Prelude.{option_map, slice_index_or}
use Rattle.std.proofs.lemmas.List.{get_or-map, length-map, map-set}
use Rattle.any_device.specs.declared.device.AnyDevice.{AnyDevice}
use Rattle.subchannel.specs.Subchannel.{Channel}
use Rattle.excp_site.specs.Channels.{OnChannel, channel_at}
use Rattle.excp_site.specs.Sites.{SiteView}
use Rattle.excp_site.specs.declared.channel.OwnChannel.{OwnChannel}

-- a place for a channel, and what contracts see of it
abbrev pub Held : Type 0
Held = Option (Box OwnChannel Global)

abbrev pub own_of : Held → Option OwnChannel
own_of held = option_map (λ c. c.value) held

-- THE CHANNEL at a place, of a site whose fields say `now`
pub channel-is : (now s : SiteView) (xs : List Held) (number : ℕ) (own : Box OwnChannel Global) (place : Held) → now ≡ s →
    now.channels ≡ map own_of xs → number < length s.channels → place ≡ get_or xs number place → place ≡ Some own →
    channel_at s number ≡ Some own.value
channel-is now s xs number own place same held within found is =
    let inside : number < length xs =
    subst (λ n. number < n) (ap (λ (v : SiteView). length v.channels) (sym same) ∙ ap length held ∙ length-map xs own_of) within in
    ap (λ (v : SiteView). channel_at v number) (sym same) ∙ ap (λ l. slice_index_or l number None) held
    ∙ get_or-map own_of xs number place None inside ∙ sym (ap own_of found) ∙ ap own_of is

-- ITS SUBCHANNEL DIFFERS: `lent` is the channel as it was lent
pub on-channel : (now s : SiteView) (xs : List Held) (number : ℕ) (own : Box OwnChannel Global) (place : Held) (lent : OwnChannel)
    (after : Channel AnyDevice) (Does : Channel AnyDevice → Channel AnyDevice → Type 0) → now ≡ s → now.channels ≡ map own_of xs →
    number < length s.channels → place ≡ get_or xs number place → place ≡ Some own → lent ≡ own.value → Does lent.subchannel after →
    OnChannel s number Does
    (record now { channels = map own_of (set xs number (Some (record own { value = record lent { subchannel = after } }))) })
on-channel now s xs number own place lent after Does same held within found is lends does =
    let new : List (Option OwnChannel) = map own_of (set xs number (Some (record own { value = record lent { subchannel = after } }))) in
    record {
      before = lent;
      after = after;
      at = channel-is now s xs number own place same held within found is ∙ ap Some (sym lends);
      does = does;
      is = ap (λ (v : SiteView). record v { channels = new }) same
          ∙ ap (λ (l : List (Option OwnChannel)). record s { channels = l })
          (map-set own_of xs number _ ∙ ap (λ l. set l number (Some (record lent { subchannel = after })))
          (sym held ∙ ap (λ (v : SiteView). v.channels) same));
    }
