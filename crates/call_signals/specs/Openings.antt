-- The handling of a received NEW, by the rules of its peer ("Call Setup").
use Rattle.std.specs.Prelude.{◌≡◌, ◌≤◌, ◌⊎◌, ℕ, Bool, true, false, ◌&&◌, ◌||◌, ◌==◌, is_some, List, Option, None, Some, unwrap_or}
use Rattle.std.specs.Prelude.{bit_and, if◌then◌else◌}
use Rattle.iax_frames.specs.FullFrame.{FullFrame}
use Rattle.info_elements.specs.Element.{u32_in}
use Rattle.info_elements.specs.Numbers.{CAPABILITY, FORMAT}
use Rattle.call_signals.specs.Effects.{row, rejected}
use Rattle.call_signals.specs.Format.{format_bit, has_format, lowest_format, format_alone}
use Rattle.call_signals.specs.FrameElements.{element_in}
use Rattle.call_signals.specs.NewElements.{NewElements, new_elements}
use Rattle.call_signals.specs.declared.cause.Cause.TheVariants.{CallRejected}
use Rattle.call_signals.specs.declared.effects.Answering.TheVariants.{Answered, Silent}
use Rattle.call_signals.specs.declared.effects.Effect.{Effect}
use Rattle.call_signals.specs.declared.format.Format.{Format}
use Rattle.call_signals.specs.declared.format.Format.TheVariants.{Gsm, Ulaw, Alaw}
use Rattle.call_signals.specs.declared.format.Formats.{Formats}
use Rattle.call_signals.specs.declared.openings.Opening.{Opening}
use Rattle.call_signals.specs.declared.openings.Opening.TheVariants.{Refused, Challenges, Offers}
use Rattle.call_signals.specs.declared.reply.ReplyFrame.TheVariants.{AuthReq}
use Rattle.call_signals.specs.declared.rules.PeerRules.{PeerRules}
use Rattle.call_signals.specs.declared.signal.Signal.TheVariants as signals
use Rattle.call_signals.specs.declared.stage.Stage.TheVariants as stages

-- ---- the format of a call

-- the bits of an element; none if it is absent
abbrev pub bits_in : FullFrame → ℕ → ℕ
bits_in frame number = unwrap_or (u32_in (element_in frame number)) 0

abbrev pub has_bit : ℕ → Format → Bool
has_bit bits format = bit_and bits (format_bit format) == format_bit format

-- a format of the peer that is in FORMAT or CAPABILITY
abbrev pub is_common : ℕ → ℕ → Bool → Format → Bool
is_common wanted capable of_peer format = of_peer && (has_bit wanted format || has_bit capable format)

abbrev pub common_formats : Formats → ℕ → ℕ → Formats
common_formats formats wanted capable = record {
  gsm = is_common wanted capable formats.gsm Gsm;
  ulaw = is_common wanted capable formats.ulaw Ulaw;
  alaw = is_common wanted capable formats.alaw Alaw;
}

-- FORMAT if it is exactly one common bit, otherwise the lowest common bit
abbrev pub chosen_format : Formats → ℕ → Option Format
chosen_format common wanted =
    if common.gsm && (wanted == format_bit Gsm) then Some Gsm
    else if common.ulaw && (wanted == format_bit Ulaw) then Some Ulaw
    else if common.alaw && (wanted == format_bit Alaw) then Some Alaw
    else lowest_format common

-- by the elements of a NEW
abbrev pub format_by : Formats → NewElements → Option Format
format_by formats elements =
    let wanted = unwrap_or elements.format 0 in
    chosen_format (common_formats formats wanted (unwrap_or elements.capability 0)) wanted

-- the formats that the call may have: all common ones if it is routed by them, otherwise the chosen one
abbrev pub offered_formats : PeerRules → NewElements → Format → Formats
offered_formats rules elements format =
    if rules.routes_format
    then common_formats rules.formats (unwrap_or elements.format 0) (unwrap_or elements.capability 0)
    else format_alone format

abbrev pub call_format : Formats → FullFrame → Option Format
call_format formats frame = format_by formats (new_elements frame.payload)

-- the peer has the format, and the NEW has its bit in FORMAT or CAPABILITY
abbrev pub IsCommon : Formats → FullFrame → Format → Type 0
IsCommon formats frame format =
    (has_format formats format ≡ true)
    × ((has_bit (bits_in frame FORMAT) format ≡ true) ⊎ (has_bit (bits_in frame CAPABILITY) format ≡ true))

-- the common format of the lowest bit
abbrev pub IsLowestCommon : Formats → FullFrame → Format → Type 0
IsLowestCommon formats frame format =
    IsCommon formats frame format × ((other : Format) → IsCommon formats frame other → format_bit format ≤ format_bit other)

-- FORMAT is the bit of this common format, and no other
abbrev pub IsWanted : Formats → FullFrame → Format → Type 0
IsWanted formats frame format = IsCommon formats frame format × (bits_in frame FORMAT ≡ format_bit format)

-- ---- the rows of a NEW

abbrev pub is_version_2 : Option ℕ → Bool
is_version_2 (Some version) = version == 2
is_version_2 None = false

-- by the elements of a NEW
abbrev pub opening_by : PeerRules → NewElements → Opening
opening_by rules elements =
    if is_version_2 elements.version && is_some (format_by rules.formats elements)
    then (if is_some rules.secret then Challenges else Offers)
    else Refused

abbrev pub opening_of : PeerRules → FullFrame → Opening
opening_of rules frame = opening_by rules (new_elements frame.payload)

abbrev pub opening_effect : Opening → Effect
opening_effect Refused = rejected CallRejected
opening_effect Challenges = row (Answered AuthReq) stages.Challenged None
opening_effect Offers = row Silent stages.Offered (Some signals.Offered)

-- the challenge that is sent, if any
abbrev pub challenge_sent : Opening → List ℕ → Option (List ℕ)
challenge_sent Refused challenge = None
challenge_sent Challenges challenge = Some challenge
challenge_sent Offers challenge = None
