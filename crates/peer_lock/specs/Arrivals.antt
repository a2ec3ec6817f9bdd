-- The steps of a peer by which it handles a datagram ("Full Frames", "Mini Frames", "Meta Frames").
use Rattle.std.specs.Prelude.{ℕ, ◌+◌, Bool, List, [], ◌∷◌, ◌++◌, ◌&&◌, true, false, Option, None, Some, length, map}
use Rattle.std.specs.Prelude.{if◌then◌else◌}
use Rattle.call_book.specs.declared.leg_name.LegName.{LegName}
use Rattle.call_signals.specs.FrameElements.{element_in}
use Rattle.call_signals.specs.Message.{message_of}
use Rattle.call_signals.specs.PeerRules.{is_own}
use Rattle.call_signals.specs.declared.message.Message.{Message}
use Rattle.call_signals.specs.declared.message.Message.TheVariants.{AuthReq}
use Rattle.call_signals.specs.declared.outcomes.Judged.{Judged}
use Rattle.call_signals.specs.declared.outcomes.Judged.TheVariants.{Taken}
use Rattle.call_signals.specs.declared.rules.PeerRules.{PeerRules}
use Rattle.info_elements.specs.Numbers.{CHALLENGE}
use Rattle.iax_frames.specs.FullFrame.{FullFrame, spelling}
use Rattle.iax_frames.specs.MiniFrame.{MiniFrame}
use Rattle.iax_frames.specs.TrunkFrame.{TrunkFrame, is_timed, head_len, entry_item}
use Rattle.iax_frames.specs.declared.datagram.Datagram.{Datagram}
use Rattle.iax_frames.specs.declared.datagram.Datagram.TheVariants.{Full, Mini, Video, Trunk}
use Rattle.leg_machine.specs.Media.{accepts_media}
use Rattle.leg_machine.specs.Steps.{full_step}
use Rattle.call_signals.specs.declared.signal.MediaSpan.{MediaSpan}
use Rattle.call_signals.specs.declared.signal.Signal.{Signal}
use Rattle.call_signals.specs.declared.signal.Signal.TheVariants.{Media}
use Rattle.peer_accounts.specs.Accounts.{stepped, with_accepted}
use Rattle.peer_lock.specs.Delivery.{Delivery, Reaches, NeedsNumber, NoToken, Gets, Pongs, NoCall, answer_octets, delivery}
use Rattle.peer_lock.specs.Delivery.{full_refused}
use Rattle.peer_legs.specs.Legs.{PeerLegs, NamedLeg, leg_of_remote}
use Rattle.peer_accounts.specs.Grants.{granted}
use Rattle.peer_lock.specs.Peer.{PeerView, PeerStep, handed_up, offer_with, leg_alone, no_leg, alone, with_datagram, with_step}
use Rattle.peer_lock.specs.Pokes.{answered}
use Rattle.peer_lock.specs.TrunkEntries.{drops_entries, taken_by, taker}
use Rattle.peer_lock.specs.declared.errors.PeerError.{PeerError}
use Rattle.peer_lock.specs.declared.errors.PeerError.TheVariants as errors
use Rattle.peer_lock.specs.declared.steps.Rejection.{Rejection}
use Rattle.peer_lock.specs.declared.steps.Rejection.TheVariants as rejections
use Rattle.peer_lock.specs.declared.unknown_calls.Answer.{Answer}

-- first: the octet credit with which every peer begins

-- ---- full frames

abbrev pub is_auth_req : Message → Bool
is_auth_req AuthReq = true
is_auth_req _ = false

-- an AUTHREQ that a leg accepted, whose challenge begins as those of this exchange do
abbrev pub reflection : PeerRules → FullFrame → Judged → Option Rejection
reflection rules frame Taken =
    if is_auth_req (message_of frame.head) && is_own rules.challenge_prefix (element_in frame CHALLENGE)
    then Some rejections.Reflection
    else None
reflection rules frame _ = None

abbrev pub reached_step : ℕ → PeerView → NamedLeg → FullFrame → ℕ → PeerStep
reached_step first peer named frame now =
    let s = full_step named.leg frame now in
    let up = granted first peer.accounts.accepted s.signal in
    record {
      peer = with_step peer named.name s.leg (map spelling s.replies) up.octets;
      step = record (leg_alone named.name s.judged) { rejected = reflection peer.rules frame s.judged };
      signals = handed_up named.name up.signal;
      offer = offer_with s.leg up.signal;
      octets = up.octets;
    }

-- a step without a leg, in which an answer is sent
abbrev pub answering : PeerView → Answer → PeerStep
answering peer answer =
    record (alone (with_datagram peer (answer_octets answer))) { step = record no_leg { rejected = answer.rejected } }

abbrev pub delivered_step : ℕ → PeerView → Delivery → FullFrame → ℕ → PeerStep
delivered_step first peer (Reaches named) frame now = reached_step first peer named frame now
delivered_step first peer NeedsNumber frame now = alone peer
delivered_step first peer NoToken frame now = alone peer
delivered_step first peer (Gets answer) frame now = answering peer answer
delivered_step first peer Pongs frame now = alone (record peer { pokes = answered peer.pokes now })
delivered_step first peer NoCall frame now = alone peer

-- ---- media

-- the signals that some media hands up, and the octets that are accepted
pub record MediaTaken : Type 0 where
  pub signals : List (LegName × Signal)
  pub octets : ℕ

abbrev pub no_media : MediaTaken
no_media = record { signals = []; octets = 0 }

abbrev pub granted_at : ℕ → ℕ → LegName → Bool → MediaSpan → MediaTaken
granted_at first accepted name counts span =
    if counts
    then record {
      signals = handed_up name (granted first accepted (Some (Media span))).signal;
      octets = (granted first accepted (Some (Media span))).octets;
    }
    else no_media

-- media for the leg that has a remote number; accepted is the number of octets accepted before
abbrev pub media_at : ℕ → ℕ → Option NamedLeg → MediaSpan → MediaTaken
media_at first accepted None span = no_media
media_at first accepted (Some named) span = granted_at first accepted named.name (accepts_media named.leg span) span

-- the place of an entry's media, if this is the place of its first octet
abbrev pub entry_span : Bool → ℕ → ℕ × Option ℕ × List ℕ → MediaSpan
entry_span timed at entry = record { start = at + head_len timed; end = at + head_len timed + length entry.2 }

-- the octets of entries
abbrev pub entries_len : Bool → List (ℕ × Option ℕ × List ℕ) → ℕ
entries_len timed [] = 0
entries_len timed (entry ∷ entries) = head_len timed + length entry.2 + entries_len timed entries

-- the media of the entries of a trunk frame, in their order, the first of which has this place
abbrev pub entries_media : ℕ → PeerLegs → Bool → List ℕ → Bool → ℕ → ℕ → List (ℕ × Option ℕ × List ℕ) → MediaTaken
entries_media first legs limited taken timed at accepted [] = no_media
entries_media first legs limited taken timed at accepted (entry ∷ entries) =
    let leg = taker limited taken (leg_of_remote legs entry.0) in
    let now = media_at first accepted leg (entry_span timed at entry) in
    let later = entries_media first legs limited (taken_by taken leg) timed (entry_span timed at entry).end
    (accepted + now.octets) entries in
    record { signals = now.signals ++ later.signals; octets = now.octets + later.octets }

-- a step that only accepts media
abbrev pub media_step : PeerView → MediaTaken → PeerStep
media_step peer media = record {
  peer = record peer { accounts = with_accepted (stepped peer.accounts) media.octets };
  step = no_leg;
  signals = media.signals;
  offer = None;
  octets = media.octets;
}

-- the place of media in a mini frame
abbrev pub mini_span : MiniFrame → MediaSpan
mini_span mini = record { start = 4; end = 4 + length mini.media }

abbrev pub mini_media : ℕ → PeerView → MiniFrame → MediaTaken
mini_media first peer mini =
    media_at first peer.accounts.accepted (leg_of_remote peer.legs mini.source) (mini_span mini)

abbrev pub trunk_media : ℕ → PeerView → TrunkFrame → MediaTaken
trunk_media first peer trunk =
    entries_media first peer.legs peer.rules.is_hardened [] (is_timed trunk.command_data) 8 peer.accounts.accepted
    (map entry_item trunk.entries)

-- the rejection of a trunk frame of which entries are dropped
abbrev pub trunk_rejected : PeerView → TrunkFrame → Option Rejection
trunk_rejected peer trunk =
    if drops_entries peer.legs peer.rules.is_hardened [] (map entry_item trunk.entries) then Some rejections.ManyEntries else None

-- ---- the datagram

-- the refusal of a datagram that was read, memory aside
abbrev pub mini_refused : Option NamedLeg → Option PeerError
mini_refused None = Some errors.NoCall
mini_refused (Some named) = None

abbrev pub datagram_refused : PeerView → Datagram → ℕ → Option PeerError
datagram_refused peer (Full frame) now = full_refused peer frame now
datagram_refused peer (Mini mini) now = mini_refused (leg_of_remote peer.legs mini.source)
datagram_refused peer (Video video) now = None
datagram_refused peer (Trunk trunk) now = None

abbrev pub datagram_step : ℕ → PeerView → Datagram → ℕ → PeerStep
datagram_step first peer (Full frame) now = delivered_step first peer (delivery peer frame now) frame now
datagram_step first peer (Mini mini) now = media_step peer (mini_media first peer mini)
datagram_step first peer (Video video) now = alone peer
datagram_step first peer (Trunk trunk) now =
    record (media_step peer (trunk_media first peer trunk)) { step = record no_leg { rejected = trunk_rejected peer trunk } }
