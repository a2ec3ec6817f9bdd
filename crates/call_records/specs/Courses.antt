-- The course of a call, by the frames of a leg ("Call Setup", "Call Tear Down").
use Rattle.std.specs.Prelude.{ℕ, ◌&&◌, ◌||◌, ◌-◌, nat_le, Bool, true, false, not, is_some, Option, None, Some, List, [], ◌∷◌}
use Rattle.std.specs.Prelude.{if◌then◌else◌}
use Rattle.info_elements.specs.Element.{elements_of, last_of}
use Rattle.info_elements.specs.Numbers.{CAUSECODE}
use Rattle.call_signals.specs.declared.message.Message.{Message}
use Rattle.call_signals.specs.declared.message.Message.TheVariants as messages
use Rattle.call_records.specs.SideFrames.{SideFrame, meaning_of}
use Rattle.call_records.specs.declared.counted.Counted.{Counted}
use Rattle.call_records.specs.declared.counted.Counted.TheVariants.{Digits, Challenges}
use Rattle.call_records.specs.declared.side.Side.{Side}
use Rattle.call_records.specs.declared.side.Side.TheVariants.{Peer, Exchange}
use Rattle.call_records.specs.declared.leg_moment.LegMoment.{LegMoment}
use Rattle.call_records.specs.declared.call_end.Ending.{Ending}
use Rattle.call_records.specs.declared.call_end.Ending.TheVariants.{HungUpHere, HungUpByPeer, RejectedHere, RejectedByPeer}
use Rattle.call_records.specs.declared.call_end.CallEnd.{CallEnd}

-- ---- kinds of frames

abbrev pub is_new : Message → Bool
is_new messages.New = true
is_new _ = false

abbrev pub is_accept : Message → Bool
is_accept messages.Accept = true
is_accept _ = false

abbrev pub is_answer : Message → Bool
is_answer messages.Answer = true
is_answer _ = false

abbrev pub is_digit : Message → Bool
is_digit (messages.Dtmf digit) = true
is_digit _ = false

abbrev pub is_challenge : Message → Bool
is_challenge messages.AuthReq = true
is_challenge _ = false

abbrev pub is_of_kind : Counted → Message → Bool
is_of_kind Digits message = is_digit message
is_of_kind Challenges message = is_challenge message

-- ---- how a call began

-- the side that opened the call: the one that sent the NEW with which its frames begin
abbrev pub opener_of : List SideFrame → Option Side
opener_of [] = None
opener_of (f ∷ frames) = if is_new (meaning_of f) then Some f.by else None

-- the data of that NEW
abbrev pub new_data : List SideFrame → List ℕ
new_data [] = []
new_data (f ∷ frames) = if is_new (meaning_of f) then f.frame.payload else []

-- the side that is called is the other one
abbrev pub is_called : Option Side → Side → Bool
is_called None side = false
is_called (Some Peer) Peer = false
is_called (Some Peer) Exchange = true
is_called (Some Exchange) Peer = true
is_called (Some Exchange) Exchange = false

-- ---- the effect of a frame on its call

-- an ACCEPT and an ANSWER are those of the side that is called
abbrev pub accepts : Option Side → SideFrame → Bool
accepts opener f = is_called opener f.by && is_accept (meaning_of f)

abbrev pub answers : Option Side → SideFrame → Bool
answers opener f = is_called opener f.by && is_answer (meaning_of f)

-- A HANGUP of either side ends the call, and so does a REJECT of the exchange. A REJECT of the peer does if the peer is
-- called and hasn't accepted the call before.
abbrev pub peer_rejection : Option Side → Bool → Option Ending
peer_rejection opener accepted = if is_called opener Peer && not accepted then Some RejectedByPeer else None

abbrev pub ending_by : Option Side → Bool → Side → Message → Option Ending
ending_by opener accepted Exchange messages.Hangup = Some HungUpHere
ending_by opener accepted Peer messages.Hangup = Some HungUpByPeer
ending_by opener accepted Exchange messages.Reject = Some RejectedHere
ending_by opener accepted Peer messages.Reject = peer_rejection opener accepted
ending_by opener accepted side message = None

abbrev pub ending_of : Option Side → Bool → SideFrame → Option Ending
ending_of opener accepted f = ending_by opener accepted f.by (meaning_of f)

-- the moment of a frame, by its sender's clock
abbrev pub moment_of : SideFrame → LegMoment
moment_of f = record { ms = f.frame.ts; clock = f.by }

-- the octet of an element that has one
abbrev pub octet_in : Option (List ℕ) → Option ℕ
octet_in (Some (a ∷ [])) = Some a
octet_in _ = None

-- the CAUSECODE in a frame's data
abbrev pub cause_in : SideFrame → Option ℕ
cause_in f = octet_in (last_of CAUSECODE (elements_of f.frame.payload))

abbrev pub end_by : SideFrame → Ending → CallEnd
end_by f ending = record { how = ending; at = moment_of f; cause = cause_in f }

-- ---- the moments of a call

-- it is accepted by the first ACCEPT of the called side, unless the call ended before
abbrev pub accepted_of : Option Side → List SideFrame → Option LegMoment
accepted_of opener [] = None
accepted_of opener (f ∷ frames) =
    if is_some (ending_of opener false f) then None
    else if accepts opener f then Some (moment_of f)
    else accepted_of opener frames

-- It is answered by the first ANSWER of the called side after that ACCEPT, unless the call ended before. The Bool says
-- whether the call is accepted already.
abbrev pub answered_from : Option Side → Bool → List SideFrame → Option LegMoment
answered_from opener accepted [] = None
answered_from opener accepted (f ∷ frames) =
    if is_some (ending_of opener accepted f) then None
    else if accepted && answers opener f then Some (moment_of f)
    else answered_from opener (accepted || accepts opener f) frames

abbrev pub answered_of : Option Side → List SideFrame → Option LegMoment
answered_of opener frames = answered_from opener false frames

-- it ends by the first frame that ends it
abbrev pub end_or : Option Ending → SideFrame → Option CallEnd → Option CallEnd
end_or None f later = later
end_or (Some ending) f later = Some (end_by f ending)

abbrev pub end_from : Option Side → Bool → List SideFrame → Option CallEnd
end_from opener accepted [] = None
end_from opener accepted (f ∷ frames) =
    end_or (ending_of opener accepted f) f (end_from opener (accepted || accepts opener f) frames)

abbrev pub end_of : Option Side → List SideFrame → Option CallEnd
end_of opener frames = end_from opener false frames

-- ---- counted frames

abbrev pub is_side : Side → Side → Bool
is_side Peer Peer = true
is_side Peer Exchange = false
is_side Exchange Peer = false
is_side Exchange Exchange = true

-- a DTMF frame of this side
abbrev pub is_by : Counted → Side → SideFrame → Bool
is_by kind side f = is_side side f.by && is_of_kind kind (meaning_of f)

-- ---- the length of a call

-- from one moment to another of the same clock, if that isn't earlier
abbrev pub ms_between : LegMoment → LegMoment → Option ℕ
ms_between from to = if is_side from.clock to.clock && nat_le from.ms to.ms then Some (to.ms - from.ms) else None

-- from the answer to the end
abbrev pub talk_ms : Option LegMoment → Option CallEnd → Option ℕ
talk_ms (Some answered) (Some end) = ms_between answered end.at
talk_ms (Some answered) None = None
talk_ms None end = None
