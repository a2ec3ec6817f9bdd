-- The changes of a client while it is served, and that no other client changes.
use Rattle.std.specs.Prelude.{◌≡◌, ◌≤◌, ◌-◌, ◌⊎◌, ℕ, List, Bool, true, false, Option, Some, None}
use Rattle.std.specs.Prelude.{codes, nat_le, slice_get, slice_set, sum_by, take, vec_len}
use Rattle.control_requests.specs.Requests.{Reads}
use Rattle.control_requests.specs.Response.{refusal_text}
use Rattle.control_requests.specs.Urgency.{urgency_of}
use Rattle.control_requests.specs.declared.request.Reading.{Reading}
use Rattle.control_requests.specs.declared.request.Reading.TheVariants.{Whole, Part, HeadTooLarge, BodyTooLarge, Malformed}
use Rattle.control_requests.specs.declared.request.Request.{Request}
use Rattle.control_requests.specs.declared.response.StatusCode.TheVariants as status
use Rattle.control_requests.specs.declared.urgency.Urgency.{Urgency}
use Rattle.control_requests.specs.declared.urgency.Urgency.TheVariants as urgency
use Rattle.control_server.specs.declared.client.Client.{Client}
use Rattle.control_server.specs.declared.client.ClientStage.{ClientStage}
use Rattle.control_server.specs.declared.doors.Door.{Door}
use Rattle.control_server.specs.declared.doors.Door.TheVariants.{Control, Metrics}
use Rattle.control_server.specs.declared.client.ClientStage.TheVariants.{Asking, Answered, Draining, Ended}

-- it is the same connection
pub record IsSameClient (old new : Client) : Type 0 where
  pub stream : new.stream ≡ old.stream
  pub door : new.door ≡ old.door
  pub since : new.since ≡ old.since

-- its input was read: octets may follow those that were read before, and it may have ended
pub record WasHeard (old new : Client) : Type 0 where
  pub same : IsSameClient old new
  pub input : take (vec_len old.input) new.input.items ≡ old.input.items
  pub output : new.output ≡ old.output
  pub sent : new.sent ≡ old.sent
  pub stage : (new.stage ≡ old.stage) ⊎ (new.stage ≡ Ended)

-- output was sent to it: more octets of its answer may be sent; it drains once all are, or it has ended
pub record WasSpoken (old new : Client) : Type 0 where
  pub same : IsSameClient old new
  pub input : new.input ≡ old.input
  pub sent : old.sent ≤ new.sent
  pub bound : old.sent ≤ vec_len old.output → new.sent ≤ vec_len old.output
  pub stage : (new.stage ≡ old.stage) ⊎ ((new.stage ≡ Ended) ⊎ ((new.stage ≡ Draining) × (new.sent ≡ vec_len old.output)))

-- the number of octets of its answer that are kept
abbrev pub kept_in : ClientStage → ℕ → ℕ
kept_in Asking kept = 0
kept_in Answered kept = kept
kept_in Draining kept = 0
kept_in Ended kept = 0

abbrev pub kept_of : Client → ℕ
kept_of client = kept_in client.stage (vec_len client.output)

-- it has ended
abbrev pub ended_at : ClientStage → Bool
ended_at Asking = false
ended_at Answered = false
ended_at Draining = false
ended_at Ended = true

abbrev pub has_ended : Client → Bool
has_ended client = ended_at client.stage

-- its answer isn't sent
abbrev pub answered_at : ClientStage → Bool
answered_at Asking = false
answered_at Answered = true
answered_at Draining = false
answered_at Ended = false

abbrev pub is_answered : Client → Bool
is_answered client = answered_at client.stage

-- It was served: none of its octets is lost, it asks for nothing more, and its answer stays until it is sent or the client
-- ends.
pub record WasServed (old new : Client) : Type 0 where
  pub same : IsSameClient old new
  pub input : take (vec_len old.input) new.input.items ≡ old.input.items
  pub asks : new.stage ≡ Asking → old.stage ≡ Asking
  pub answered : new.stage ≡ Answered → (old.stage ≡ Asking) ⊎ (old.stage ≡ Answered)
  pub ended : old.stage ≡ Ended → new.stage ≡ Ended
  pub answer : old.stage ≡ Answered → new.stage ≡ Answered → new.output ≡ old.output

-- the response to octets that neither are a request nor may become one
abbrev pub fault_text : Reading → Option (List ℕ)
fault_text (Whole request) = None
fault_text Part = None
fault_text HeadTooLarge = Some (refusal_text status.HeadTooLarge (codes "HeadTooLarge"))
fault_text BodyTooLarge = Some (refusal_text status.TooLarge (codes "BodyTooLarge"))
fault_text Malformed = Some (refusal_text status.BadRequest (codes "Malformed"))

-- the octets have no fault
abbrev pub HasNoFault : List ℕ → Type 0
HasNoFault octets = (reading : Reading) × Reads octets reading × (fault_text reading ≡ None)

-- A client that asked was answered with the fault of its octets, and is asking only if they have none.
pub record IsAnsweredAtFault (old new : Client) : Type 0 where
  pub fault : old.stage ≡ Asking → new.stage ≡ Answered →
      (reading : Reading) × Reads new.input.items reading × (fault_text reading ≡ Some new.output.items)
  pub asks : new.stage ≡ Asking → HasNoFault new.input.items

-- it was served, and a fault of its octets was answered
pub record WasHeardOut (old new : Client) : Type 0 where
  pub served : WasServed old new
  pub fault : IsAnsweredAtFault old new

-- a whole request
abbrev pub is_whole : Reading → Bool
is_whole (Whole request) = true
is_whole Part = false
is_whole HeadTooLarge = false
is_whole BodyTooLarge = false
is_whole Malformed = false

-- the octets are no whole request
abbrev pub IsNoRequest : List ℕ → Type 0
IsNoRequest octets = (reading : Reading) × Reads octets reading × (is_whole reading ≡ false)

-- how soon a request at that door is answered
abbrev pub urgency_at : Door → Request → Urgency
urgency_at Control request = urgency_of request.method.now request.path.now
urgency_at Metrics request = urgency.Metrics

-- a client asks, and its whole request is so urgent
pub record AsksAt (urgency : Urgency) (client : Client) : Type 0 where
  pub asks : client.stage ≡ Asking
  pub request : (request : Request) × Reads client.input.items (Whole request) × (urgency ≡ urgency_at client.door request)

-- P relates the client that is found at a place before and after, and all others are as they were
abbrev pub AtFound : (Client → Client → Type 0) → ℕ → List Client → List Client → Option Client → Type 0
AtFound P place old new None = new ≡ old
AtFound P place old new (Some client) = (after : Client) × P client after × (new ≡ slice_set old place after)

abbrev pub At : (Client → Client → Type 0) → ℕ → List Client → List Client → Type 0
At P place old new = AtFound P place old new (slice_get old place)

-- It gives way to another: its request isn't complete, its answer is sent, or it took none of its answer for a second.
abbrev pub gives_way_at : ClientStage → (is_stuck : Bool) → Bool
gives_way_at Asking is_stuck = true
gives_way_at Answered is_stuck = is_stuck
gives_way_at Draining is_stuck = true
gives_way_at Ended is_stuck = true

abbrev pub gives_way : ℕ → Client → Bool
gives_way now client = gives_way_at client.stage (nat_le 1000 (now - client.active))

-- Only clients that give way were closed. If these weigh nothing, and each of the others any weight, then those that are
-- left weigh no less than all did.
abbrev pub SparesOthers : ℕ → List Client → List Client → Type 0
SparesOthers now old new = (weight : Client → ℕ) → ((client : Client) → gives_way now client ≡ true → weight client ≡ 0)
    → sum_by weight old ≤ sum_by weight new
