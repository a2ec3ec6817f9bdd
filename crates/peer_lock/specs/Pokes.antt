-- The POKEs by which the exchange asks whether a peer is there, and their PONGs (RFC 5456, sections 6.7.1, "POKE Request
-- Message",
-- and 6.7.3, "PONG Response Message").
use Rattle.std.specs.Prelude.{ℕ, ◌+◌, ◌-◌, ◌%◌, ◌^◌, ◌&&◌, ◌==◌, nat_le, nat_lt, Bool, true, false, List, [], ◌∷◌, Option, None}
use Rattle.std.specs.Prelude.{Some, option_map, if◌then◌else◌}
use Rattle.call_signals.specs.Codes.{FRAME_IAX, IAX_POKE}
use Rattle.call_signals.specs.Message.{message_of}
use Rattle.call_signals.specs.declared.message.Message.{Message}
use Rattle.call_signals.specs.declared.message.Message.TheVariants.{Pong}
use Rattle.call_signals.specs.declared.rules.PeerRules.{PeerRules}
use Rattle.iax_frames.specs.FullFrame.{spelling}
use Rattle.iax_frames.specs.declared.full_frame.FullHead.{FullHead}
use Rattle.peer_lock.specs.declared.pokes.Pokes.{Pokes}

-- the source of full frames of the exchange that belong to no call: no local number of a plan
abbrev pub NO_CALL : ℕ
NO_CALL = 0x7fff

-- ---- when one goes out

abbrev pub no_pokes : Pokes
no_pokes = record { last = None; unanswered = 0; since = 0; silent = None; round_trip = None }

-- A POKE that isn't answered is repeated like any frame: `max_retries` times, `retry_ms` apart. That is a run of POKEs.
abbrev pub is_repeated : PeerRules → Pokes → Bool
is_repeated rules pokes = nat_le 1 pokes.unanswered && nat_le pokes.unanswered rules.max_retries

-- how long after the last POKE the next one is due
abbrev pub poke_wait : PeerRules → Pokes → ℕ
poke_wait rules pokes = if is_repeated rules pokes then rules.retry_ms else rules.qualify_ms

abbrev pub has_waited : Option ℕ → ℕ → ℕ → Bool
has_waited None wait now = true
has_waited (Some last) wait now = nat_le wait (now - last)

abbrev pub is_poke_due : PeerRules → Pokes → ℕ → Bool
is_poke_due rules pokes now = nat_le 1 rules.qualify_ms && has_waited pokes.last (poke_wait rules pokes) now

-- ---- what goes out

-- the timestamp of a POKE: the moment and the drawn offset, modulo 2 ^ 32
abbrev pub poke_stamp : PeerRules → ℕ → ℕ
poke_stamp rules now = (now % 2 ^ 32 + rules.poke_offset) % 2 ^ 32

-- a POKE with a timestamp, which belongs to no call
abbrev pub poke_head : ℕ → FullHead
poke_head timestamp = record {
  source = NO_CALL;
  retransmitted = false;
  destination = 0;
  timestamp = timestamp;
  oseqno = 0;
  iseqno = 0;
  frame_type = FRAME_IAX;
  subclass = IAX_POKE;
}

abbrev pub poke_octets : ℕ → List ℕ
poke_octets timestamp = spelling (record { head = poke_head timestamp; payload = [] })

-- the POKE that a tick sends, if one is due
abbrev pub pokes_sent : PeerRules → Pokes → ℕ → List (List ℕ)
pokes_sent rules pokes now = if is_poke_due rules pokes now then poke_octets (poke_stamp rules now) ∷ [] else []

-- the moment at which the last run without an answer began, once the next run begins
abbrev pub silent_then : PeerRules → Pokes → Option ℕ
silent_then rules pokes = if nat_le pokes.unanswered rules.max_retries then pokes.silent else Some pokes.since

-- after a POKE, which is one more of a run, or the first of another
abbrev pub poked : PeerRules → Pokes → ℕ → Pokes
poked rules pokes now =
    if is_repeated rules pokes then record pokes { last = Some now; unanswered = pokes.unanswered + 1 }
    else record pokes { last = Some now; unanswered = 1; since = now; silent = silent_then rules pokes }

-- after a tick
abbrev pub pokes_after : PeerRules → Pokes → ℕ → Pokes
pokes_after rules pokes now = if is_poke_due rules pokes now then poked rules pokes now else pokes

-- The moment of the first POKE of the last run that went out without an answer. The present run is that once its last POKE has
-- waited
-- as long as the others.
abbrev pub unanswered_since : PeerRules → Pokes → ℕ → Option ℕ
unanswered_since rules pokes now =
    if nat_lt rules.max_retries pokes.unanswered && has_waited pokes.last rules.retry_ms now then Some pokes.since
    else pokes.silent

-- ---- what comes back

abbrev pub is_pong : Message → Bool
is_pong Pong = true
is_pong _ = false

-- A PONG to the call number that POKEs have. In plan format 4 it is never answered.
abbrev pub is_own_pong : PeerRules → FullHead → Bool
is_own_pong rules head = ((head.destination == NO_CALL) && rules.is_hardened) && is_pong (message_of head)

abbrev pub is_stamped : PeerRules → Option ℕ → ℕ → Bool
is_stamped rules None timestamp = false
is_stamped rules (Some last) timestamp = poke_stamp rules last == timestamp

-- it answers the last POKE, which has no answer yet: it bears its timestamp
abbrev pub answers_poke : PeerRules → Pokes → FullHead → Bool
answers_poke rules pokes head = nat_le 1 pokes.unanswered && is_stamped rules pokes.last head.timestamp

-- after that PONG
abbrev pub answered : Pokes → ℕ → Pokes
answered pokes now = record pokes { unanswered = 0; silent = None; round_trip = option_map (λ last. now - last) pokes.last }
