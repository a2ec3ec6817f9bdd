-- The peers at which steps were made under a pass since their last tick.
use Rattle.std.specs.Prelude.{ℕ, List, [], ◌∷◌, Bool, true, false, nat_lt, Result, Ok, Err, get_or, replicate, set}
use Rattle.step_log.specs.Notes.{Noted}
use Rattle.step_log.specs.declared.made.Made.{Made}
use Rattle.step_log.specs.declared.made.Made.TheVariants as mades
use Rattle.peer_lock.specs.declared.errors.StepsSpent.{StepsSpent}
use Rattle.peer_lock.specs.declared.steps.TickReport.{TickReport}

-- no peer is one of them; a plan has at most 32 places
abbrev pub no_peers : List Bool
no_peers = replicate 32 false

-- a tick found no memory for a frame, so it has to be repeated
abbrev pub has_skipped : Result TickReport StepsSpent → Bool
has_skipped (Ok report) = nat_lt 0 report.skipped
has_skipped (Err spent) = false

-- A request to a peer adds the peer, whatever the answer. A tick removes it, unless the tick has to be repeated. A look
-- changes nothing at the peer, and a request to the book isn't one to a peer.
abbrev pub with_made : Made → List Bool → List Bool
with_made (mades.Datagram peer octets now answer onwards) peers = set peers peer true
with_made (mades.OpenIn peer name head payload now challenge answer onwards) peers = set peers peer true
with_made (mades.RejectNew peer head payload answer) peers = set peers peer true
with_made (mades.OpenOut peer name called caller format now answer) peers = set peers peer true
with_made (mades.Order peer name order media now answer) peers = set peers peer true
with_made (mades.Retire peer name leg) peers = set peers peer true
with_made (mades.Tick peer now answer) peers = set peers peer (has_skipped answer)
with_made made peers = peers

-- the same after each of these in turn
abbrev pub with_all : List Bool → List Made → List Bool
with_all peers [] = peers
with_all peers (made ∷ rest) = with_all (with_made made peers) rest

-- whether a step was made at a peer under the pass since its last tick, or that tick has to be repeated
abbrev pub is_unticked : Noted → ℕ → Bool
is_unticked pass peer = get_or (with_all no_peers pass.made) peer false
