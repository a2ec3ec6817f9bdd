-- The names that refusals of the lower layers have here.
use Rattle.std.specs.Prelude.{Bool, true, false, Option, None, Some}
use Rattle.call_book.specs.declared.errors.ReserveError.{ReserveError}
use Rattle.call_book.specs.declared.errors.ReserveError.TheVariants as reserve_errors
use Rattle.peer_lock.specs.declared.errors.OpenError.{OpenError}
use Rattle.peer_lock.specs.declared.errors.OpenError.TheVariants as open_errors
use Rattle.peer_lock.specs.declared.errors.PeerError.{PeerError}
use Rattle.peer_lock.specs.declared.errors.PeerError.TheVariants as peer_errors
use Rattle.peer_lock.specs.declared.errors.RejectError.{RejectError}
use Rattle.peer_lock.specs.declared.errors.RejectError.TheVariants as reject_errors
use Rattle.exchange_core.specs.declared.answers.CallError.{CallError}
use Rattle.exchange_core.specs.declared.answers.CallError.TheVariants as call_errors
use Rattle.exchange_core.specs.declared.answers.Refusal.{Refusal}
use Rattle.exchange_core.specs.declared.answers.Refusal.TheVariants as refusals

-- why a datagram is refused; none if it needs a number for its leg
abbrev pub from_peer : PeerError → Option Refusal
from_peer peer_errors.StepsSpent = Some refusals.StepsSpent
from_peer peer_errors.TooLong = Some refusals.TooLong
from_peer peer_errors.Short = Some refusals.Short
from_peer peer_errors.MetaCommand = Some refusals.MetaCommand
from_peer peer_errors.EntryCut = Some refusals.EntryCut
from_peer peer_errors.NoSource = Some refusals.NoSource
from_peer peer_errors.Cut = Some refusals.Cut
from_peer peer_errors.NeedsNumber = None
from_peer peer_errors.NoToken = Some refusals.NoToken
from_peer peer_errors.NoCall = Some refusals.NoCall
from_peer peer_errors.RecordFull = Some refusals.RecordFull
from_peer peer_errors.Unaddressed = Some refusals.Unaddressed
from_peer peer_errors.NewUnacknowledged = Some refusals.NewUnacknowledged
from_peer peer_errors.Memory = Some refusals.Memory

abbrev pub from_open : OpenError → Refusal
from_open open_errors.StepsSpent = refusals.StepsSpent
from_open open_errors.NumberBusy = refusals.NumberBusy
from_open open_errors.Draining = refusals.Draining
from_open open_errors.RemoteBusy = refusals.RemoteBusy
from_open open_errors.Memory = refusals.Memory

-- why a NEW that finds no free number isn't rejected
abbrev pub from_reject : RejectError → Refusal
from_reject reject_errors.Unanswered = refusals.NoNumber
from_reject reject_errors.StepsSpent = refusals.StepsSpent
from_reject reject_errors.RemoteBusy = refusals.RemoteBusy

abbrev pub from_reserve : ReserveError → Refusal
from_reserve reserve_errors.SerialsSpent = refusals.SerialsSpent
from_reserve reserve_errors.NoNumber = refusals.NoNumber

-- A datagram of this refusal has no number reserved for its leg, so even the order of free numbers is as before. The other
-- refusals may also come from the opening of a leg, for which a number is reserved, and given back behind the others.
abbrev pub reserves_nothing : Refusal → Bool
reserves_nothing refusals.StepsSpent = false
reserves_nothing refusals.NumberBusy = false
reserves_nothing refusals.Draining = false
reserves_nothing refusals.RemoteBusy = false
reserves_nothing refusals.Memory = false
reserves_nothing refusals.Stranger = true
reserves_nothing refusals.TooLong = true
reserves_nothing refusals.Short = true
reserves_nothing refusals.MetaCommand = true
reserves_nothing refusals.EntryCut = true
reserves_nothing refusals.NoSource = true
reserves_nothing refusals.Cut = true
reserves_nothing refusals.NoToken = true
reserves_nothing refusals.NoCall = true
reserves_nothing refusals.RecordFull = true
reserves_nothing refusals.Unaddressed = true
reserves_nothing refusals.NewUnacknowledged = true
reserves_nothing refusals.SerialsSpent = true
reserves_nothing refusals.NoNumber = true

-- as a datagram's refusal is named; a number that can't be called is none
abbrev pub from_call : CallError → Option Refusal
from_call call_errors.BadNumber = None
from_call call_errors.SerialsSpent = Some refusals.SerialsSpent
from_call call_errors.NoNumber = Some refusals.NoNumber
from_call call_errors.StepsSpent = Some refusals.StepsSpent
from_call call_errors.NumberBusy = Some refusals.NumberBusy
from_call call_errors.Memory = Some refusals.Memory
