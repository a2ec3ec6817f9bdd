use Rattle.std.proofs.Common.{◌≡◌, ◌<◌, ◌↔◌, ◌⊎◌, Any, ℕ}
use Rattle.mio.specs.Event.{event_token}
use Rattle.mio.specs.Events.{items}
use Rattle.udp_wires.specs.SocketSet.{Has}
use Rattle.udp_wires.proofs.sockets.with_events.Given as goal

-- a place in the set, or in the remaining events, is in the set at the end
abbrev pub invariant-loop-event : goal.invariant-loop-event
invariant-loop-event l = (place : ℕ) → place < 64
    → (Has l.ready place ⊎ Any (λ event. (event_token event).0 ≡ place) l.event-iterator.rest.now)
    ↔ (Has l.fn.ready place ⊎ Any (λ event. (event_token event).0 ≡ place) (items l.events))
