-- A call under a lock is the step of the exchange that was needed.
use Rattle.std.specs.Prelude.{option_map, Err}
use Rattle.std.proofs.Common.{◌≡◌, ℕ, zero, suc, false, List, [], ◌∷◌, Option, Some, slice_get, slice_set, refl, sym, ap, ◌∙◌}
use Rattle.std.proofs.Common.{inl, inr}
use Rattle.call_book.specs.declared.leg_name.LegName.{LegName}
use Rattle.call_signals.specs.declared.order.Command.{Command}
use Rattle.call_signals.specs.declared.signal.MediaSpan.{MediaSpan}
use Rattle.call_control.specs.declared.need.Need.TheVariants as needs
use Rattle.call_control.specs.declared.reply.Reply.{Reply}
use Rattle.call_control.specs.declared.reply.Reply.TheVariants as replies
use Rattle.peer_lock.specs.Legs.{leg_at}
use Rattle.peer_lock.specs.Peer.{PeerView}
use Rattle.peer_lock.specs.SoundPeer.{IsSoundPeer}
use Rattle.peer_lock.specs.Statuses.{status_of}
use Rattle.laws_of_calls.specs.PeerCalls.{Stays, ReceivesDatagram, ReceivesNewWithoutNumber, ReceivesNew, Calls, GoesOn, Retires}
use Rattle.laws_of_calls.specs.PeerCalls.{with_peer, IsStepAt}
use Rattle.laws_of_calls.specs.Stored.{Stored}
use Rattle.laws_of_calls.specs.StoredSteps.{AtPeer, Answers, Makes, TakesOrder, look_at}

set_same : {X : Type 0} (xs : List X) (place : ℕ) (x : X) → slice_get xs place ≡ Some x → slice_set xs place x ≡ xs
set_same [] place x at = refl
set_same (first ∷ xs) zero x at = let same : first ≡ x = cc in ap (λ (y : _). y ∷ xs) (sym same)
set_same (first ∷ xs) (suc place) x at = ap (λ (ys : List _). first ∷ ys) (set_same xs place x at)

at : (place : ℕ) (Does : PeerView → PeerView → Reply → Type 0) (old : Stored) (before after : PeerView) (reply : Reply)
    → slice_get old.peers place ≡ Some before → IsSoundPeer after → Does before after reply
    → AtPeer place Does old (with_peer old place after) reply
at place Does old before after reply there sound does =
    record { before = before; at = there; after = after; does = does; sound = sound; peers = refl; book = refl }

stays : (place : ℕ) (old : Stored) (before after : PeerView) (reply answer : Reply) → slice_get old.peers place ≡ Some before
    → Stays answer before after reply → Answers answer old (with_peer old place after) reply
stays place old before after reply answer there s = record {
  becomes = refl;
  peers = ap (slice_set old.peers place) s.becomes ∙ set_same old.peers place before there;
  answers = s.answers;
}

pub datagrams : (place : ℕ) → IsStepAt place (needs.Datagram place) ReceivesDatagram
datagrams place old before after reply there sound (inl d) = inl (at place _ old before after reply there sound d)
datagrams place old before after reply there sound (inr s) =
    inr (record { error = s.0; unchanged = stays place old before after reply (replies.Datagram (Err s.0)) there s.1 })

pub rejected_calls : (place : ℕ) → IsStepAt place (needs.RejectNew place) ReceivesNewWithoutNumber
rejected_calls place old before after reply there sound (inl d) = inl (at place _ old before after reply there sound d)
rejected_calls place old before after reply there sound (inr s) =
    inr (record { error = s.0; unchanged = stays place old before after reply (replies.RejectNew (Err s.0)) there s.1 })

pub calls_in : (name : LegName) → IsStepAt name.peer (needs.OpenIn name) (ReceivesNew name)
calls_in name old before after reply there sound (inl d) = inl (at name.peer _ old before after reply there sound d)
calls_in name old before after reply there sound (inr s) =
    inr (record { error = s.0; unchanged = stays name.peer old before after reply (replies.OpenIn (Err s.0)) there s.1 })

pub calls_out : (name : LegName) → IsStepAt name.peer (needs.OpenOut name) (Calls name)
calls_out name old before after reply there sound (inl d) = inl (at name.peer _ old before after reply there sound d)
calls_out name old before after reply there sound (inr s) =
    inr (record { error = s.0; unchanged = stays name.peer old before after reply (replies.OpenOut (Err s.0)) there s.1 })

pub orders : (name : LegName) (command : Command MediaSpan)
    → IsStepAt name.peer (needs.Order name command) (TakesOrder name command)
orders name command old before after reply there sound does =
    inl (at name.peer (TakesOrder name command) old before after reply there sound does)

pub ticks : (place : ℕ) → IsStepAt place (needs.Tick place) GoesOn
ticks place old before after reply there sound (inl d) = inl (at place _ old before after reply there sound d)
ticks place old before after reply there sound (inr s) =
    inr (record { error = s.0; unchanged = stays place old before after reply (replies.Tick (Err s.0)) there s.1 })

pub looks : (old : Stored) (place number : ℕ) (peer : PeerView) → slice_get old.peers place ≡ Some peer
    → Makes (needs.Look place number) old old (replies.Look (option_map status_of (leg_at peer.legs number)))
looks old place number peer there = record {
  becomes = refl;
  peers = refl;
  answers = ap (λ (o : Option PeerView). replies.Look (look_at o number)) (sym there);
}

pub retiring : (name : LegName) → IsStepAt name.peer (needs.Retire name) (Retires name)
retiring name old before after reply there sound (inl d) = inl (at name.peer _ old before after reply there sound d)
retiring name old before after reply there sound (inr s) =
    inr (stays name.peer old before after reply (replies.Retire false) there s)
