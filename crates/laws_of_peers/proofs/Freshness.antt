-- Lists of fresh actions, and of fresh events.
use Rattle.std.specs.Prelude.{nat_le, nat_eq}
use Rattle.std.proofs.Common.{◌≡◌, ℕ, ◌+◌, ◌≤◌, Bool, true, false, cond, All, List, [], ◌∷◌, ◌++◌, length, map}
use Rattle.std.proofs.Common.{Option, Some, None, IfSome, OnSome, slice_get, refl, sym, subst, arith}
use Rattle.std.proofs.lemmas.List.Elements.{All-head, All-tail}
use Rattle.iax_frames.specs.declared.stored_frame.Frame.{Frame}
use Rattle.laws_of_peers.specs.Sides.{SendsNothingNew}
use Rattle.seq_window.specs.Entry.{Entry, Acked}
use Rattle.seq_window.specs.History.{taken_count}
use Rattle.seq_window.specs.Network.{Action, SendNumbered, SendUnnumbered, Retransmit, JudgeAcknowledgement, JudgeNumber}
use Rattle.seq_window.specs.Network.{Datagram, Side, Network, Event, AtFirst, AtSecond}
use Rattle.seq_window.specs.Network.{IsFresh, IsFreshAction, IsFreshAcknowledgement, IsFreshNumber}
use Rattle.seq_window.specs.Network.{after, after_all, after_acknowledgement, actions_in_turn, happens, reply_actions, run}
use Rattle.seq_window.specs.Sequence.{byte_of}
use Rattle.seq_window.specs.Turn.{Turn, extended}
use Rattle.seq_window.specs.Window.{count_of, entries_for_count, judged_acknowledgement}
use Rattle.seq_window.proofs.Records.{taken_count-append}
use Rattle.peer_lock.proofs.Choices.{either}

-- each of these actions of a side is fresh, given the other side
abbrev pub AreFresh : List Action → Side → Side → Type 0
AreFresh [] own other = Unit {0}
AreFresh (action ∷ actions) own other = IsFreshAction action own other × AreFresh actions (after action own other) other

pub fresh_both : (first rest : List Action) (own other : Side) → AreFresh first own other
    → AreFresh rest (after_all first own other) other → AreFresh (first ++ rest) own other
fresh_both [] rest own other one more = more
fresh_both (action ∷ first) rest own other one more = (one.0, fresh_both first rest (after action own other) other one.1 more)

-- ---- an action that judges nothing is fresh

fresh_nothing_new : (action : Action) (own other : Side) → SendsNothingNew action → IsFreshAction action own other
fresh_nothing_new SendUnnumbered own other is = tt
fresh_nothing_new (Retransmit place) own other is = tt
fresh_nothing_new (SendNumbered frame) own other is = tt
fresh_nothing_new (JudgeAcknowledgement which) own other is = absurd is
fresh_nothing_new (JudgeNumber which) own other is = absurd is

pub all_fresh : (actions : List Action) (own other : Side) → All SendsNothingNew actions → AreFresh actions own other
all_fresh [] own other all = tt
all_fresh (action ∷ actions) own other all = (
  fresh_nothing_new action own other (All-head SendsNothingNew action actions all),
  all_fresh actions (after action own other) other (All-tail SendsNothingNew action actions all),
)

pub fresh_reply : (reply : Option Frame) (own other : Side) → AreFresh (reply_actions reply) own other
fresh_reply None own other = tt
fresh_reply (Some frame) own other = (tt, tt)

-- ---- a turn

count_takes_none : (count : ℕ) → taken_count (entries_for_count count) ≡ 0
count_takes_none count =
    either (λ (entries : List Entry). taken_count entries ≡ 0) (nat_eq count 0) [] (Acked count ∷ []) refl refl

still_taken : (limit : ℕ) (history : List Entry) (count : ℕ)
    → taken_count (extended limit history (entries_for_count count)) ≡ taken_count history
still_taken limit history count =
    either (λ (entries : List Entry). taken_count entries ≡ taken_count history)
    (nat_le (length history + length (entries_for_count count)) limit) (history ++ entries_for_count count) history
    (omega (arith, taken_count-append history (entries_for_count count), count_takes_none count)) refl

-- an acknowledgement adds no received frame
acknowledged_takes : (own : Side) (datagram : Option Datagram)
    → taken_count (after_acknowledgement own datagram).history ≡ taken_count own.history
acknowledged_takes own None = refl
acknowledged_takes own (Some datagram) =
    still_taken own.limit own.history (count_of (judged_acknowledgement own.history (byte_of datagram.acknowledgement)))

-- a side that judges one datagram of the other, which is fresh
module _ (own other : Side) (which : ℕ) (datagram : Datagram) (at : slice_get other.datagrams which ≡ Some datagram)
    (acknowledgement : IsFreshAcknowledgement own datagram) (number : IsFreshNumber own datagram) where
  acknowledges : IsFreshAction (JudgeAcknowledgement which) own other
  acknowledges = subst (λ (o : Option Datagram). IfSome o (IsFreshAcknowledgement own)) (sym at) acknowledgement

  -- also if it has judged the acknowledgement before
  receives : (side : Side) → taken_count side.history ≡ taken_count own.history → IsFreshAction (JudgeNumber which) side other
  receives side same =
      subst (λ (o : Option Datagram). IfSome o (IsFreshNumber side)) (sym at)
      (subst (λ (count : ℕ). OnSome datagram.frame (count ≤ datagram.number + 128)) (sym same) number)

  parts_fresh : (a r : Bool) (reply : Option Frame)
      → AreFresh (cond a (JudgeAcknowledgement which ∷ []) [] ++ cond r (JudgeNumber which ∷ []) [] ++ reply_actions reply) own
      other
  parts_fresh true true reply = (
    acknowledges,
    (
      receives (after (JudgeAcknowledgement which) own other) (acknowledged_takes own (slice_get other.datagrams which)),
      fresh_reply reply _ other,
    ),
  )
  parts_fresh true false reply = (acknowledges, fresh_reply reply _ other)
  parts_fresh false true reply = (receives own refl, fresh_reply reply _ other)
  parts_fresh false false reply = fresh_reply reply own other

  pub fresh_turn : (turn : Turn) → AreFresh (actions_in_turn which turn) own other
  fresh_turn turn = parts_fresh turn.acknowledges turn.receives turn.reply

-- ---- events

pub run_both : (first rest : List Event) (network : Network) → run (first ++ rest) network ≡ run rest (run first network)
run_both [] rest network = refl
run_both (event ∷ first) rest network = run_both first rest (happens event network)

pub events_both : (first rest : List Event) (network : Network) → IsFresh first network → IsFresh rest (run first network)
    → IsFresh (first ++ rest) network
events_both [] rest network one more = more
events_both (event ∷ first) rest network one more = (one.0, events_both first rest (happens event network) one.1 more)

pub first_runs : (actions : List Action) (first second : Side)
    → run (map AtFirst actions) (record { first = first; second = second })
    ≡ record { first = after_all actions first second; second = second }
first_runs [] first second = refl
first_runs (action ∷ actions) first second = first_runs actions (after action first second) second

pub second_runs : (actions : List Action) (first second : Side)
    → run (map AtSecond actions) (record { first = first; second = second })
    ≡ record { first = first; second = after_all actions second first }
second_runs [] first second = refl
second_runs (action ∷ actions) first second = second_runs actions first (after action second first)

pub first_fresh : (actions : List Action) (first second : Side) → AreFresh actions first second
    → IsFresh (map AtFirst actions) (record { first = first; second = second })
first_fresh [] first second fresh = tt
first_fresh (action ∷ actions) first second fresh = (fresh.0, first_fresh actions (after action first second) second fresh.1)

pub second_fresh : (actions : List Action) (first second : Side) → AreFresh actions second first
    → IsFresh (map AtSecond actions) (record { first = first; second = second })
second_fresh [] first second fresh = tt
second_fresh (action ∷ actions) first second fresh = (fresh.0, second_fresh actions first (after action second first) fresh.1)
