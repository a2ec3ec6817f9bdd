-- Media that waits for a trunk frame is sent.
use Rattle.std.proofs.Common.{◌≡◌, ℕ, ◌+◌, ◌&&◌, Bool, true, false, cond, List, [], ◌∷◌, ◌++◌}
use Rattle.std.proofs.Common.{ap, refl, ◌∙◌}
use Rattle.outbox.specs.Outbox.{OutboxView, put}
use Rattle.outbox.proofs.Puts.{put_both}
use Rattle.peer_accounts.specs.Accounts.{Accounts}
use Rattle.call_book.specs.declared.leg_name.LegName.{LegName}
use Rattle.leg_machine.specs.Leg.{LegState}
use Rattle.peer_legs.specs.Legs.{PeerLegs, with_leg}
use Rattle.peer_lock.specs.Peer.{PeerView, with_sent}
use Rattle.peer_lock.specs.Trunks.{has_any, flushes, waits, goes_ahead}
use Rattle.peer_lock.specs.Trunks.{outbox_after, queue_after, accounts_after}
use Rattle.trunk_packer.specs.Queue.{QueueEntry, trunk_spelling}

-- the outbox, the queue and the accounts after a leg's step
pub record IsSent (view : PeerView) (number : ℕ) (replies : List (List ℕ)) (outbox : OutboxView) (queue : List QueueEntry)
    (accounts : Accounts) : Type 0 where
  pub outbox_is : outbox ≡ (with_sent view number replies).outbox
  pub queue_is : queue ≡ (with_sent view number replies).queue
  pub accounts_are : accounts ≡ (with_sent view number replies).accounts

pub is_sent : (view : PeerView) (number : ℕ) (replies : List (List ℕ)) (goes : Bool) (flushed outbox : OutboxView)
    (queue : List QueueEntry) (accounts : Accounts)
    → goes ≡ (has_any replies && goes_ahead view.rules view.queue number)
    → flushed ≡ outbox_after goes view.rules.trunk_timestamps view.since view.outbox view.queue → outbox ≡ put flushed replies
    → queue ≡ queue_after goes view.queue → accounts ≡ accounts_after goes view.queue view.accounts
    → IsSent view number replies outbox queue accounts
is_sent view number replies goes flushed outbox queue accounts goes_is flushed_is outbox_is queue_is accounts_are = record {
  outbox_is = outbox_is ∙ ap (λ (o : OutboxView). put o replies)
      (flushed_is ∙ ap (λ (b : Bool). outbox_after b view.rules.trunk_timestamps view.since view.outbox view.queue) goes_is);
  queue_is = queue_is ∙ ap (λ (b : Bool). queue_after b view.queue) goes_is;
  accounts_are = accounts_are ∙ ap (λ (b : Bool). accounts_after b view.queue view.accounts) goes_is;
}

-- the same for the peer with its legs after the step
pub sent_peer : (view old : PeerView) (name : LegName) (number : ℕ) (legs : PeerLegs) (leg : LegState) (replies : List (List ℕ))
    (outbox : OutboxView) (queue : List QueueEntry) (accounts : Accounts)
    → view ≡ old → number ≡ name.number → legs ≡ with_leg view.legs name leg → IsSent view number replies outbox queue accounts
    → record view { legs = legs; outbox = outbox; queue = queue; accounts = accounts }
    ≡ record (with_sent old name.number replies) { legs = with_leg old.legs name leg }
sent_peer view old name number legs leg replies outbox queue accounts view_is number_is legs_are sent =
    (λ i. record view { legs = legs_are i; outbox = sent.outbox_is i; queue = sent.queue_is i; accounts = sent.accounts_are i })
    ∙ ap (λ (n : ℕ). record (with_sent view n replies) { legs = with_leg view.legs name leg }) number_is
    ∙ ap (λ (v : PeerView). record (with_sent v name.number replies) { legs = with_leg v.legs name leg }) view_is

-- ---- one leg's tick after another

pub queue_twice : (waiting : Bool) (first then : List (List ℕ)) (queue : List QueueEntry)
    → queue_after (has_any then && waiting) (queue_after (has_any first && waiting) queue) ≡ queue_after
    (has_any (first ++ then) && waiting) queue
queue_twice waiting [] then queue = refl
queue_twice false (d ∷ first) [] queue = refl
queue_twice false (d ∷ first) (e ∷ then) queue = refl
queue_twice true (d ∷ first) [] [] = refl
queue_twice true (d ∷ first) (e ∷ then) [] = refl
queue_twice true (d ∷ first) [] (q ∷ queue) = refl
queue_twice true (d ∷ first) (e ∷ then) (q ∷ queue) = refl

pub accounts_twice : (waiting : Bool) (first then : List (List ℕ)) (queue : List QueueEntry) (a : Accounts)
    → accounts_after (has_any then && waiting) (queue_after (has_any first && waiting) queue)
    (accounts_after (has_any first && waiting) queue a) ≡ accounts_after (has_any (first ++ then) && waiting) queue a
accounts_twice waiting [] then queue a = refl
accounts_twice false (d ∷ first) [] queue a = refl
accounts_twice false (d ∷ first) (e ∷ then) queue a = refl
accounts_twice true (d ∷ first) [] [] a = refl
accounts_twice true (d ∷ first) (e ∷ then) [] a = refl
accounts_twice true (d ∷ first) [] (q ∷ queue) a = refl
accounts_twice true (d ∷ first) (e ∷ then) (q ∷ queue) a = refl

again : (outbox : OutboxView) (first then : List (List ℕ)) (out : List ℕ) (flushed : Bool)
    → put (cond flushed (put (put outbox []) (out ∷ [])) (put outbox [])) then ≡ put (cond flushed (put outbox (out ∷ [])) outbox)
    then
again outbox first then out true = ap (λ (o : OutboxView). put o then) (put_both outbox [] (out ∷ []))
again outbox first then out false = put_both outbox [] then

pub outbox_twice : (waiting timed : Bool) (since : ℕ) (outbox : OutboxView) (first then : List (List ℕ)) (queue : List QueueEntry)
    → put (outbox_after (has_any then && waiting) timed since
    (put (outbox_after (has_any first && waiting) timed since outbox queue) first) (queue_after (has_any first && waiting)
    queue)) then
    ≡ put (outbox_after (has_any (first ++ then) && waiting) timed since outbox queue) (first ++ then)
outbox_twice waiting timed since outbox [] then queue = again outbox [] then (trunk_spelling timed since queue)
    (flushes (has_any then && waiting) queue)
outbox_twice false timed since outbox (d ∷ first) [] queue = put_both outbox (d ∷ first) []
outbox_twice false timed since outbox (d ∷ first) (e ∷ then) queue = put_both outbox (d ∷ first) (e ∷ then)
outbox_twice true timed since outbox (d ∷ first) [] [] = put_both outbox (d ∷ first) []
outbox_twice true timed since outbox (d ∷ first) (e ∷ then) [] = put_both outbox (d ∷ first) (e ∷ then)
outbox_twice true timed since outbox (d ∷ first) [] (q ∷ queue) =
    put_both (put outbox (trunk_spelling timed since (q ∷ queue) ∷ [])) (d ∷ first) []
outbox_twice true timed since outbox (d ∷ first) (e ∷ then) (q ∷ queue) =
    put_both (put outbox (trunk_spelling timed since (q ∷ queue) ∷ [])) (d ∷ first) (e ∷ then)
