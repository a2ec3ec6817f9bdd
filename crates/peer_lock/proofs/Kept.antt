-- The invariant of a peer's lock still holds after its legs have stepped, and after its queue was sent.
use Rattle.std.proofs.Common.{◌≡◌, ◌≤◌, ℕ, ◌+◌, Bool, true, false, cond, List, [], ◌∷◌, ◌++◌, length, ap, sym, subst, refl, ◌∙◌}
use Rattle.std.proofs.Common.{arith, ◌<◌, ◌==◌, inl, inr}
use Rattle.std.proofs.lemmas.Bool.{cases_Bool, eq-eqb, eqb-true}
use Rattle.std.specs.Prelude.{if◌then◌else◌}
use Rattle.iax_frames.specs.TrunkFrame.{head_len}
use Rattle.outbox.specs.Outbox.{OutboxView}
use Rattle.call_signals.specs.declared.rules.PeerRules.{PeerRules}
use Rattle.peer_accounts.specs.Accounts.{Accounts}
use Rattle.peer_legs.specs.Legs.{PeerLegs, AreLegsOf}
use Rattle.peer_lock.specs.Peer.{PeerView}
use Rattle.peer_lock.specs.SoundPeer.{IsKept}
use Rattle.peer_lock.specs.Trunks.{flushes, most_entries, waits, queue_after, accounts_after}
use Rattle.trunk_packer.specs.Queue.{QueueEntry, call_entries, media_octets, trunk_octets}

-- the legs follow the same rules as before
pub legs_kept : (peer : PeerView) (legs : PeerLegs) (outbox : OutboxView) → IsKept peer
    → ((rules : PeerRules) → AreLegsOf rules peer.legs → AreLegsOf rules legs)
    → IsKept (record peer { legs = legs; outbox = outbox })
legs_kept peer legs outbox kept ruled =
    record {
      rules = kept.rules;
      ruled = ruled peer.rules kept.ruled;
      queued = kept.queued;
      one_frame = kept.one_frame;
      few_of_call = kept.few_of_call;
    }

none_queued : (flushed : Bool) (queue : List QueueEntry) (queued : ℕ) → queued ≡ media_octets queue
    → cond flushed 0 queued ≡ media_octets (cond flushed [] queue)
none_queued true queue queued is = refl
none_queued false queue queued is = is

short_frame : (flushed timed : Bool) (queue : List QueueEntry) → trunk_octets timed queue ≤ 1400
    → trunk_octets timed (cond flushed [] queue) ≤ 1400
short_frame true timed queue fits = omega arith
short_frame false timed queue fits = fits

few_left : (flushed : Bool) (most number : ℕ) (queue : List QueueEntry) → call_entries number queue ≤ most
    → call_entries number (cond flushed [] queue) ≤ most
few_left true most number queue few = omega arith
few_left false most number queue few = few

-- nothing is queued
pub empty_frame : (timed : Bool) (queue : List QueueEntry) → queue ≡ [] → trunk_octets timed queue ≤ 1400
empty_frame timed queue none = subst (λ (q : List QueueEntry). trunk_octets timed q ≤ 1400) (sym none) (omega arith)

pub no_entries : (most number : ℕ) (queue : List QueueEntry) → queue ≡ [] → call_entries number queue ≤ most
no_entries most number queue none = subst (λ (q : List QueueEntry). call_entries number q ≤ most) (sym none) (omega arith)

push_octets : (timed : Bool) (queue : List QueueEntry) (e : QueueEntry) → trunk_octets timed (queue ++ e ∷ []) ≡ trunk_octets
    timed queue + head_len timed + length e.media
push_octets timed [] e = omega arith
push_octets timed (x ∷ queue) e = omega (arith, push_octets timed queue e)

push_entries : (number : ℕ) (queue : List QueueEntry) (e : QueueEntry) → call_entries number (queue ++ e ∷ []) ≡ call_entries
    number queue + (if e.number == number then 1 else 0)
push_entries number [] e = omega arith
push_entries number (x ∷ queue) e = omega (arith, push_entries number queue e)

-- the queue has few entries of each call, and one of the last entry's call less
few_pushed : (most number : ℕ) (queue : List QueueEntry) (e : QueueEntry) → call_entries number queue ≤ most
    → call_entries e.number queue < most → call_entries number (queue ++ e ∷ []) ≤ most
few_pushed most number queue e few less = elim (cases_Bool (e.number == number)) [
  | inl is ↦ subst (λ (n : ℕ). call_entries n (queue ++ e ∷ []) ≤ most) (eqb-true e.number number is)
      (omega (
        arith,
        push_entries e.number queue e,
        ap {B = ℕ} (λ (b : Bool). if b then 1 else 0) (eq-eqb e.number e.number
            refl),
        less,
      ))
  | inr is ↦ omega (arith, push_entries number queue e, ap {B = ℕ} (λ (b : Bool). if b then 1 else 0) is, few)
]

-- one entry more is queued, for which the frame has room
pub kept_queued : (peer : PeerView) (queue : List QueueEntry) (since : ℕ) (accounts : Accounts) (e : QueueEntry) → IsKept peer
    → queue ≡ peer.queue ++ e ∷ [] → media_octets queue ≡ media_octets peer.queue + length e.media
    → accounts.queued ≡ peer.accounts.queued + length e.media
    → (waits peer.rules ≡ true → trunk_octets peer.rules.trunk_timestamps peer.queue + head_len peer.rules.trunk_timestamps
    + length e.media ≤ 1400)
    → (waits peer.rules ≡ true → call_entries e.number peer.queue < most_entries peer.rules.trunk_timestamps)
    → IsKept (record peer { queue = queue; since = since; accounts = accounts })
kept_queued peer queue since accounts e kept more counted queued room fewer = record {
  rules = kept.rules;
  ruled = kept.ruled;
  queued = omega (arith, queued, counted, kept.queued);
  one_frame = λ waiting.
      subst (λ (q : List QueueEntry). trunk_octets peer.rules.trunk_timestamps q ≤ 1400) (sym more)
      (omega (arith, push_octets peer.rules.trunk_timestamps peer.queue e, room waiting));
  few_of_call = λ waiting number.
      subst (λ (q : List QueueEntry). call_entries number q ≤ most_entries peer.rules.trunk_timestamps) (sym more)
      (few_pushed (most_entries peer.rules.trunk_timestamps) number peer.queue e (kept.few_of_call waiting number) (fewer
      waiting));
}

-- .. and the queue was sent
pub kept_after : (peer : PeerView) (goes : Bool) (legs : PeerLegs) (outbox : OutboxView) (queue : List QueueEntry)
    (accounts : Accounts) → IsKept peer
    → ((rules : PeerRules) → AreLegsOf rules peer.legs → AreLegsOf rules legs)
    → queue ≡ queue_after goes peer.queue → accounts ≡ accounts_after goes peer.queue peer.accounts
    → IsKept (record peer { legs = legs; outbox = outbox; queue = queue; accounts = accounts })
kept_after peer goes legs outbox queue accounts kept ruled queue_is accounts_are = record {
  rules = kept.rules;
  ruled = ruled peer.rules kept.ruled;
  queued = ap (λ (a : Accounts). a.queued) accounts_are ∙ none_queued (flushes goes peer.queue) peer.queue peer.accounts.queued
      kept.queued ∙ ap media_octets (sym queue_is);
  one_frame = λ waiting.
      subst (λ (q : List QueueEntry). trunk_octets peer.rules.trunk_timestamps q ≤ 1400) (sym queue_is)
      (short_frame (flushes goes peer.queue) peer.rules.trunk_timestamps peer.queue (kept.one_frame waiting));
  few_of_call = λ waiting number.
      subst (λ (q : List QueueEntry). call_entries number q ≤ most_entries peer.rules.trunk_timestamps) (sym queue_is)
      (few_left (flushes goes peer.queue) (most_entries peer.rules.trunk_timestamps) number peer.queue
      (kept.few_of_call waiting number));
}
