-- Trunk frames that are packed one after another.
use Rattle.std.proofs.Common.{◌≡◌, ◌≤◌, ◌<◌, ℕ, ◌+◌, Bool, List, [], ◌∷◌, ◌++◌, length, ap, sym, refl, subst, ◌∙◌, arith}
use Rattle.std.proofs.Math.Nat.{add_assoc}
use Rattle.std.proofs.lemmas.List.{append_assoc, append-nil}
use Rattle.outbox.specs.Outbox.{OutboxView}
use Rattle.peer_accounts.specs.Accounts.{Accounts}
use Rattle.peer_lock.specs.Peer.{PeerView}
use Rattle.peer_lock.specs.SoundPeer.{IsKept}
use Rattle.peer_lock.specs.Trunks.{most_entries}
use Rattle.peer_lock.specs.Ticks.{PacksFronts, PacksOne, PacksMedia, IsPacked, with_packed}
use Rattle.trunk_packer.specs.Queue.{QueueEntry, call_entries, media_octets, trunk_octets, PacksFront}

-- one front more
fronts_more : (timed : Bool) (now : ℕ) (datagrams : List (List ℕ)) (old between new : List QueueEntry) (datagram : List ℕ)
    → PacksFronts timed now old datagrams between → PacksFront timed now between new datagram → length new < length between
    → PacksFronts timed now old (datagrams ++ datagram ∷ []) new
fronts_more timed now [] old between new datagram here front shorter = (
  new,
  subst (λ q. PacksFront timed now q new datagram) here front,
  subst (λ (q : List QueueEntry). length new < length q) here
      shorter,
  refl,
)
fronts_more timed now (first ∷ datagrams) old between new datagram here front shorter =
    (here.0, here.1, here.2, fronts_more timed now datagrams here.0 between new datagram here.3 front shorter)

-- the trunk frames packed so far
pub record ArePacked (start : PeerView) (now octets : ℕ) (peer : PeerView) : Type 0 where
  pub datagrams : List (List ℕ)
  pub fronts : PacksFronts start.rules.trunk_timestamps now start.queue datagrams peer.queue
  pub media : media_octets start.queue ≡ octets + media_octets peer.queue
  pub few : media_octets start.queue ≤ 16384
  pub rest : peer ≡ with_packed start datagrams peer.queue octets

pub none_packed : (start : PeerView) (now : ℕ) → start.accounts.queued ≡ media_octets start.queue
    → media_octets start.queue ≤ 16384 → ArePacked start now 0 start
none_packed start now queued few = record {
  datagrams = [];
  fronts = refl;
  media = omega arith;
  few = few;
  rest = λ i. record start {
    outbox = record start.outbox { waiting = (sym (append-nil start.outbox.waiting)) i };
    accounts = record start.accounts { packed = (plus start.accounts.packed) i; queued = queued i };
  };
}
  where
    plus : (n : ℕ) → n ≡ n + 0
    plus n = omega arith

more_media : (start done one left now : ℕ) → start ≡ done + left → left ≡ one + now → start ≡ done + one + now
more_media start done one left now a b = omega arith

pub one_packed : (start : PeerView) (now octets one : ℕ) (peer next : PeerView) → ArePacked start now octets peer
    → PacksOne peer now one next → ArePacked start now (octets + one) next
one_packed start now octets one peer next so step = record {
  datagrams = so.datagrams ++ step.datagram ∷ [];
  fronts = fronts_more start.rules.trunk_timestamps now so.datagrams start.queue peer.queue next.queue step.datagram so.fronts
      (subst (λ (timed : Bool). PacksFront timed now peer.queue next.queue step.datagram)
      (ap (λ (p : PeerView). p.rules.trunk_timestamps) so.rest) step.front)
      step.shorter;
  media = more_media (media_octets start.queue) octets one (media_octets peer.queue) (media_octets next.queue) so.media
      step.media;
  few = so.few;
  rest = step.rest ∙ ap (λ (p : PeerView). with_packed p (step.datagram ∷ []) next.queue one) so.rest
      ∙ λ i. record start {
        outbox = record start.outbox { waiting = (append_assoc start.outbox.waiting so.datagrams (step.datagram ∷ [])) i };
        queue = next.queue;
        accounts = record start.accounts {
          packed = (add_assoc start.accounts.packed octets one) i;
          queued = media_octets next.queue;
        };
      };
}

pub all_packed : (start : PeerView) (now octets : ℕ) (peer : PeerView) → ArePacked start now octets peer → IsPacked peer
    → PacksMedia start now octets peer
all_packed start now octets peer so done =
    record { datagrams = so.datagrams; fronts = so.fronts; media = so.media; rest = so.rest; done = done }

-- the rest is no longer than the whole
rest_octets : (timed : Bool) (front rest : List QueueEntry) → trunk_octets timed rest ≤ trunk_octets timed (front ++ rest)
rest_octets timed [] rest = omega arith
rest_octets timed (e ∷ front) rest = omega (arith, rest_octets timed front rest)

short_rest : (timed : Bool) (now : ℕ) (old new : List QueueEntry) (out : List ℕ) → PacksFront timed now old new out
    → trunk_octets timed old ≤ 1400 → trunk_octets timed new ≤ 1400
short_rest timed now old new out packs short =
    let whole : trunk_octets timed old ≡ trunk_octets timed (packs.front ++ new) = ap (trunk_octets timed) packs.whole in
    omega (arith, rest_octets timed packs.front new, whole, short)

-- nor has it more entries of a call
rest_entries : (number : ℕ) (front rest : List QueueEntry) → call_entries number rest ≤ call_entries number (front ++ rest)
rest_entries number [] rest = omega arith
rest_entries number (e ∷ front) rest = omega (arith, rest_entries number front rest)

few_rest : (timed : Bool) (now most number : ℕ) (old new : List QueueEntry) (out : List ℕ) → PacksFront timed now old new out
    → call_entries number old ≤ most → call_entries number new ≤ most
few_rest timed now most number old new out packs few =
    let whole : call_entries number old ≡ call_entries number (packs.front ++ new) = ap (call_entries number) packs.whole in
    omega (arith, rest_entries number packs.front new, whole, few)

pub packed_kept : (peer : PeerView) (now octets : ℕ) (out : List ℕ) (outbox : OutboxView) (queue : List QueueEntry)
    (accounts : Accounts) → IsKept peer
    → PacksFront peer.rules.trunk_timestamps now peer.queue queue out → media_octets peer.queue ≡ octets + media_octets queue
    → accounts.queued + octets ≡ peer.accounts.queued
    → IsKept (record peer { outbox = outbox; queue = queue; accounts = accounts })
packed_kept peer now octets out outbox queue accounts kept packs media queued = record {
  rules = kept.rules;
  ruled = kept.ruled;
  queued = omega (arith, media, queued, kept.queued);
  one_frame = λ waiting. short_rest peer.rules.trunk_timestamps now peer.queue queue out packs (kept.one_frame waiting);
  few_of_call = λ waiting number. few_rest peer.rules.trunk_timestamps now (most_entries peer.rules.trunk_timestamps) number
      peer.queue queue out packs (kept.few_of_call waiting number);
}
