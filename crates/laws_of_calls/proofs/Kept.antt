-- A property of each stored peer stays, if its place in the plan and its local numbers imply it.
use Rattle.std.proofs.Common.{◌≡◌, ℕ, List, Some, None, Bool, true, false, slice_get, slice_set, refl, sym, ap, subst, ◌∙◌, inl}
use Rattle.std.proofs.Common.{inr}
use Rattle.std.specs.Prelude.{Result, Ok, Err}
use Rattle.call_book.specs.Book.{Book, after_bridge, after_release, bridge_answer, free_of, has_name, reserve_answer, tail}
use Rattle.call_book.specs.Book.{taken}
use Rattle.call_book.specs.declared.errors.BridgeError.{BridgeError}
use Rattle.call_book.specs.declared.errors.ReserveError.{ReserveError}
use Rattle.call_book.specs.declared.leg_name.LegName.{LegName}
use Rattle.call_control.specs.declared.need.Need.{Need}
use Rattle.call_control.specs.declared.need.Need.TheVariants as needs
use Rattle.call_control.specs.declared.reply.Reply.{Reply}
use Rattle.peer_lock.specs.Outbox.{OutboxView, with_waiting}
use Rattle.peer_lock.specs.Legs.{leg_named}
use Rattle.peer_lock.specs.Openings.{opens_in, opens_out, rejects_new}
use Rattle.peer_lock.specs.Peer.{PeerView}
use Rattle.peer_lock.specs.SoundPeer.{IsSoundPeer}
use Rattle.laws_of_calls.specs.Runs.{Becomes, Changes, ByBeginning, ByDraining, ByStep, ByTakingOut}
use Rattle.laws_of_calls.specs.Stored.{Stored, IsPeerAt, ArePeers, HasRange, HaveRanges}
use Rattle.laws_of_calls.specs.StoredSteps.{TakesDatagram, RejectsNew, TakesNew, SendsNew}
use Rattle.laws_of_calls.specs.StoredSteps.{TakesOrder, TakesTick, GivesUp, AtPeer, Makes}
use Rattle.laws_of_calls.proofs.Places.{at_set}
use Rattle.laws_of_calls.proofs.Shapes.{IsShapedAs, itself, placed, of_datagram, of_order, of_tick}

-- each peer satisfies P
abbrev pub EachPeer : (ℕ → PeerView → Type 0) → List PeerView → Type 0
EachPeer P peers = (place : ℕ) (peer : PeerView) → slice_get peers place ≡ Some peer → P place peer

-- .. as long as its place and its numbers stay
abbrev pub IsOfShape : (ℕ → PeerView → Type 0) → Type 0
IsOfShape P =
    (place : ℕ) (before after : PeerView) → IsShapedAs before.legs after.legs → IsSoundPeer after → P place before → P place after

becomes : (before after left : PeerView) → after ≡ left → IsShapedAs before.legs left.legs → IsShapedAs before.legs after.legs
becomes before after left is shaped = subst (λ (p : PeerView). IsShapedAs before.legs p.legs) (sym is) shaped

datagram : (before after : PeerView) (reply : Reply) → TakesDatagram before after reply → IsShapedAs before.legs after.legs
datagram before after reply d = becomes before after _ d.becomes (of_datagram d.first before d.datagram d.now)

no_new : (before after : PeerView) (reply : Reply) → RejectsNew before after reply → IsShapedAs before.legs after.legs
no_new before after reply d = becomes before after (rejects_new before d.frame).peer d.becomes (itself before.legs)

new_in : (name : LegName) (before after : PeerView) (reply : Reply) → TakesNew name before after reply
    → IsShapedAs before.legs after.legs
new_in name before after reply d =
    becomes before after (opens_in before name d.frame d.now d.challenge).peer d.becomes (placed before.legs name.number _)

new_out : (name : LegName) (before after : PeerView) (reply : Reply) → SendsNew name before after reply
    → IsShapedAs before.legs after.legs
new_out name before after reply d =
    becomes before after (opens_out before name d.called d.caller d.format d.now).peer d.becomes
    (placed before.legs name.number _)

module _ (P : ℕ → PeerView → Type 0) (stays : IsOfShape P) where
  kept_set : (peers : List PeerView) (place : ℕ) (before after : PeerView) → EachPeer P peers
      → slice_get peers place ≡ Some before
      → IsShapedAs before.legs after.legs
      → IsSoundPeer after → EachPeer P (slice_set peers place after)
  kept_set peers place before after all at shaped sound other peer there =
      elim (at_set peers place before after at other peer there) [
        | inl here ↦
            subst (λ (p : PeerView). P other p) here.1
            (subst (λ (n : ℕ). P n after) (sym here.0) (stays place before after shaped sound (all place before at)))
        | inr apart ↦ all other peer apart.1
      ]

  at_peer : (old new : Stored) (reply : Reply) (place : ℕ) (Does : PeerView → PeerView → Reply → Type 0)
      → ((before after : PeerView) (reply : Reply) → Does before after reply → IsShapedAs before.legs after.legs)
      → EachPeer P old.peers → AtPeer place Does old new reply
      → EachPeer P new.peers
  at_peer old new reply place Does shaped all a =
      subst (EachPeer P) (sym a.peers) (kept_set old.peers place a.before a.after all a.at (shaped a.before a.after reply a.does)
      a.sound)

  same : (old new : Stored) → new.peers ≡ old.peers → EachPeer P old.peers → EachPeer P new.peers
  same old new is all = subst (EachPeer P) (sym is) all

  made : (need : Need) (old new : Stored) (reply : Reply) → EachPeer P old.peers → Makes need old new reply → EachPeer P new.peers
  made (needs.Datagram place) old new reply all (inl a) = at_peer old new reply place TakesDatagram datagram all a
  made (needs.Datagram place) old new reply all (inr r) = same old new r.unchanged.peers all
  made (needs.RejectNew place) old new reply all (inl a) = at_peer old new reply place RejectsNew no_new all a
  made (needs.RejectNew place) old new reply all (inr r) = same old new r.unchanged.peers all
  made (needs.OpenIn name) old new reply all (inl a) = at_peer old new reply name.peer (TakesNew name) (new_in name) all a
  made (needs.OpenIn name) old new reply all (inr r) = same old new r.unchanged.peers all
  made (needs.OpenOut name) old new reply all (inl a) = at_peer old new reply name.peer (SendsNew name) (new_out name) all a
  made (needs.OpenOut name) old new reply all (inr r) = same old new r.unchanged.peers all
  made (needs.Order name command) old new reply all (inl a) =
      at_peer old new reply name.peer (TakesOrder name command) (λ before after r does. elim does [
        | inl d ↦ becomes before after _ d.becomes (of_order before (leg_named before.legs name) d.order d.now)
        | inr d ↦ becomes before after before d.becomes (itself before.legs)
      ]) all a
  made (needs.Order name command) old new reply all (inr n) = same old new n.unchanged.peers all
  made (needs.Tick place) old new reply all (inl a) =
      at_peer old new reply place TakesTick (λ before after r d. of_tick before after d.now d.report d.ticks) all a
  made (needs.Tick place) old new reply all (inr r) = same old new r.unchanged.peers all
  made (needs.Look place number) old new reply all m = same old new m.peers all
  made (needs.Retire name) old new reply all (inl a) =
      at_peer old new reply name.peer (GivesUp name)
      (λ before after r d. becomes before after _ d.becomes (placed before.legs name.number None)) all a
  made (needs.Retire name) old new reply all (inr m) = same old new m.peers all
  made (needs.Reserve peer) old new reply all m = same old new m.peers all
  made (needs.Bridge a b) old new reply all m = same old new m.peers all
  made (needs.Partner name) old new reply all m = same old new m.peers all
  made (needs.Release name) old new reply all m = same old new m.peers all
  made (needs.Route name) old new reply all m = same old new m.1.peers all

  -- a peer is sound whatever waits in its outbox, and whether or not it drains
  sound_still : (peer : PeerView) (outbox : OutboxView) (drains : Bool) → IsSoundPeer peer
      → IsSoundPeer (record peer { outbox = outbox; drains = drains })
  sound_still peer outbox drains sound = record {
    legs = sound.legs;
    kept = record {
      rules = sound.kept.rules;
      ruled = sound.kept.ruled;
      queued = sound.kept.queued;
      one_frame = sound.kept.one_frame;
      few_of_call = sound.kept.few_of_call;
    };
  }

  becomes_kept : (old new : Stored) (place : ℕ) (before after : PeerView) → EachPeer P old.peers
      → IsShapedAs before.legs after.legs → IsSoundPeer after → Becomes place before after old new → EachPeer P new.peers
  becomes_kept old new place before after all shaped sound b =
      subst (EachPeer P) (sym b.peers) (kept_set old.peers place before after all b.at shaped sound)

  pub all_kept : (old new : Stored) → ArePeers old.peers → EachPeer P old.peers → Changes old new → EachPeer P new.peers
  all_kept old new are all (ByBeginning b) = same old new b.peers all
  all_kept old new are all (ByStep s) = made s.need old new s.reply all s.made
  all_kept old new are all (ByTakingOut t) =
      becomes_kept old new t.place t.before (record t.before { outbox = with_waiting t.before.outbox t.waiting }) all
      (itself t.before.legs)
      (sound_still t.before (with_waiting t.before.outbox t.waiting) t.before.drains (are t.place t.before t.becomes.at).sound)
      t.becomes
  all_kept old new are all (ByDraining d) =
      becomes_kept old new d.place d.before (record d.before { drains = d.drains }) all (itself d.before.legs)
      (sound_still d.before d.before.outbox d.drains (are d.place d.before d.becomes.at).sound) d.becomes

pub peers_kept : (old new : Stored) → ArePeers old.peers → Changes old new → ArePeers new.peers
peers_kept old new are change =
    all_kept IsPeerAt (λ place before after shaped sound is. record { place_is = shaped.peer ∙ is.place_is; sound = sound }) old
    new are are change

-- ---- the book's numbers

reserved_counts : (book : Book) (r : Result LegName ReserveError) (rest : List ℕ) → (taken book r rest).counts ≡ book.counts
reserved_counts book (Ok name) rest = refl
reserved_counts book (Err error) rest = refl

bridged_counts : (book : Book) (a b : LegName) (r : Result (Unit {0}) BridgeError)
    → (after_bridge book a b r).counts ≡ book.counts
bridged_counts book a b (Ok done) = refl
bridged_counts book a b (Err error) = refl

released_counts : (book : Book) (name : LegName) (known : Bool) → (after_release book name known).counts ≡ book.counts
released_counts book name true = refl
released_counts book name false = refl

counts_made : (need : Need) (old new : Stored) (reply : Reply) → Makes need old new reply → new.book.counts ≡ old.book.counts
counts_made (needs.Datagram place) old new reply (inl a) = ap (λ (b : Book). b.counts) a.book
counts_made (needs.Datagram place) old new reply (inr r) = ap (λ (b : Book). b.counts) r.unchanged.becomes
counts_made (needs.RejectNew place) old new reply (inl a) = ap (λ (b : Book). b.counts) a.book
counts_made (needs.RejectNew place) old new reply (inr r) = ap (λ (b : Book). b.counts) r.unchanged.becomes
counts_made (needs.OpenIn name) old new reply (inl a) = ap (λ (b : Book). b.counts) a.book
counts_made (needs.OpenIn name) old new reply (inr r) = ap (λ (b : Book). b.counts) r.unchanged.becomes
counts_made (needs.OpenOut name) old new reply (inl a) = ap (λ (b : Book). b.counts) a.book
counts_made (needs.OpenOut name) old new reply (inr r) = ap (λ (b : Book). b.counts) r.unchanged.becomes
counts_made (needs.Order name command) old new reply (inl a) = ap (λ (b : Book). b.counts) a.book
counts_made (needs.Order name command) old new reply (inr n) = ap (λ (b : Book). b.counts) n.unchanged.becomes
counts_made (needs.Tick place) old new reply (inl a) = ap (λ (b : Book). b.counts) a.book
counts_made (needs.Tick place) old new reply (inr r) = ap (λ (b : Book). b.counts) r.unchanged.becomes
counts_made (needs.Look place number) old new reply m = ap (λ (b : Book). b.counts) m.becomes
counts_made (needs.Retire name) old new reply (inl a) = ap (λ (b : Book). b.counts) a.book
counts_made (needs.Retire name) old new reply (inr m) = ap (λ (b : Book). b.counts) m.becomes
counts_made (needs.Reserve peer) old new reply m =
    ap (λ (b : Book). b.counts) m.becomes ∙ reserved_counts old.book (reserve_answer old.book peer) (tail (free_of old.book peer))
counts_made (needs.Bridge a b) old new reply m =
    ap (λ (k : Book). k.counts) m.becomes ∙ bridged_counts old.book a b (bridge_answer old.book a b)
counts_made (needs.Partner name) old new reply m = ap (λ (b : Book). b.counts) m.becomes
counts_made (needs.Release name) old new reply m =
    ap (λ (b : Book). b.counts) m.becomes ∙ released_counts old.book name (has_name old.book name)
counts_made (needs.Route name) old new reply m = ap (λ (b : Book). b.counts) m.1.becomes

counts_kept : (old new : Stored) → Changes old new → new.book.counts ≡ old.book.counts
counts_kept old new (ByBeginning b) = ap (λ (k : Book). k.counts) b.book
counts_kept old new (ByStep s) = counts_made s.need old new s.reply s.made
counts_kept old new (ByTakingOut t) = ap (λ (k : Book). k.counts) t.becomes.book
counts_kept old new (ByDraining d) = ap (λ (k : Book). k.counts) d.becomes.book

pub ranges_kept : (old new : Stored) → ArePeers old.peers → HaveRanges old → Changes old new → HaveRanges new
ranges_kept old new are ranges change =
    subst (λ (counts : List ℕ). EachPeer (HasRange counts) new.peers) (sym (counts_kept old new change))
    (all_kept (HasRange old.book.counts)
    (λ place before after shaped sound is. record { first = shaped.first ∙ is.first; count = shaped.count ∙ is.count })
    old new are ranges change)
