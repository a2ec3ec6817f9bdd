-- The trunk frames that go ahead of a leg's frames, or at a tick.
use Rattle.std.specs.Prelude.{nat_lt}
use Rattle.std.proofs.Common.{◌≡◌, ◌<◌, ℕ, ◌+◌, ◌&&◌, Bool, true, false, cond, inl, inr, List, [], ◌∷◌, ◌++◌, Option, None}
use Rattle.std.proofs.Common.{Some, length, ap, sym, refl, subst}
use Rattle.std.proofs.lemmas.Bool.{cases_Bool, ltb-true}
use Rattle.std.proofs.lemmas.List.{append-nil}
use Rattle.outbox.specs.Outbox.{OutboxView, put, extended}
use Rattle.outbox.proofs.Puts.{put_both, put_fits}
use Rattle.peer_lock.specs.Peer.{PeerView}
use Rattle.laws_of_peers.specs.Sides.{IsQueued}
use Rattle.peer_lock.specs.Ticks.{Packs}
use Rattle.peer_lock.specs.Trunks.{has_any}
use Rattle.peer_lock.specs.Trunks.{is_due}
use Rattle.trunk_packer.specs.Queue.{trunk_spelling}

-- ---- ahead of a leg's frames

abbrev whole : PeerView → List ℕ
whole peer = trunk_spelling peer.rules.trunk_timestamps peer.since peer.queue

-- the queued media if it is sent, and these datagrams
pub record Ahead (peer : PeerView) (outbox : OutboxView) (datagrams : List (List ℕ)) : Type 0 where
  pub ahead : List (List ℕ)
  pub queued : IsQueued peer ahead
  pub is : outbox ≡ put peer.outbox (ahead ++ datagrams)

pub ahead_of : (peer : PeerView) (flushed : Bool) (datagrams : List (List ℕ))
    → Ahead peer (put (cond flushed (put peer.outbox (whole peer ∷ [])) peer.outbox) datagrams) datagrams
ahead_of peer true datagrams = record {
  ahead = whole peer ∷ [];
  queued = inr refl;
  is = put_both peer.outbox (whole peer ∷ [])
      datagrams;
}
ahead_of peer false datagrams = record { ahead = []; queued = inl refl; is = refl }

-- .. and nothing more
pub alone_of : (peer : PeerView) (flushed : Bool)
    → Ahead peer (cond flushed (put (put peer.outbox []) (whole peer ∷ [])) (put peer.outbox [])) []
alone_of peer true = record { ahead = whole peer ∷ []; queued = inr refl; is = put_both peer.outbox [] (whole peer ∷ []) }
alone_of peer false = record { ahead = []; queued = inl refl; is = refl }

-- ---- at a tick

pub packs_legs : (wait : Option ℕ) (old : PeerView) (now octets : ℕ) (new : PeerView) → Packs wait old now octets new
    → new.legs ≡ old.legs
packs_legs None old now octets new packs = ap (λ (p : PeerView). p.legs) packs.rest
packs_legs (Some wait) old now octets new packs = ap (λ (p : PeerView). p.legs) packs.rest

-- the outbox has further trunk frames
pub record More (old new : OutboxView) : Type 0 where
  pub trunks : List (List ℕ)
  pub is : new ≡ extended old trunks

none_more : (old : OutboxView) → More old old
none_more old = record { trunks = []; is = λ i. record old { waiting = sym (append-nil old.waiting) i } }

fitting : (any : Bool) (outbox : OutboxView) (out : List ℕ) → length outbox.waiting < 256
    → More outbox (cond any (put outbox (out ∷ [])) outbox)
fitting true outbox out room = record { trunks = out ∷ []; is = sym (put_fits outbox out room) }
fitting false outbox out room = none_more outbox

due_more : (due any : Bool) (outbox : OutboxView) (out : List ℕ)
    → More outbox (cond ((due && nat_lt (length outbox.waiting) 256) && any) (put outbox (out ∷ [])) outbox)
due_more false any outbox out = none_more outbox
due_more true any outbox out = elim (cases_Bool (nat_lt (length outbox.waiting) 256)) [
  | inl e ↦ rw e (fitting any outbox out (ltb-true (length outbox.waiting) 256 e))
  | inr e ↦ rw e (none_more outbox)
]

pub packs_more : (wait : Option ℕ) (old : PeerView) (now octets : ℕ) (new : PeerView) → Packs wait old now octets new
    → More old.outbox new.outbox
packs_more None old now octets new packs = record { trunks = packs.datagrams; is = ap (λ (p : PeerView). p.outbox) packs.rest }
packs_more (Some wait) old now octets new packs =
    subst (More old.outbox) (sym (ap (λ (p : PeerView). p.outbox) packs.rest)) (due_more (is_due old.rules.trunk_ms old.since now)
    (has_any old.queue) old.outbox (whole old))
