-- What the parts of a peer's step carry on: the queue that is sent, and datagrams that are put into the outbox.
use Rattle.std.specs.Prelude.{map}
use Rattle.std.specs.List.{AllByRecursion}
use Rattle.std.proofs.Common.{ℕ, ◌≡◌, ◌&&◌, inl, inr, ◌+◌, Bool, true, false, List, [], ◌∷◌, ◌++◌, drop, ap, sym}
use Rattle.std.proofs.Common.{subst, refl}
use Rattle.std.proofs.Common.{◌∙◌, arith}
use Rattle.std.proofs.lemmas.List.{append-nil}
use Rattle.iax_frames.specs.FullFrame.{FullFrame, spelling}
use Rattle.outbox.specs.Outbox.{put}
use Rattle.peer_accounts.specs.Accounts.{Accounts}
use Rattle.peer_legs.specs.Legs.{PeerLegs}
use Rattle.laws_of_peers.specs.CarriedOn.{CarriedOn, CarriesNoMedia, CarriesOn, CarriesOrder, Full, IsOutgoing, KeepsOrder}
use Rattle.laws_of_peers.specs.CarriedOn.{Outgoing}
use Rattle.laws_of_peers.specs.CarriedOn.{GoesAhead, Piece, pieces_of, queued_of, sent_of}
use Rattle.laws_of_peers.specs.CarriedOn.{Trunk, entries_in, followed_by, nothing, octets_of, ordered_in}
use Rattle.peer_lock.specs.Peer.{PeerView, flushed_if, with_sent}
use Rattle.peer_lock.specs.Trunks.{goes_ahead, has_any}
use Rattle.peer_lock.specs.declared.pokes.Pokes.{Pokes}
use Rattle.laws_of_peers.proofs.Orderly.{keeps_none, keeps_then, ordered_both, without_cut}
use Rattle.trunk_packer.specs.Queue.{QueueEntry}

-- ---- one after another

no_media_both : (one other : CarriedOn) → CarriesNoMedia one → CarriesNoMedia other → CarriesNoMedia (followed_by one other)
no_media_both one other first second = record {
  kept = λ i. first.kept i ++ second.kept i;
  queued = λ i. first.queued i ++ second.queued i;
  put = ordered_both one.put other.put ∙ (λ i. first.put i ++ second.put i);
  dropped = λ i. first.dropped i + second.dropped i;
}

pub carries_then : (old mid new : PeerView) → CarriesOn old mid → CarriesOn mid new → CarriesOn old new
carries_then old mid new first second = record {
  carried = followed_by first.carried second.carried;
  order = keeps_then first.carried second.carried old mid new first.order second.order;
  none_taken = λ i. first.none_taken i ++ second.none_taken i;
  no_media = no_media_both first.carried second.carried first.no_media second.no_media;
}

pub carries_order_then : (number : ℕ) (media : List ℕ) (old mid new : PeerView) → CarriesOn old mid
    → CarriesOrder number media mid new
    → CarriesOrder number media old new
carries_order_then number media old mid new first second = record {
  carried = followed_by first.carried second.carried;
  order = keeps_then first.carried second.carried old mid new first.order second.order;
  none_taken = λ i. first.none_taken i ++ second.none_taken i;
  goes = record {
    way = second.goes.way;
    whole = second.goes.whole;
    kept = (λ i. first.no_media.kept i ++ second.carried.kept) ∙ second.goes.kept;
    queued = (λ i. first.no_media.queued i ++ second.carried.queued) ∙ second.goes.queued;
    put = ordered_both first.carried.put second.carried.put ∙ (λ i. first.no_media.put i ++ ordered_in second.carried.put)
        ∙ second.goes.put;
    dropped = omega (arith, first.no_media.dropped, second.goes.dropped);
  };
}

-- legs, POKEs and the other accounts have no part
pub keeps_too : (carried : CarriedOn) (old new : PeerView) (legs : PeerLegs) (pokes : Pokes) (accounts : Accounts)
    → accounts.dropped ≡ new.accounts.dropped → KeepsOrder carried old new
    → KeepsOrder carried old (record new { legs = legs; pokes = pokes; accounts = accounts })
keeps_too carried old new legs pokes accounts same keeps = record {
  rules = keeps.rules;
  queue = keeps.queue;
  outbox = keeps.outbox;
  lost = keeps.lost;
  dropped = same ∙ keeps.dropped;
  outgoing = keeps.outgoing;
  in_turn = keeps.in_turn;
  ahead = keeps.ahead;
}

pub carries_too : (old new : PeerView) (legs : PeerLegs) (pokes : Pokes) (accounts : Accounts)
    → accounts.dropped ≡ new.accounts.dropped
    → CarriesOn old new → CarriesOn old (record new { legs = legs; pokes = pokes; accounts = accounts })
carries_too old new legs pokes accounts same carries = record {
  carried = carries.carried;
  order = keeps_too carries.carried old new legs pokes accounts same carries.order;
  none_taken = carries.none_taken;
  no_media = carries.no_media;
}

pub carries_order_too : (number : ℕ) (media : List ℕ) (old new : PeerView) (legs : PeerLegs) (pokes : Pokes) (accounts : Accounts)
    → accounts.dropped ≡ new.accounts.dropped → CarriesOrder number media old new
    → CarriesOrder number media old (record new { legs = legs; pokes = pokes; accounts = accounts })
carries_order_too number media old new legs pokes accounts same carries = record {
  carried = carries.carried;
  order = keeps_too carries.carried old new legs pokes accounts same carries.order;
  none_taken = carries.none_taken;
  goes = carries.goes;
}

pub carries_none : (peer : PeerView) → CarriesOn peer peer
carries_none peer = record {
  carried = nothing;
  order = keeps_none peer;
  none_taken = refl;
  no_media = record { kept = refl; queued = refl; put = refl; dropped = refl };
}

-- ---- into the outbox

abbrev pub putting : PeerView → List Piece → List Outgoing → CarriedOn
putting peer kept outs = record nothing {
  kept = kept;
  put = outs;
  lost = drop 256 (peer.outbox.waiting ++ map (octets_of peer.rules.trunk_timestamps) outs);
}

pub put_keeps : (peer : PeerView) (kept : List Piece) (outs : List Outgoing) → entries_in outs ≡ []
    → AllByRecursion IsOutgoing outs
    → (GoesAhead peer → (number : ℕ) → queued_of number peer.queue ++ pieces_of number kept ≡ sent_of number outs ++ queued_of
    number peer.queue)
    → KeepsOrder (putting peer kept outs) peer
    (record peer { outbox = put peer.outbox (map (octets_of peer.rules.trunk_timestamps) outs) })
put_keeps peer kept outs none outgoing turn = record {
  rules = refl;
  queue = append-nil peer.queue ∙ (λ i. sym none i ++ peer.queue);
  outbox = without_cut 256 (peer.outbox.waiting ++ map (octets_of peer.rules.trunk_timestamps) outs);
  lost = refl;
  dropped = omega arith;
  outgoing = outgoing;
  in_turn = turn;
  ahead = λ goes. goes;
}

-- full frames without new media
abbrev pub IsOld : FullFrame → Type 0
IsOld frame = IsOutgoing (Full frame)

abbrev fulls : List FullFrame → List Outgoing
fulls [] = []
fulls (frame ∷ frames) = Full frame ∷ fulls frames

fulls_spelled : (timed : Bool) (frames : List FullFrame) → map (octets_of timed) (fulls frames) ≡ map spelling frames
fulls_spelled timed [] = refl
fulls_spelled timed (frame ∷ frames) = ap (λ (l : List (List ℕ)). spelling frame ∷ l) (fulls_spelled timed frames)

fulls_bear_none : (frames : List FullFrame) → entries_in (fulls frames) ≡ []
fulls_bear_none [] = refl
fulls_bear_none (frame ∷ frames) = fulls_bear_none frames

fulls_ordered : (frames : List FullFrame) → ordered_in (fulls frames) ≡ []
fulls_ordered [] = refl
fulls_ordered (frame ∷ frames) = fulls_ordered frames

fulls_send_none : (number : ℕ) (frames : List FullFrame) → sent_of number (fulls frames) ≡ []
fulls_send_none number [] = refl
fulls_send_none number (frame ∷ frames) = fulls_send_none number frames

fulls_outgoing : (frames : List FullFrame) → AllByRecursion IsOld frames → AllByRecursion IsOutgoing (fulls frames)
fulls_outgoing [] old = tt
fulls_outgoing (frame ∷ frames) old = (old.0, fulls_outgoing frames old.1)

pub put_carries : (peer : PeerView) (frames : List FullFrame) → AllByRecursion IsOld frames
    → CarriesOn peer (record peer { outbox = put peer.outbox (map spelling frames) })
put_carries peer frames old =
    subst (λ (datagrams : List (List ℕ)). CarriesOn peer (record peer { outbox = put peer.outbox datagrams }))
    (fulls_spelled peer.rules.trunk_timestamps frames) (record {
      carried = putting peer [] (fulls frames);
      order = put_keeps peer [] (fulls frames) (fulls_bear_none frames) (fulls_outgoing frames old) (λ goes number.
          append-nil (queued_of number peer.queue)
          ∙ ap (λ (l : List (List ℕ)). l ++ queued_of number peer.queue) (sym (fulls_send_none number frames)));
      none_taken = refl;
      no_media = record { kept = refl; queued = refl; put = fulls_ordered frames; dropped = refl };
    })

-- ---- the queue is sent

trunk_carries : (peer : PeerView) (entry : QueueEntry) (queue : List QueueEntry)
    → CarriesOn (record peer { queue = entry ∷ queue }) (flushed_if true (record peer { queue = entry ∷ queue }))
trunk_carries peer entry queue =
    let outs : List Outgoing = Trunk peer.since (entry ∷ queue) ∷ [] in record {
      carried = putting peer [] outs;
      order = record {
        rules = refl;
        queue = sym (append-nil ((entry ∷ queue) ++ []));
        outbox = without_cut 256 (peer.outbox.waiting ++ map (octets_of peer.rules.trunk_timestamps) outs);
        lost = refl;
        dropped = omega arith;
        outgoing = ((λ is. cc), tt);
        in_turn = λ goes number. sym (append-nil (queued_of number (entry ∷ queue) ++ []));
        ahead = λ goes. elim goes [
          | inl waiting ↦ inl waiting
          | inr none ↦ let never = none.1 in absurd cc
        ];
      };
      none_taken = refl;
      no_media = record { kept = refl; queued = refl; put = refl; dropped = refl };
    }

flush_by : (goes : Bool) (peer : PeerView) (queue : List QueueEntry)
    → CarriesOn (record peer { queue = queue }) (flushed_if goes (record peer { queue = queue }))
flush_by false peer queue = carries_none (record peer { queue = queue })
flush_by true peer [] = carries_none (record peer { queue = [] })
flush_by true peer (entry ∷ queue) = trunk_carries peer entry queue

pub flush_carries : (goes : Bool) (peer : PeerView) → CarriesOn peer (flushed_if goes peer)
flush_carries goes peer = flush_by goes peer peer.queue

pub sent_carries : (peer : PeerView) (number : ℕ) (frames : List FullFrame) → AllByRecursion IsOld frames
    → CarriesOn peer (with_sent peer number (map spelling frames))
sent_carries peer number frames old =
    let goes = has_any (map spelling frames) && goes_ahead peer.rules peer.queue number in
    carries_then peer (flushed_if goes peer) (with_sent peer number (map spelling frames)) (flush_carries goes peer)
    (put_carries (flushed_if goes peer) frames old)
