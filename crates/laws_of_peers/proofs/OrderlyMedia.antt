-- The media of an order goes one way.
use Rattle.std.specs.Prelude.{map, ◌||◌}
use Rattle.std.proofs.Common.{ℕ, cond, ◌==◌, inl, inr, ◌≡◌, ◌&&◌, ◌+◌, Bool, true, false, List, [], ◌∷◌, ◌++◌, length, ap}
use Rattle.std.proofs.Common.{sym, subst, refl, ◌∙◌}
use Rattle.std.proofs.Common.{arith}
use Rattle.std.proofs.lemmas.Bool.{cases_Bool, eqb-true}
use Rattle.std.proofs.lemmas.List.{append-nil}
use Rattle.iax_frames.specs.FullFrame.{FullFrame, spelling}
use Rattle.leg_machine.specs.Media.{media_frames}
use Rattle.leg_machine.specs.Replies.{next_byte, outgoing, voice_frame}
use Rattle.leg_machine.specs.declared.media.MediaSent.{MediaSent}
use Rattle.leg_machine.specs.declared.media.MediaSent.TheVariants as sent
use Rattle.peer_accounts.specs.Accounts.{carry_to}
use Rattle.peer_accounts.specs.declared.account.Carried.{Carried}
use Rattle.peer_accounts.specs.declared.account.Carried.TheVariants.{Packed, Queued, Dropped, Quelched}
use Rattle.peer_legs.specs.Legs.{NamedLeg}
use Rattle.laws_of_peers.specs.CarriedOn.{CarriesOrder, Drops, Mini, Outgoing, Queues, SendsMini, SendsVoice, Voice}
use Rattle.laws_of_peers.specs.CarriedOn.{nothing, octets_of}
use Rattle.outbox.specs.Outbox.{put}
use Rattle.peer_lock.specs.Orders.{carried_media, carries_media, queued_media, short_media, waiting_media, with_entry, with_media}
use Rattle.peer_lock.specs.Peer.{PeerView, flushed_if, with_datagram, with_sent}
use Rattle.peer_lock.specs.Trunks.{begins_next, goes_ahead, has_any, is_full_for, queue_after}
use Rattle.peer_lock.proofs.Choices.{either}
use Rattle.laws_of_peers.proofs.OrderlyParts.{carries_order_then, carries_order_too, carries_too, flush_carries, put_keeps}
use Rattle.laws_of_peers.proofs.OrderlyParts.{putting}
use Rattle.laws_of_peers.proofs.OrderlyParts.{sent_carries}
use Rattle.laws_of_peers.specs.CarriedOn.{GoesAhead, Piece, pieces_of, queued_of}
use Rattle.laws_of_peers.proofs.Orderly.{queued_both}
use Rattle.trunk_packer.specs.Queue.{QueueEntry, has_call}

-- ---- turns

both_ways : (b : Bool) → b ≡ true → b ≡ false → ⊥
both_ways true is other = cc
both_ways false is other = cc

past_none : (n : ℕ) (queue : List QueueEntry) (sent : List (List ℕ)) → queued_of n queue ≡ []
    → queued_of n queue ++ sent ≡ sent ++ queued_of n queue
past_none n queue sent none =
    ap (λ (l : List (List ℕ)). l ++ sent) none ∙ sym (append-nil sent) ∙ ap (λ (l : List (List ℕ)). sent ++ l) (sym none)

voice_turn : (n number : ℕ) (queue : List QueueEntry) (media : List ℕ) → queued_of number queue ≡ []
    → queued_of n queue ++ (cond (number == n) (media ∷ []) [] ++ [])
    ≡ (cond (number == n) (media ∷ []) [] ++ []) ++ queued_of n queue
voice_turn n number queue media none = elim (cases_Bool (number == n)) [
  | inl e ↦
      let same : number ≡ n = eqb-true number n e in
      past_none n queue (cond (number == n) (media ∷ []) [] ++ [])
      (subst (λ (m : ℕ). queued_of m queue ≡ []) same none)
  | inr e ↦ rw e (append-nil (queued_of n queue))
]

-- no media of a call is left in a queue that is sent ahead of its frames
none_of : (number : ℕ) (queue : List QueueEntry) → has_call number queue ≡ false → queued_of number queue ≡ []
none_of number [] none = refl
none_of number (entry ∷ queue) none = elim (cases_Bool (entry.number == number)) [
  | inl e ↦ let never : true ≡ false = sym (ap (λ (b : Bool). b || has_call number queue) e) ∙ none in cc
  | inr e ↦
      let rest : has_call number queue ≡ false = sym (ap (λ (b : Bool). b || has_call number queue) e) ∙ none in
      rw e (none_of number queue rest)
]

none_after : (b : Bool) (number : ℕ) (queue : List QueueEntry) → has_call number queue ≡ b
    → queued_of number (queue_after b queue) ≡ []
none_after false number queue is = none_of number queue is
none_after true number [] is = refl
none_after true number (entry ∷ queue) is = refl

none_left : (peer : PeerView) (number : ℕ) → GoesAhead (flushed_if (goes_ahead peer.rules peer.queue number) peer)
    → queued_of number (flushed_if (goes_ahead peer.rules peer.queue number) peer).queue ≡ []
none_left peer number goes = elim goes [
  | inl waiting ↦
      subst (λ (b : Bool). queued_of number (queue_after (b && has_call number peer.queue) peer.queue) ≡ []) (sym waiting.0)
      (none_after (has_call number peer.queue) number peer.queue refl)
  | inr none ↦ ap (queued_of number) none.1
]

-- a choice, with the test
either_by : {A : Type 0} (P : A → Type 0) (b : Bool) (x y : A) → (b ≡ true → P x) → (b ≡ false → P y) → P (cond b x y)
either_by P true x y first second = first refl
either_by P false x y first second = second refl

-- ---- each way

-- it is dropped, quelched or not
drops_media : (how : Carried) (number : ℕ) (media : List ℕ) (peer : PeerView)
    → (carry_to peer.accounts how (length media)).dropped ≡ peer.accounts.dropped + length media
    → CarriesOrder number media peer (carried_media peer how (length media))
drops_media how number media peer counted = record {
  carried = record nothing { dropped = length media };
  order = record {
    rules = refl;
    queue = append-nil peer.queue;
    outbox = sym (append-nil peer.outbox.waiting);
    lost = refl;
    dropped = counted;
    outgoing = tt;
    in_turn = λ goes n. append-nil (queued_of n peer.queue);
    ahead = λ goes. goes;
  };
  none_taken = refl;
  goes = record { way = Drops; whole = tt; kept = refl; queued = refl; put = refl; dropped = refl };
}

-- it waits for a trunk frame
queues_media : (peer : PeerView) (number timestamp : ℕ) (media : List ℕ) (now : ℕ) → peer.rules.trunk ≡ true
    → CarriesOrder number media peer
    (carried_media (with_entry peer (record { number = number; timestamp = timestamp; media = media }) now) Queued (length media))
queues_media peer number timestamp media now trunk =
    let entry : QueueEntry = record { number = number; timestamp = timestamp; media = media } in record {
      carried = record nothing { kept = record { number = number; media = media } ∷ []; queued = entry ∷ [] };
      order = record {
        rules = refl;
        queue = refl;
        outbox = sym (append-nil peer.outbox.waiting);
        lost = refl;
        dropped = omega arith;
        outgoing = tt;
        in_turn = λ goes n. sym (queued_both n peer.queue (entry ∷ []));
        ahead = λ goes. elim goes [
          | inl waiting ↦ inl waiting
          | inr none ↦ absurd (both_ways peer.rules.trunk trunk none.0)
        ];
      };
      none_taken = refl;
      goes = record { way = Queues entry; whole = (refl, refl); kept = refl; queued = refl; put = refl; dropped = refl };
    }

-- it goes out in a mini frame
sends_mini : (peer : PeerView) (number timestamp : ℕ) (media : List ℕ) → peer.rules.trunk ≡ false
    → CarriesOrder number media peer
    (carried_media (with_datagram peer (octets_of false (Mini (record {
      number = number;
      timestamp = timestamp;
      media = media;
    }))))
    Packed (length media))
sends_mini peer number timestamp media trunk =
    let entry : QueueEntry = record { number = number; timestamp = timestamp; media = media } in
    let outs : List Outgoing = Mini entry ∷ [] in
    let kept : List Piece = record { number = number; media = media } ∷ [] in
    let keeps = put_keeps peer kept outs refl (tt, tt) (λ goes n. elim goes [
      | inl waiting ↦ absurd (both_ways peer.rules.trunk waiting.1 trunk)
      | inr none ↦ past_none n peer.queue (pieces_of n kept) (ap (queued_of n) none.1)
    ]) in record {
      carried = putting peer kept outs;
      order = record {
        rules = keeps.rules;
        queue = keeps.queue;
        outbox = keeps.outbox;
        lost = keeps.lost;
        dropped = keeps.dropped;
        outgoing = keeps.outgoing;
        in_turn = keeps.in_turn;
        ahead = keeps.ahead;
      };
      none_taken = refl;
      goes = record { way = SendsMini entry; whole = (refl, refl); kept = refl; queued = refl; put = refl; dropped = refl };
    }

-- it goes out in a voice full frame
sends_voice : (peer : PeerView) (named : NamedLeg) (media : List ℕ) (now : ℕ) → named.leg.number ≡ named.name.number
    → (GoesAhead peer → queued_of named.name.number peer.queue ≡ [])
    → CarriesOrder named.name.number media peer
    (record peer { outbox = put peer.outbox (map spelling (media_frames sent.Voice named.leg media now)) })
sends_voice peer named media now number none =
    let frame : FullFrame = outgoing named.leg false (next_byte named.leg) (voice_frame named.leg now media) in
    let kept : List Piece = record { number = named.name.number; media = media } ∷ [] in
    let outs : List Outgoing = Voice frame ∷ [] in record {
      carried = putting peer kept outs;
      order = put_keeps peer kept outs refl ((refl, refl), tt) (λ goes n.
          voice_turn n named.name.number peer.queue media (none goes)
          ∙ ap (λ (m : ℕ). (cond (m == n) (media ∷ []) [] ++ []) ++ queued_of n peer.queue) (sym number));
      none_taken = refl;
      goes = record { way = SendsVoice frame; whole = (number, refl); kept = refl; queued = refl; put = refl; dropped = refl };
    }

-- ---- the order

queued_goes : (peer : PeerView) (number timestamp : ℕ) (media : List ℕ) (now : ℕ) → peer.rules.trunk ≡ true
    → CarriesOrder number media peer (queued_media peer (record { number = number; timestamp = timestamp; media = media }) now)
queued_goes peer number timestamp media now trunk =
    let entry : QueueEntry = record { number = number; timestamp = timestamp; media = media } in
    either (λ (p : PeerView). CarriesOrder number media peer p) (is_full_for peer.queue (length media))
    (carried_media peer Dropped (length media)) (carried_media (with_entry peer entry now) Queued (length media))
    (drops_media Dropped number media peer refl) (queues_media peer number timestamp media now trunk)

short_goes : (peer : PeerView) (number timestamp : ℕ) (media : List ℕ) (now : ℕ)
    → CarriesOrder number media peer (short_media peer number timestamp media now)
short_goes peer number timestamp media now =
    let entry : QueueEntry = record { number = number; timestamp = timestamp; media = media } in
    let next = begins_next peer.rules peer.queue number (length media) in
    either_by (λ (p : PeerView). CarriesOrder number media peer p) peer.rules.trunk (waiting_media peer entry now)
    (carried_media (with_datagram peer (octets_of false (Mini entry))) Packed (length media))
    (λ trunk.
    carries_order_then number media peer (flushed_if next peer) (waiting_media peer entry now) (flush_carries next peer)
    (queued_goes (flushed_if next peer) number timestamp media now trunk))
    (λ trunk. sends_mini peer number timestamp media trunk)

pub media_goes : (how : MediaSent) (peer : PeerView) (named : NamedLeg) (media : List ℕ) (now : ℕ)
    → named.leg.number ≡ named.name.number → CarriesOrder named.name.number media peer (carries_media how peer named media now)
media_goes sent.Quelched peer named media now number =
    let with : PeerView = with_media sent.Quelched peer named media now in
    let bare : PeerView = with_sent peer named.name.number [] in
    carries_order_then named.name.number media peer with (carried_media with Quelched (length media))
    (carries_too peer bare with.legs bare.pokes bare.accounts refl (sent_carries peer named.name.number [] tt))
    (drops_media Quelched named.name.number media with refl)
media_goes sent.Voice peer named media now number =
    let datagrams : List (List ℕ) = map spelling (media_frames sent.Voice named.leg media now) in
    let goes = has_any datagrams && goes_ahead peer.rules peer.queue named.name.number in
    let flushed : PeerView = flushed_if goes peer in
    let out : PeerView = record flushed { outbox = put flushed.outbox datagrams } in
    let with : PeerView = with_media sent.Voice peer named media now in
    carries_order_too named.name.number media peer out with.legs out.pokes (carry_to out.accounts Packed (length media)) refl
    (carries_order_then named.name.number media peer flushed out (flush_carries goes peer)
    (sends_voice flushed named media now number (none_left peer named.name.number)))
media_goes (sent.Mini timestamp) peer named media now number =
    let with : PeerView = with_media (sent.Mini timestamp) peer named media now in
    let bare : PeerView = with_sent peer named.name.number [] in
    carries_order_then named.name.number media peer with (short_media with named.name.number timestamp media now)
    (carries_too peer bare with.legs bare.pokes bare.accounts refl (sent_carries peer named.name.number [] tt))
    (short_goes with named.name.number timestamp media now)
