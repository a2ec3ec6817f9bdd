-- The steps of a peer, except its ticks, as steps of sides of networks.
use Rattle.std.specs.Prelude.{◌&&◌, map}
use Rattle.std.proofs.Common.{◌≡◌, ◌^◌, ℕ, ◌-◌, ◌<◌, ◌==◌, ◌⊎◌, true, All, inl, inr, List, [], ◌∷◌, length, Option, Some, None}
use Rattle.std.proofs.Common.{refl, ap, sym, subst, ◌∙◌, arith}
use Rattle.std.proofs.lemmas.Bool.{cases_Bool}
use Rattle.call_book.specs.declared.leg_name.LegName.{LegName}
use Rattle.call_signals.specs.declared.format.Format.{Format}
use Rattle.call_signals.specs.Order.{Order}
use Rattle.call_signals.specs.declared.order.Command.TheVariants as commands
use Rattle.call_signals.specs.declared.rules.PeerRules.{PeerRules}
use Rattle.iax_frames.specs.FullFrame.{FullFrame, spelling}
use Rattle.iax_frames.specs.MiniFrame.{mini_spelling}
use Rattle.iax_frames.specs.declared.datagram.Datagram.{Datagram}
use Rattle.iax_frames.specs.declared.datagram.Datagram.TheVariants.{Full, Mini, Video, Trunk}
use Rattle.leg_machine.specs.Leg.{LegState}
use Rattle.leg_machine.specs.Media.{media_sent}
use Rattle.leg_machine.specs.Openings.{open_in_step, open_out_step}
use Rattle.leg_machine.specs.OrderTable.{media_datagrams, order_carried}
use Rattle.leg_machine.specs.Steps.{full_step}
use Rattle.leg_machine.specs.Tie.{TakesTurn, SendsAtMostOne, TakesFirstTurn, HasSentAtMostOne, SendsNumbered, HasSent}
use Rattle.leg_machine.specs.Tie.{HasSentOrMini, IsSendingOrMini}
use Rattle.leg_machine.specs.declared.media.MediaSent.{MediaSent}
use Rattle.leg_machine.specs.declared.media.MediaSent.TheVariants as sent
use Rattle.peer_accounts.specs.declared.account.Carried.TheVariants.{Packed}
use Rattle.peer_legs.specs.Finding.{found}
use Rattle.peer_legs.specs.Legs.{NamedLeg, is_free_name, leg_at, leg_named, with_place}
use Rattle.peer_legs.proofs.PlaceLaws.{placed_there, stands_at}
use Rattle.peer_legs.proofs.RuleChanges.{number_fits}
use Rattle.call_auth.specs.declared.call_token.CallTokens.{CallTokens}
use Rattle.peer_lock.specs.Arrivals.{datagram_step, delivered_step}
use Rattle.peer_lock.specs.Delivery.{Delivery, NeedsNumber, NoToken, Gets, Pongs, NoCall, closed_to_calls, delivered, inval_for}
use Rattle.peer_lock.specs.Delivery.{legless, pong_for, regrej_for, reject_for, token_for}
use Rattle.peer_lock.specs.Openings.{opens_in, opens_out}
use Rattle.peer_lock.specs.Orders.{order_refused_by, refused_at, ordered_if, ordered_at, ordered_step, counted_media, short_media}
use Rattle.peer_lock.specs.Orders.{queued_media, waiting_media, carried_media, with_media}
use Rattle.peer_lock.specs.Peer.{PeerView, flushed_if, with_datagram, with_sent}
use Rattle.laws_of_peers.specs.Sides.{ComesToNone, TakesTurnAtLeg, TakesDatagram, SendsAtLeg, TakesNew, SendsNew}
use Rattle.peer_lock.specs.SoundPeer.{IsSoundPeer}
use Rattle.peer_lock.specs.Trunks.{has_any, flushes, goes_ahead, begins_next, is_full_for}
use Rattle.peer_lock.specs.declared.steps.Rejection.{Rejection}
use Rattle.trunk_packer.specs.Queue.{QueueEntry}
use Rattle.peer_lock.proofs.Choices.{either}
use Rattle.laws_of_peers.proofs.UnknownCalls.{of_each}
use Rattle.laws_of_peers.proofs.TrunkSending.{Ahead, ahead_of, alone_of}
use Rattle.outbox.specs.Outbox.{OutboxView}
use Rattle.outbox.proofs.Puts.{put_both}
use Rattle.laws_of_peers.proofs.SeenArrivals.{found_named}
use Rattle.laws_of_peers.proofs.SeenChanges.{named_at}
use Rattle.laws_of_peers.proofs.SeenSteps.{free_name, ordered_legs, unspent}

-- ---- datagrams

module _ (turns : (leg : LegState) (frame : FullFrame) (now : ℕ) → TakesTurn leg frame (full_step leg frame now).leg)
    (sends : (leg : LegState) (frame : FullFrame) (now : ℕ) → SendsNumbered leg
    → HasSent (full_step leg frame now).leg (map spelling (full_step leg frame now).replies)) where
  unknown_side : (first : ℕ) (peer : PeerView) (frame : FullFrame) (now : ℕ)
      → ComesToNone peer frame (delivered_step first peer (legless (closed_to_calls peer) peer.rules peer.pokes frame now)
      frame now).peer
  unknown_side first peer frame now =
      let P : Delivery → Type 0 = λ d. ComesToNone peer frame (delivered_step first peer d frame now).peer in
      let needs : P NeedsNumber = record { legs = refl; outbox = inl refl } in
      let no_token : P NoToken = record { legs = refl; outbox = inl refl } in
      let inval : P (Gets (inval_for frame.head)) = record { legs = refl; outbox = inr (inl refl) } in
      let pong : P (Gets (pong_for frame.head)) = record { legs = refl; outbox = inr (inr (inl refl)) } in
      let regrej : P (Gets (regrej_for frame.head)) = record { legs = refl; outbox = inr (inr (inr (inl refl))) } in
      let reject : (why : Rejection) → P (Gets (reject_for why frame.head)) =
      λ why. record { legs = refl; outbox = inr (inr (inr (inr (inl (why, refl))))) } in
      let token : (tokens : CallTokens) → P (Gets (token_for tokens frame.head now)) =
      λ tokens. record { legs = refl; outbox = inr (inr (inr (inr (inr (tokens, now, refl))))) } in
      let no_call : P NoCall = record { legs = refl; outbox = inl refl } in
      let pongs : P Pongs = record { legs = refl; outbox = inl refl } in
      of_each P (closed_to_calls peer) peer.rules peer.pokes frame now needs no_token no_call pongs inval pong regrej reject token

  full_side : (first : ℕ) (peer : PeerView) (frame : FullFrame) (now : ℕ) (o : Option NamedLeg) → IsSoundPeer peer
      → found peer.legs frame ≡ o
      → TakesTurnAtLeg peer frame (delivered_step first peer (delivered (closed_to_calls peer) peer.rules peer.pokes o frame
      now) frame
      now).peer ⊎ ComesToNone peer frame (delivered_step first peer (delivered (closed_to_calls peer) peer.rules peer.pokes o
      frame now)
      frame now).peer
  full_side first peer frame now None sound is = inr (unknown_side first peer frame now)
  full_side first peer frame now (Some named) sound is =
      let at = found_named peer.legs frame named sound.legs is in
      let datagrams = map spelling (full_step named.leg frame now).replies in
      let sent = ahead_of peer (flushes (has_any datagrams && goes_ahead peer.rules peer.queue named.name.number) peer.queue)
      datagrams in
      inl (record {
        named = named;
        leg = (full_step named.leg frame now).leg;
        datagrams = map spelling (full_step named.leg frame now).replies;
        steps = record { at = at; legs = refl; ahead = sent.ahead; queued = sent.queued; outbox = sent.is };
        tied = turns named.leg frame now;
        sendings = (sends named.leg frame now (sound.kept.ruled named.name.number named at).numbered).sendings;
      })

  pub datagram_side : (first : ℕ) (peer : PeerView) (datagram : Datagram) (now : ℕ) → IsSoundPeer peer
      → TakesDatagram peer datagram (datagram_step first peer datagram now).peer
  datagram_side first peer (Full frame) now sound = full_side first peer frame now (found peer.legs frame) sound refl
  datagram_side first peer (Mini mini) now sound = record { legs = refl; outbox = refl }
  datagram_side first peer (Video video) now sound = record { legs = refl; outbox = refl }
  datagram_side first peer (Trunk trunk) now sound = record { legs = refl; outbox = refl }

-- ---- orders

-- these datagrams, or none, are sent behind media that was queued
record Puts (peer : PeerView) (new : OutboxView) (sent : List (List ℕ)) : Type 0 where
  pub datagrams : List (List ℕ)
  pub outbox : Ahead peer new datagrams
  pub which : (datagrams ≡ sent) ⊎ (datagrams ≡ [])

queued_outbox : (peer : PeerView) (entry : QueueEntry) (now : ℕ) → (queued_media peer entry now).outbox ≡ peer.outbox
queued_outbox peer entry now = elim (cases_Bool (is_full_for peer.queue (length entry.media))) [
  | inl e ↦ rw e refl
  | inr e ↦ rw e refl
]

short_puts : (peer : PeerView) (named : NamedLeg) (timestamp now : ℕ) (media : List ℕ) → named.name.number ≡ named.leg.number
    → Puts peer (short_media (with_media (sent.Mini timestamp) peer named media now) named.name.number timestamp media now).outbox
    (media_datagrams (sent.Mini timestamp) named.leg media now)
short_puts peer named timestamp now media same =
    let entry : QueueEntry = record { number = named.name.number; timestamp = timestamp; media = media } in
    let with : PeerView = with_media (sent.Mini timestamp) peer named media now in
    let datagram : List ℕ = mini_spelling (record { source = named.name.number; timestamp = timestamp; media = media }) in
    let next = begins_next peer.rules peer.queue named.name.number (length media) in
    either (λ (p : PeerView). Puts peer p.outbox (media_datagrams (sent.Mini timestamp) named.leg media now)) peer.rules.trunk
    (waiting_media with entry now) (carried_media (with_datagram with datagram) Packed (length media))
    (record {
      datagrams = [];
      outbox = subst (λ (o : OutboxView). Ahead peer o []) (sym (queued_outbox (flushed_if next with) entry now))
          (alone_of peer (flushes next peer.queue));
      which = inr refl;
    })
    (record {
      datagrams = datagram ∷ [];
      outbox = record { ahead = []; queued = inl refl; is = put_both peer.outbox [] (datagram ∷ []) };
      which = inl (ap (λ (n : ℕ). mini_spelling (record { source = n; timestamp = timestamp; media = media }) ∷ []) same);
    })

-- the frames of the leg of a number are sent behind media of its call
sent_puts : (peer : PeerView) (number : ℕ) (datagrams : List (List ℕ)) → Puts peer (with_sent peer number datagrams).outbox
    datagrams
sent_puts peer number datagrams = record {
  datagrams = datagrams;
  outbox = ahead_of peer (flushes (has_any datagrams && goes_ahead peer.rules peer.queue number) peer.queue) datagrams;
  which = inl refl;
}

media_puts : (how : MediaSent) (peer : PeerView) (named : NamedLeg) (media : List ℕ) (now : ℕ)
    → named.name.number ≡ named.leg.number
    → Puts peer (counted_media how (with_media how peer named media now) named.name.number media now).outbox
    (media_datagrams how named.leg media now)
media_puts sent.Quelched peer named media now same =
    record { datagrams = []; outbox = record { ahead = []; queued = inl refl; is = refl }; which = inr refl }
media_puts sent.Voice peer named media now same = sent_puts peer named.name.number (media_datagrams sent.Voice named.leg media
    now)
media_puts (sent.Mini timestamp) peer named media now same = short_puts peer named timestamp now media same

ordered_puts : (peer : PeerView) (named : NamedLeg) (order : Order) (now : ℕ) → named.name.number ≡ named.leg.number
    → Puts peer (ordered_at peer named order now).outbox (order_carried named.leg order now).datagrams
ordered_puts peer named (commands.Media media) now same = media_puts (media_sent named.leg now) peer named media.now now same
ordered_puts peer named (commands.Accept format) now same = sent_puts peer named.name.number _
ordered_puts peer named (commands.Reject cause) now same = sent_puts peer named.name.number _
ordered_puts peer named (commands.Indicate indication) now same = sent_puts peer named.name.number _
ordered_puts peer named commands.Answer now same = sent_puts peer named.name.number _
ordered_puts peer named (commands.Dtmf digit) now same = sent_puts peer named.name.number _
ordered_puts peer named (commands.Hangup cause) now same = sent_puts peer named.name.number _
ordered_puts peer named (commands.Doom cause) now same = sent_puts peer named.name.number _
ordered_puts peer named commands.Paid now same = sent_puts peer named.name.number _

all_either : (leg : LegState) (datagrams sent : List (List ℕ)) → (datagrams ≡ sent) ⊎ (datagrams ≡ [])
    → All (IsSendingOrMini leg) sent → All (IsSendingOrMini leg) datagrams
all_either leg datagrams sent (inl is) all = rw is all
all_either leg datagrams sent (inr is) all = rw is (λ k d within. absurd (omega arith))

module _ (turns : (leg : LegState) (order : Order) (now : ℕ) → SendsAtMostOne leg (order_carried leg order now).leg)
    (sends : (leg : LegState) (order : Order) (now : ℕ) → SendsNumbered leg → 0 < leg.number → leg.number < 2 ^ 15
    → HasSentOrMini (order_carried leg order now).leg (order_carried leg order now).datagrams) where
  obeyed : (peer : PeerView) (name : LegName) (order : Order) (now : ℕ) (o : Option NamedLeg) → IsSoundPeer peer
      → leg_named peer.legs name ≡ o → refused_at o order now ≡ None
      → SendsAtLeg peer name (ordered_if peer o order now)
  obeyed peer name order now None sound is none = cc
  obeyed peer name order now (Some named) sound is none =
      let at = named_at peer.legs name named is in
      let here = stands_at peer.legs name.number named at.at in
      let numbers = sound.legs.named (name.number - peer.legs.first) named here.place in
      let fits = number_fits peer.legs (name.number - peer.legs.first) named sound.legs here.place in
      let puts = ordered_puts peer named order now (numbers.1 ∙ sym numbers.2) in
      let has = sends named.leg order now (sound.kept.ruled name.number named at.at).numbered fits.0 fits.1 in
      record {
        named = named;
        is = at.is;
        leg = (order_carried named.leg order now).leg;
        datagrams = puts.datagrams;
        steps = record {
          at = ap (λ (n : LegName). leg_at peer.legs n.number) at.is ∙ at.at;
          legs = ordered_legs peer named order now;
          ahead = puts.outbox.ahead;
          queued = puts.outbox.queued;
          outbox = puts.outbox.is;
        };
        tied = turns named.leg order now;
        sendings = all_either (order_carried named.leg order now).leg puts.datagrams (order_carried named.leg order now).datagrams
            puts.which has.sendings;
      }

  pub order_side : (peer : PeerView) (credit : ℕ) (name : LegName) (order : Order) (now : ℕ) → IsSoundPeer peer
      → order_refused_by peer credit name order now ≡ None
      → SendsAtLeg peer name (ordered_step peer name order now)
  order_side peer credit name order now sound none =
      obeyed peer name order now (leg_named peer.legs name) sound refl (unspent (peer.accounts.steps == credit)
      (refused_at (leg_named peer.legs name) order now) none)

-- ---- openings

-- a leg that is put under a free name is found there
opened_there : (peer : PeerView) (name : LegName) (leg : LegState) → is_free_name peer.legs name ≡ true
    → leg_at (with_place peer.legs name.number (Some (record { name = name; leg = leg }))) name.number
    ≡ Some (record { name = name; leg = leg })
opened_there peer name leg free =
    let is = free_name peer.legs name free in
    placed_there peer.legs name.number (Some (record { name = name; leg = leg })) is.first is.within

module _ (turns : (rules : PeerRules) (number : ℕ) (frame : FullFrame) (now : ℕ) (challenge : List ℕ)
    → TakesFirstTurn frame (open_in_step rules number frame now challenge).leg)
    (sends : (rules : PeerRules) (number : ℕ) (frame : FullFrame) (now : ℕ) (challenge : List ℕ)
    → HasSent (open_in_step rules number frame now challenge).leg
    (map spelling (open_in_step rules number frame now challenge).replies)) where
  pub call_in_side : (peer : PeerView) (name : LegName) (frame : FullFrame) (now : ℕ) (challenge : List ℕ)
      → is_free_name peer.legs name ≡ true
      → TakesNew peer name frame (opens_in peer name frame now challenge).peer
  call_in_side peer name frame now challenge free = record {
    leg = (open_in_step peer.rules name.number frame now challenge).leg;
    opens = record {
      free = (free_name peer.legs name free).none;
      legs = refl;
      there = opened_there peer name (open_in_step peer.rules name.number frame now challenge).leg free;
      datagrams = map spelling (open_in_step peer.rules name.number frame now challenge).replies;
      outbox = refl;
      sendings = (sends peer.rules name.number frame now challenge).sendings;
    };
    tied = turns peer.rules name.number frame now challenge;
  }

module _ (turns : (rules : PeerRules) (number : ℕ) (called : List ℕ) (caller : List ℕ) (format : Format) (now : ℕ)
    → HasSentAtMostOne (open_out_step rules number called caller format now).leg)
    (sends : (rules : PeerRules) (number : ℕ) (called : List ℕ) (caller : List ℕ) (format : Format) (now : ℕ)
    → HasSent (open_out_step rules number called caller format now).leg
    (map spelling (open_out_step rules number called caller format now).replies)) where
  pub call_out_side : (peer : PeerView) (name : LegName) (called : List ℕ) (caller : List ℕ) (format : Format) (now : ℕ)
      → is_free_name peer.legs name ≡ true
      → SendsNew peer name (opens_out peer name called caller format now).peer
  call_out_side peer name called caller format now free = record {
    leg = (open_out_step peer.rules name.number called caller format now).leg;
    opens = record {
      free = (free_name peer.legs name free).none;
      legs = refl;
      there = opened_there peer name (open_out_step peer.rules name.number called caller format now).leg free;
      datagrams = map spelling (open_out_step peer.rules name.number called caller format now).replies;
      outbox = refl;
      sendings = (sends peer.rules name.number called caller format now).sendings;
    };
    tied = turns peer.rules name.number called caller format now;
  }
