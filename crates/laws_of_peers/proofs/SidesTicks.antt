-- A tick of a peer, as steps of sides of networks.
use Rattle.std.specs.Prelude.{map}
use Rattle.std.proofs.Common.{◌≡◌, ◌&&◌, ℕ, zero, suc, ◌+◌, ◌==◌, Bool, cond, true, false, inl, inr, All, List, [], ◌∷◌, ◌++◌}
use Rattle.std.proofs.Common.{Option, Some, None, slice_get, refl, ap, sym, subst, ◌∙◌, arith}
use Rattle.std.proofs.lemmas.List.Elements.{All-append}
use Rattle.iax_frames.specs.FullFrame.{spelling}
use Rattle.leg_machine.specs.Leg.{LegState}
use Rattle.leg_machine.specs.Ticks.{tick_step}
use Rattle.leg_machine.specs.Tie.{SendsAtMostOne, SendsNumbered, HasSent, IsSending}
use Rattle.peer_legs.specs.Legs.{NamedLeg, PeerLegs, leg_at}
use Rattle.peer_legs.proofs.PlaceLaws.{leg_at_place}
use Rattle.outbox.specs.Outbox.{OutboxView, extended}
use Rattle.peer_lock.specs.Peer.{PeerView, counted}
use Rattle.peer_lock.specs.Pokes.{is_poke_due, poke_octets, poke_stamp, pokes_sent}
use Rattle.laws_of_peers.specs.Sides.{SendsAt, EachSends, IsAtMostPoke}
use Rattle.peer_lock.specs.SoundPeer.{IsSoundPeer}
use Rattle.peer_lock.specs.Ticks.{asked, legs_tick, place_tick, Ticks}
use Rattle.peer_lock.specs.Trunks.{has_any, flushes, waits}
use Rattle.peer_lock.specs.declared.steps.TickReport.{TickReport}
use Rattle.laws_of_peers.proofs.NumberTicks.{ticked_at, ticked_legs}
use Rattle.laws_of_peers.proofs.TrunkSending.{ahead_of, packs_more}

-- the leg at a place sends a datagram
record SentAt (place : Option NamedLeg) (datagram : List ℕ) : Type 0 where
  pub named : NamedLeg
  pub at : place ≡ Some named
  pub sending : IsSending named.leg datagram

-- one of the legs does
record SentFrom (places : List (Option NamedLeg)) (datagram : List ℕ) : Type 0 where
  pub place : ℕ
  pub named : NamedLeg
  pub at : slice_get places place ≡ Some (Some named)
  pub sending : IsSending named.leg datagram

none_sent : (P : List ℕ → Type 0) → All P []
none_sent P = λ k d within. absurd (omega arith)

at_most_poke : (due : Bool) (timestamp : ℕ) → IsAtMostPoke (cond due (poke_octets timestamp ∷ []) [])
at_most_poke true timestamp = inr (timestamp, refl)
at_most_poke false timestamp = inl refl

module _ (turns : (grown : Bool) (leg : LegState) (now : ℕ) → SendsAtMostOne leg (tick_step grown leg now).leg)
    (sends : (grown : Bool) (leg : LegState) (now : ℕ) → SendsNumbered leg
    → HasSent (tick_step grown leg now).leg (map spelling (tick_step grown leg now).replies)) where
  place_side : (skipped : ℕ) (place : Option NamedLeg) (now : ℕ) → SendsAt place (place_tick skipped place now).place
  place_side skipped None now = refl
  place_side skipped (Some named) now = ((tick_step (skipped == 0) named.leg now).leg, turns (skipped == 0) named.leg now, refl)

  place_sends : (skipped : ℕ) (place : Option NamedLeg) (now : ℕ) → ((named : NamedLeg) → place ≡ Some named
      → SendsNumbered named.leg)
      → All (SentAt (place_tick skipped place now).place) (place_tick skipped place now).datagrams
  place_sends skipped None now numbered = none_sent (SentAt None)
  place_sends skipped (Some named) now numbered =
      let has = sends (skipped == 0) named.leg now (numbered named refl) in
      λ k d within. record {
        named = record { name = named.name; leg = (tick_step (skipped == 0) named.leg now).leg };
        at = refl;
        sending = has.sendings k d within;
      }

  -- the legs of the first place and of the others send
  both_send : (place : Option NamedLeg) (places : List (Option NamedLeg)) (first rest : List (List ℕ)) → All (SentAt place) first
      → All (SentFrom places) rest
      → All (SentFrom (place ∷ places)) (first ++ rest)
  both_send place places first rest here later =
      All-append (SentFrom (place ∷ places)) first rest
      (λ k d within. let one = here k d within in record {
        place = zero;
        named = one.named;
        at = ap Some one.at;
        sending = one.sending;
      })
      (λ k d within. let one = later k d within in record {
        place = suc one.place;
        named = one.named;
        at = one.at;
        sending = one.sending;
      })

  places_send : (skips : List ℕ) (places : List (Option NamedLeg)) (now : ℕ)
      → ((place : ℕ) (named : NamedLeg) → slice_get places place ≡ Some (Some named) → SendsNumbered named.leg)
      → All (SentFrom (legs_tick skips places now).places) (legs_tick skips places now).datagrams
  places_send skips [] now numbered = none_sent (SentFrom [])
  places_send [] (place ∷ places) now numbered =
      both_send (place_tick 0 place now).place (legs_tick [] places now).places (place_tick 0 place now).datagrams
      (legs_tick [] places now).datagrams
      (place_sends 0 place now (λ named at. numbered zero named (ap Some at)))
      (places_send [] places now (λ other named at. numbered (suc other) named at))
  places_send (skipped ∷ skips) (place ∷ places) now numbered =
      both_send (place_tick skipped place now).place (legs_tick skips places now).places (place_tick skipped place now).datagrams
      (legs_tick skips places now).datagrams
      (place_sends skipped place now (λ named at. numbered zero named (ap Some at)))
      (places_send skips places now (λ other named at. numbered (suc other) named at))

  pub tick_side : (old new : PeerView) (now : ℕ) (report : TickReport) → IsSoundPeer old → Ticks old now report new
      → EachSends old new
  tick_side old new now report sound ticks =
      let legs = ticked_legs old new now report ticks in
      let sent = places_send ticks.legs.skips old.legs.places now
      (λ place named at. (sound.kept.ruled (old.legs.first + place) named (leg_at_place old.legs (old.legs.first + place) place
      (Some named) refl at)).numbered) in
      let datagrams = (legs_tick ticks.legs.skips old.legs.places now).datagrams in
      let start : PeerView = asked (counted old) now in
      let ahead = ahead_of start (flushes (has_any datagrams && waits old.rules) old.queue) datagrams in
      let more = packs_more ticks.between.rules.trunk_ms ticks.between now ticks.octets new ticks.packs in
      record {
        each = λ number. let is = ticked_at old new now report ticks number in subst (SendsAt (leg_at old.legs number)) (sym is.1)
            (place_side is.0 (leg_at old.legs number) now);
        datagrams = (legs_tick ticks.legs.skips old.legs.places now).datagrams;
        sendings = λ k d within. let one = sent k d within in record {
          number = old.legs.first + one.place;
          named = one.named;
          at = ap (λ (l : PeerLegs). leg_at l (old.legs.first + one.place)) legs
              ∙ leg_at_place (record old.legs { places = (legs_tick ticks.legs.skips old.legs.places now).places })
              (old.legs.first + one.place) one.place (Some one.named) refl one.at;
          sending = one.sending;
        };
        pokes = pokes_sent old.rules old.pokes now;
        poke = at_most_poke (is_poke_due old.rules old.pokes now) (poke_stamp old.rules now);
        ahead = ahead.ahead;
        queued = ahead.queued;
        trunks = more.trunks;
        outbox = more.is ∙ ap (λ (o : OutboxView). extended o more.trunks) (ap (λ (p : PeerView). p.outbox) ticks.legs.legs
            ∙ ahead.is);
      }
