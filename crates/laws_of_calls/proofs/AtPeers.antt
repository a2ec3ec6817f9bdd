-- A step of a stored peer is one of the world.
use Rattle.std.specs.Prelude.{option_map, not, if◌then◌else◌, Ok, Err}
use Rattle.std.proofs.Common.{◌≡◌, ℕ, Bool, true, false, List, ◌∷◌, Option, Some, None, slice_get, slice_set, refl, sym, ap}
use Rattle.std.proofs.Common.{subst, ◌∙◌, inl, inr}
use Rattle.call_book.specs.declared.leg_name.LegName.{LegName}
use Rattle.call_control.specs.Scene.{Leg, Scene, answered, is_leased, dropped, leg_at, without}
use Rattle.call_control.specs.SeenReply.{heard, seen_reply}
use Rattle.call_control.specs.Sees.{IsWorldStep}
use Rattle.call_signals.specs.declared.order.Command.{Command}
use Rattle.call_signals.specs.declared.signal.MediaSpan.{MediaSpan}
use Rattle.call_control.specs.declared.need.Need.{Need}
use Rattle.call_control.specs.declared.need.Need.TheVariants as needs
use Rattle.call_control.specs.declared.reply.Reply.{Reply}
use Rattle.call_control.specs.declared.reply.Reply.TheVariants as replies
use Rattle.peer_lock.specs.Arrivals.{datagram_step}
use Rattle.peer_lock.specs.Openings.{is_free_name, opens_in, opens_out, rejects_new as rejected}
use Rattle.peer_lock.specs.Peer.{PeerView}
use Rattle.peer_lock.specs.Seen.{SeenNamed, seen_named}
use Rattle.peer_lock.specs.declared.errors.OpenError.{OpenError}
use Rattle.laws_of_calls.specs.Stored.{Stored, ArePeers, AreSeenIn}
use Rattle.laws_of_calls.specs.StoredSteps.{heard_of, TakesDatagram, RejectsNew, TakesNew, SendsNew, Obeys, Disobeys, TakesOrder}
use Rattle.laws_of_calls.specs.StoredSteps.{TakesTick, GivesUp, AtPeer, leases_after}
use Rattle.laws_of_calls.proofs.WorldLegs.{found_seen}
use Rattle.laws_of_calls.proofs.Names.{done_there}
use Rattle.laws_of_calls.proofs.Places.{seen_set}
use Rattle.laws_of_calls.proofs.WorldSteps.{PeersSteps, ComesOut, IsSceneOf}

-- an opening that isn't refused is one under a free name
free_name : (spent free : Bool) (one other : OpenError) (more : Option OpenError)
    → (if spent then Some one else if not free then Some other else more) ≡ None → free ≡ true
free_name true free one other more e = cc
free_name false true one other more e = refl
free_name false false one other more e = cc

module _ (laws : PeersSteps) (old new : Stored) (scene : Scene) (called : Bool) (are : ArePeers old.peers)
    (of : IsSceneOf scene old) where
  at_peer : (need : Need) (reply : Reply) (place : ℕ) (before after : PeerView) (seen : Reply) (leases : List LegName)
      → slice_get old.peers place ≡ Some before
      → new.peers ≡ slice_set old.peers place after → new.book ≡ old.book
      → IsWorldStep scene need called before.legs after.legs seen leases
      → seen_reply seen ≡ seen_reply reply → leases ≡ leases_after need reply scene.leases → ComesOut scene need called new reply
  at_peer need reply place before after seen leases at peers book step same_reply same_leases = record {
    choice = step.choice;
    answers = step.answers ∙ same_reply;
    book = step.same_book ∙ of.book ∙ sym book;
    leases = step.leases_are ∙ same_leases;
    legs = subst (AreSeenIn (answered scene need called step.choice).scene.legs) (sym peers)
        (seen_set scene.legs (answered scene need called step.choice).scene.legs old.peers place before after are of.legs
        at step.sees step.apart);
  }

  pub takes_datagram : (place : ℕ) (reply : Reply) → AtPeer place TakesDatagram old new reply
      → ComesOut scene (needs.Datagram place) called new reply
  takes_datagram place reply a =
      let d = a.does in
      let s = datagram_step d.first a.before d.datagram d.now in
      let seen : Reply = replies.Datagram (Ok (heard s.step.touched s.signals)) in
      let mine = are place a.before a.at in
      let step = laws.datagrams d.first a.before d.datagram d.now scene called mine.sound.legs
      (of.legs.sees place a.before a.at) in
      let here = subst (λ (n : ℕ). IsWorldStep scene (needs.Datagram n) called a.before.legs s.peer.legs seen scene.leases)
      mine.place_is step in
      let left = subst (λ (p : PeerView). IsWorldStep scene (needs.Datagram place) called a.before.legs p.legs seen scene.leases)
      (sym d.becomes) here in
      subst (ComesOut scene (needs.Datagram place) called new) (sym d.answers)
      (at_peer (needs.Datagram place) (replies.Datagram (Ok (heard_of s d.room))) place a.before a.after seen scene.leases a.at
      a.peers a.book left refl refl)

  pub rejects_new : (place : ℕ) (reply : Reply) → AtPeer place RejectsNew old new reply
      → ComesOut scene (needs.RejectNew place) called new reply
  rejects_new place reply a =
      let d = a.does in
      let s = rejected a.before d.frame in
      let seen : Reply = replies.RejectNew (Ok tt) in
      let mine = are place a.before a.at in
      let step = laws.rejected_calls a.before d.frame scene called (of.legs.sees place a.before a.at) in
      let here = subst (λ (n : ℕ). IsWorldStep scene (needs.RejectNew n) called a.before.legs s.peer.legs seen scene.leases)
      mine.place_is step in
      let left = subst (λ (p : PeerView). IsWorldStep scene (needs.RejectNew place) called a.before.legs p.legs seen scene.leases)
      (sym d.becomes) here in
      subst (ComesOut scene (needs.RejectNew place) called new) (sym d.answers)
      (at_peer (needs.RejectNew place) seen place a.before a.after seen scene.leases a.at a.peers a.book left refl refl)

  pub takes_new : (name : LegName) (reply : Reply) → is_leased scene.leases name ≡ true
      → AtPeer name.peer (TakesNew name) old new reply
      → ComesOut scene (needs.OpenIn name) called new reply
  takes_new name reply leased a =
      let d = a.does in
      let s = opens_in a.before name d.frame d.now d.challenge in
      let seen : Reply = replies.OpenIn (Ok (heard s.step.touched s.signals)) in
      let mine = are name.peer a.before a.at in
      let free : is_free_name a.before.legs name ≡ true = free_name _ (is_free_name a.before.legs name) _ _ _ d.unrefused in
      let step = laws.calls_in a.before name d.frame d.now d.challenge scene called mine.sound.legs mine.sound.kept.rules.window.0
      free
      (of.legs.sees name.peer a.before a.at) leased in
      let left = subst (λ (p : PeerView). IsWorldStep scene (needs.OpenIn name) called a.before.legs p.legs seen
      (dropped scene.leases name)) (sym d.becomes) step in
      subst (ComesOut scene (needs.OpenIn name) called new) (sym d.answers)
      (at_peer (needs.OpenIn name) (replies.OpenIn (Ok (heard_of s d.room))) name.peer a.before a.after seen
      (dropped scene.leases name) a.at a.peers a.book left refl refl)

  pub sends_new : (name : LegName) (reply : Reply) → is_leased scene.leases name ≡ true
      → AtPeer name.peer (SendsNew name) old new reply
      → ComesOut scene (needs.OpenOut name) called new reply
  sends_new name reply leased a =
      let d = a.does in
      let s = opens_out a.before name d.called d.caller d.format d.now in
      let seen : Reply = replies.OpenOut (Ok tt) in
      let mine = are name.peer a.before a.at in
      let free : is_free_name a.before.legs name ≡ true = free_name _ (is_free_name a.before.legs name) _ _ _ d.unrefused in
      let step = laws.calls_out a.before name d.called d.caller d.format d.now scene called mine.sound.legs free
      (of.legs.sees name.peer a.before a.at) leased in
      let left = subst (λ (p : PeerView). IsWorldStep scene (needs.OpenOut name) called a.before.legs p.legs seen
      (dropped scene.leases name)) (sym d.becomes) step in
      subst (ComesOut scene (needs.OpenOut name) called new) (sym d.answers)
      (at_peer (needs.OpenOut name) seen name.peer a.before a.after seen (dropped scene.leases name) a.at a.peers a.book left refl
      refl)

  obeys : (name : LegName) (command : Command MediaSpan) (reply : Reply) (before after : PeerView)
      → slice_get old.peers name.peer ≡ Some before
      → new.peers ≡ slice_set old.peers name.peer after → new.book ≡ old.book → Obeys name command before after reply
      → ComesOut scene (needs.Order name command) called new reply
  obeys name command reply before after at peers book d =
      let seen : Reply = replies.Order (Ok tt) in
      let mine = are name.peer before at in
      let step = laws.orders before d.credit name command d.order d.now scene called mine.sound.legs (sym mine.place_is) d.kind
      d.unrefused (of.legs.sees name.peer before at) in
      let left = subst
      (λ (p : PeerView). IsWorldStep scene (needs.Order name command) called before.legs p.legs seen scene.leases)
      (sym d.becomes) step in
      subst (ComesOut scene (needs.Order name command) called new) (sym d.answers)
      (at_peer (needs.Order name command) seen name.peer before after seen scene.leases at peers book left refl refl)

  disobeys : (name : LegName) (command : Command MediaSpan) (reply : Reply) (before after : PeerView)
      → slice_get old.peers name.peer ≡ Some before
      → new.peers ≡ slice_set old.peers name.peer after → new.book ≡ old.book → Disobeys name command before after reply
      → ComesOut scene (needs.Order name command) called new reply
  disobeys name command reply before after at peers book d =
      let seen : Reply = replies.Order (Err d.error) in
      let mine = are name.peer before at in
      let step = laws.refused_orders before d.credit name command d.order d.now d.error scene called mine.sound.legs
      (sym mine.place_is) d.kind d.refused d.memory
      (of.legs.sees name.peer before at) in
      let left = subst
      (λ (p : PeerView). IsWorldStep scene (needs.Order name command) called before.legs p.legs seen scene.leases)
      (sym d.becomes) step in
      subst (ComesOut scene (needs.Order name command) called new) (sym d.answers)
      (at_peer (needs.Order name command) seen name.peer before after seen scene.leases at peers book left refl refl)

  pub takes_order : (name : LegName) (command : Command MediaSpan) (reply : Reply)
      → AtPeer name.peer (TakesOrder name command) old new reply
      → ComesOut scene (needs.Order name command) called new reply
  takes_order name command reply a = elim (a.does) [
    | inl d ↦ obeys name command reply a.before a.after a.at a.peers a.book d
    | inr d ↦ disobeys name command reply a.before a.after a.at a.peers a.book d
  ]

  pub takes_tick : (place : ℕ) (reply : Reply) → AtPeer place TakesTick old new reply
      → ComesOut scene (needs.Tick place) called new reply
  takes_tick place reply a =
      let d = a.does in
      let seen : Reply = replies.Tick (Ok d.report.is_quiet) in
      let mine = are place a.before a.at in
      let step = laws.ticks a.before a.after d.now d.report scene called mine.sound.legs d.ticks
      (of.legs.sees place a.before a.at) in
      let here = subst (λ (n : ℕ). IsWorldStep scene (needs.Tick n) called a.before.legs a.after.legs seen scene.leases)
      mine.place_is step in
      subst (ComesOut scene (needs.Tick place) called new) (sym d.answers)
      (at_peer (needs.Tick place) seen place a.before a.after seen scene.leases a.at a.peers a.book here refl refl)

  -- no other leg has the number of one that is taken out
  pub gives_up : (name : LegName) (reply : Reply)
      → ((peer number : ℕ) (leg : Leg) → leg_at scene.legs peer number ≡ Some leg
      → leg_at (without scene.legs leg.name) peer number ≡ None)
      → AtPeer name.peer (GivesUp name) old new reply → ComesOut scene (needs.Retire name) called new reply
  gives_up name reply serve a =
      let d = a.does in
      let seen : Reply = replies.Retire true in
      let mine = are name.peer a.before a.at in
      let sees = of.legs.sees name.peer a.before a.at in
      let there = done_there a.before.legs name d.done in
      let found = found_seen (leg_at scene.legs a.before.legs.peer name.number) (seen_named there.named)
      (sees name.number ∙ ap (option_map seen_named) there.at) in
      let named : found.leg.name ≡ name = ap (λ (n : SeenNamed). n.name) found.looks ∙ there.name_is in
      let at : leg_at scene.legs name.peer name.number ≡ Some found.leg = ap (λ (n : ℕ). leg_at scene.legs n name.number)
      (sym mine.place_is) ∙ found.at in
      let none : leg_at (without scene.legs name) name.peer name.number ≡ None =
      subst (λ (n : LegName). leg_at (without scene.legs n) name.peer name.number ≡ None) named
      (serve name.peer name.number found.leg at) in
      let step = laws.retiring a.before.legs name scene called mine.sound.legs (sym mine.place_is) d.done sees none in
      let left = subst (λ (p : PeerView). IsWorldStep scene (needs.Retire name) called a.before.legs p.legs seen
      (name ∷ scene.leases)) (sym d.becomes) step in
      subst (ComesOut scene (needs.Retire name) called new) (sym d.answers)
      (at_peer (needs.Retire name) seen name.peer a.before a.after seen (name ∷ scene.leases) a.at a.peers a.book left refl refl)
