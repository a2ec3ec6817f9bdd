-- Each change of the stored exchange is an event of the world.
use Rattle.std.specs.Prelude.{Err}
use Rattle.std.proofs.Common.{◌≡◌, ℕ, Bool, true, false, List, ◌++◌, Option, Some, None, slice_get, slice_set, refl, sym, ap}
use Rattle.std.proofs.Common.{subst, ◌∙◌, inl, inr}
use Rattle.call_book.specs.declared.leg_name.LegName.{LegName}
use Rattle.call_control.specs.Law.{is_spent as is_spent_choice, NoneIsBusy, NoneIsStale, NumbersServeOne, OnlyWhatIsSeenCounts}
use Rattle.call_control.specs.Leases.{lease_needed}
use Rattle.call_control.specs.Scene.{Leg, Scene, Choice, RefusesDatagram, RefusesRejecting, RefusesOpening, RefusesTick, LeadsTo}
use Rattle.call_control.specs.Scene.{Answer, answered, is_call, is_leased, leg_at, without}
use Rattle.call_control.specs.SeenReply.{seen_reply}
use Rattle.call_control.specs.Sees.{Sees}
use Rattle.call_control.specs.Work.{next_of, after_told}
use Rattle.call_control.specs.World.{World, Caller, Starts, Steps, work_of, scene_of, happens, starts, begins, steps, makes}
use Rattle.call_control.specs.World.{after_answer}
use Rattle.call_control.specs.declared.need.Need.{Need}
use Rattle.call_control.specs.declared.need.Need.TheVariants as needs
use Rattle.call_control.specs.declared.reply.Reply.{Reply}
use Rattle.call_control.specs.declared.reply.Reply.TheVariants as replies
use Rattle.peer_lock.specs.Outbox.{with_waiting}
use Rattle.peer_lock.specs.Peer.{PeerView}
use Rattle.laws_of_calls.specs.Runs.{Becomes, Begins, SetsDraining, TakesOut}
use Rattle.laws_of_calls.specs.Runs.{Steps as StoredSteps}
use Rattle.laws_of_calls.specs.Spent.{is_spent, called_at}
use Rattle.laws_of_calls.specs.Stored.{Stored, ArePeers, AreSeenIn, IsSeenIn}
use Rattle.laws_of_calls.specs.StoredSteps.{Makes, leases_after}
use Rattle.laws_of_calls.proofs.AtBooks.{refuses, keeps, is_gone, looks, partners, reserved, bridged_so, released_so}
use Rattle.laws_of_calls.proofs.AtPeers.{takes_datagram, rejects_new, takes_new, sends_new, takes_order, takes_tick, gives_up}
use Rattle.laws_of_calls.proofs.Called.{more, answered_called, called_now}
use Rattle.laws_of_calls.proofs.Spent.{plain, spent_seen}
use Rattle.laws_of_calls.proofs.Places.{at_set, none_at_set}
use Rattle.laws_of_calls.proofs.WorldSteps.{PeersSteps, ComesOut, IsSceneOf}

module _ (laws : PeersSteps) (old new : Stored) (scene : Scene) (called : Bool) (are : ArePeers old.peers)
    (of : IsSceneOf scene old)
    (serve : (peer number : ℕ) (leg : Leg) → leg_at scene.legs peer number ≡ Some leg
    → leg_at (without scene.legs leg.name) peer number ≡ None) where
  comes_out : (need : Need) (reply : Reply)
      → ((name : LegName) → lease_needed (Some need) ≡ Some name → is_leased scene.leases name ≡ true)
      → Makes need old new reply → ComesOut scene need called new reply
  comes_out (needs.Datagram place) reply leased (inl made) = takes_datagram laws old new scene called are of place reply made
  comes_out (needs.Datagram place) reply leased (inr made) =
      refuses laws old new scene called are of (needs.Datagram place) reply (λ error. replies.Datagram (Err error))
      RefusesDatagram (λ error. refl) (λ error. refl) made
  comes_out (needs.RejectNew place) reply leased (inl made) = rejects_new laws old new scene called are of place reply made
  comes_out (needs.RejectNew place) reply leased (inr made) =
      refuses laws old new scene called are of (needs.RejectNew place) reply (λ error. replies.RejectNew (Err error))
      RefusesRejecting (λ error. refl) (λ error. refl) made
  comes_out (needs.OpenIn name) reply leased (inl made) =
      takes_new laws old new scene called are of name reply (leased name refl) made
  comes_out (needs.OpenIn name) reply leased (inr made) =
      refuses laws old new scene called are of (needs.OpenIn name) reply (λ error. replies.OpenIn (Err error)) RefusesOpening
      (λ error. refl) (λ error. refl) made
  comes_out (needs.OpenOut name) reply leased (inl made) =
      sends_new laws old new scene called are of name reply (leased name refl) made
  comes_out (needs.OpenOut name) reply leased (inr made) =
      refuses laws old new scene called are of (needs.OpenOut name) reply (λ error. replies.OpenOut (Err error)) RefusesOpening
      (λ error. refl) (λ error. refl) made
  comes_out (needs.Order name command) reply leased (inl made) =
      takes_order laws old new scene called are of name command reply made
  comes_out (needs.Order name command) reply leased (inr made) = is_gone laws old new scene called are of name command reply made
  comes_out (needs.Tick place) reply leased (inl made) = takes_tick laws old new scene called are of place reply made
  comes_out (needs.Tick place) reply leased (inr made) =
      refuses laws old new scene called are of (needs.Tick place) reply (λ error. replies.Tick (Err error)) (λ error. RefusesTick)
      (λ error. refl) (λ error. refl) made
  comes_out (needs.Look place number) reply leased made = looks laws old new scene called are of place number reply made
  comes_out (needs.Retire name) reply leased (inl made) = gives_up laws old new scene called are of name reply serve made
  comes_out (needs.Retire name) reply leased (inr made) = keeps laws old new scene called are of name reply made
  comes_out (needs.Reserve peer) reply leased made = reserved laws old new scene called are of peer reply made
  comes_out (needs.Bridge a b) reply leased made = bridged_so laws old new scene called are of a b reply made
  comes_out (needs.Partner name) reply leased made = partners laws old new scene called are of name reply made
  comes_out (needs.Release name) reply leased made =
      released_so laws old new scene called are of name reply (leased name refl) made
  comes_out (needs.Route name) reply leased made =
      refuses laws old new scene called are of (needs.Route name) reply replies.Route LeadsTo (λ route. refl) (λ route. refl)
      (record { error = made.0; unchanged = made.1 })

-- a caller whose next step uses a lease has it
pub lease_held : (world : World) (who : ℕ) (caller : Caller) (need : Need) → NoneIsBusy world → NoneIsStale world
    → slice_get world.callers who ≡ Some caller
    → next_of caller.work ≡ Some need → (name : LegName) → lease_needed (Some need) ≡ Some name
    → is_leased caller.leases name ≡ true
lease_held world who caller (needs.OpenIn n) busy stale at needed name e =
    busy.leased_in who caller name at (needed ∙ ap (λ (o : LegName). Some (needs.OpenIn o)) (cc))
lease_held world who caller (needs.OpenOut n) busy stale at needed name e =
    busy.leased_out who caller name at (needed ∙ ap (λ (o : LegName). Some (needs.OpenOut o)) (cc))
lease_held world who caller (needs.Release n) busy stale at needed name e =
    stale.leased who caller name at (needed ∙ ap (λ (o : LegName). Some (needs.Release o)) (cc))
lease_held world who caller need busy stale at needed name e = absurd (cc)

pub step_seen : PeersSteps → OnlyWhatIsSeenCounts → (called : List LegName) (old new : Stored) (world : World)
    → ArePeers old.peers → NoneIsBusy world → NoneIsStale world
    → NumbersServeOne world → IsSeenIn called old world → (s : StoredSteps old new)
    → (choice : Choice) × (is_spent s.reply ≡ false → is_spent_choice choice ≡ false)
    × IsSeenIn (called_at s.caller.work.place s.reply ++ called) new (happens (Steps s.who choice) world)
step_seen laws counts called old new world are busy stale serve seen s =
    let at : slice_get world.callers s.who ≡ Some s.caller = ap (λ (cs : List Caller). slice_get cs s.who) seen.callers ∙ s.at in
    let scene = scene_of world s.caller in
    let call = is_call s.caller.work.place in
    let out = comes_out laws old new scene call are (record { book = seen.book; legs = seen.legs }) serve s.need s.reply
    (lease_held world s.who s.caller s.need busy stale at s.needed) s.made in
    let choice = plain scene s.need call out.choice in
    let left = answered scene s.need call choice.choice in
    let same : left ≡ answered scene s.need call out.choice = choice.same in
    let answers : left.reply ≡ seen_reply s.reply = ap (λ (a : Answer). a.reply) same ∙ out.answers in
    let leases : left.scene.leases ≡ leases_after s.need s.reply s.caller.leases = ap (λ (a : Answer). a.scene.leases) same
    ∙ out.leases in
    let work : after_told s.caller.work left.reply ≡ after_told s.caller.work s.reply = ap (after_told s.caller.work) answers
    ∙ sym (counts s.caller.work s.reply) in
    let names = called_at s.caller.work.place s.reply ++ called in
    let happened : happens (Steps s.who choice.choice) world ≡ after_answer world s.who s.caller.work left =
    ap (λ (o : Option Caller). steps world s.who o choice.choice)
    at ∙ ap (λ (n : Option Need). makes world s.who s.caller n choice.choice) s.needed in (
      choice.choice,
      λ unspent. choice.within (ap is_spent out.answers ∙ spent_seen s.reply ∙ unspent),
      subst (IsSeenIn names new) (sym happened) (record {
        book = ap (λ (a : Answer). a.scene.book) same ∙ out.book;
        callers = (λ i. slice_set (seen.callers i) s.who (record { work = work i; leases = leases i })) ∙ sym s.callers;
        legs = subst (λ (a : Answer). AreSeenIn a.scene.legs new.peers) (sym same) out.legs;
        outside =
            answered_called names scene (more called (called_at s.caller.work.place s.reply) world.legs seen.outside) s.need call
            choice.choice
            (λ name opens reply outside. called_now s.caller.work.place s.need s.reply left.reply name called s.needed answers
            opens reply outside);
      }),
    )

pub begin_seen : (called : List LegName) (old new : Stored) (world : World) → IsSeenIn called old world → (b : Begins old new)
    → IsSeenIn called new (happens (Starts b.who b.start) world)
begin_seen called old new world seen b =
    let at : slice_get world.callers b.who ≡ Some b.caller = ap (λ (cs : List Caller). slice_get cs b.who) seen.callers ∙ b.at in
    let left : World = record world { callers = slice_set world.callers b.who (record b.caller { work = work_of b.start }) } in
    let happened : happens (Starts b.who b.start) world ≡ left =
    ap (λ (o : Option Caller). starts world b.who o b.start) at ∙ ap (λ (n : Option Need). begins world b.who b.caller n b.start)
    b.idle in
    subst (IsSeenIn called new) (sym happened) (record {
      book = seen.book ∙ sym b.book;
      callers =
          ap (λ (cs : List Caller). slice_set cs b.who (record b.caller { work = work_of b.start })) seen.callers ∙ sym b.callers;
      legs = subst (AreSeenIn world.legs) (sym b.peers) seen.legs;
      outside = seen.outside;
    })

-- a change of a peer that leaves its legs isn't seen
becomes_seen : (called : List LegName) (old new : Stored) (world : World) (place : ℕ) (before after : PeerView)
    → IsSeenIn called old world → after.legs ≡ before.legs → Becomes place before after old new → IsSeenIn called new world
becomes_seen called old new world place before after seen legs b =
    record {
      book = seen.book ∙ sym b.book;
      callers = seen.callers ∙ sym b.callers;
      legs = subst (AreSeenIn world.legs) (sym b.peers) (record {
        sees = λ other peer there. elim (at_set old.peers place before after b.at other peer there) [
          | inl here ↦
              subst (λ (p : PeerView). Sees world.legs p.legs) here.1
              (subst (Sees world.legs) (sym legs) (seen.legs.sees place before b.at))
          | inr apart ↦ seen.legs.sees other peer apart.1
        ];
        none = λ other number there. seen.legs.none other number (none_at_set old.peers place before after b.at other there).1;
      });
      outside = seen.outside;
    }

pub out_seen : (called : List LegName) (old new : Stored) (world : World) → IsSeenIn called old world → TakesOut old new
    → IsSeenIn called new world
out_seen called old new world seen t =
    becomes_seen called old new world t.place t.before (record t.before { outbox = with_waiting t.before.outbox t.waiting }) seen
    refl t.becomes

pub draining_seen : (called : List LegName) (old new : Stored) (world : World) → IsSeenIn called old world
    → SetsDraining old new → IsSeenIn called new world
draining_seen called old new world seen d =
    becomes_seen called old new world d.place d.before (record d.before { drains = d.drains }) seen refl d.becomes
