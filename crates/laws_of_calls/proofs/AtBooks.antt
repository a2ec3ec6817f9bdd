-- A step of the stored book, and one that changes nothing, is one of the world.
use Rattle.std.specs.Prelude.{Result, Ok, Err}
use Rattle.std.proofs.Common.{◌≡◌, ℕ, Bool, true, false, List, Option, Some, None, slice_get, refl, sym, ap, subst, ◌∙◌, inl, inr}
use Rattle.std.proofs.lemmas.Bool.{cases_Bool}
use Rattle.call_book.specs.Book.{Book, has_name, reserve_answer, after_reserve, taken, tail, free_of, bridge_answer, partner_of}
use Rattle.call_book.specs.Book.{after_bridge, after_release, release_answer}
use Rattle.call_book.specs.declared.errors.BridgeError.{BridgeError}
use Rattle.call_book.specs.declared.errors.ReserveError.{ReserveError}
use Rattle.call_book.specs.declared.leg_name.LegName.{LegName}
use Rattle.call_signals.specs.Order.{kind_of}
use Rattle.call_control.specs.Scene.{Leg, Scene, Choice, Goes, KeepsLeg, Answer, answer, answered, is_leased, dropped, leg_at}
use Rattle.call_control.specs.Scene.{if_named, at_leg, status_of, told_cause, reserves, bridges}
use Rattle.call_control.specs.SeenReply.{seen_reply}
use Rattle.call_signals.specs.declared.order.Command.{Command}
use Rattle.call_signals.specs.declared.signal.MediaSpan.{MediaSpan}
use Rattle.call_control.specs.declared.need.Need.{Need}
use Rattle.call_control.specs.declared.need.Need.TheVariants as needs
use Rattle.call_control.specs.declared.reply.Reply.{Reply}
use Rattle.call_control.specs.declared.reply.Reply.TheVariants as replies
use Rattle.peer_lock.specs.Peer.{PeerView}
use Rattle.peer_lock.specs.declared.errors.OrderError.TheVariants as order_errors
use Rattle.laws_of_calls.specs.Stored.{Stored, ArePeers, AreSeenIn}
use Rattle.laws_of_calls.specs.StoredSteps.{AtBook, Reserves, Bridges, Releases, Answers, IsRefused, IsNobodys, leases_after}
use Rattle.laws_of_calls.specs.StoredSteps.{look_at}
use Rattle.laws_of_calls.proofs.WorldSteps.{PeersSteps, ComesOut, IsSceneOf}

-- the state after a call of the book for a name
abbrev reserved_as : Scene → ℕ → Result LegName ReserveError → Answer
reserved_as scene peer r =
    let leases = leases_after (needs.Reserve peer) (replies.Reserve r) scene.leases in
    answer (record scene { book = after_reserve scene.book peer; leases = leases }) (replies.Reserve r)

abbrev refused_as : Scene → ℕ → Result LegName ReserveError → ReserveError → Answer
refused_as scene peer r error =
    answer (record scene { book = taken scene.book r (tail (free_of scene.book peer)) }) (replies.Reserve (Err error))

module _ (laws : PeersSteps) (old new : Stored) (scene : Scene) (called : Bool) (are : ArePeers old.peers)
    (of : IsSceneOf scene old) where
  -- the world's step leaves this book and these leases, with this answer
  at_book : (need : Need) (reply : Reply) (book : Book) (a : Reply) (leases : List LegName) (choice : Choice)
      → AtBook book a old new reply
      → answered scene need called choice ≡ answer (record scene { book = book; leases = leases }) (seen_reply a)
      → leases ≡ leases_after need a scene.leases
      → ComesOut scene need called new reply
  at_book need reply book a leases choice made is after =
      subst (ComesOut scene need called new) (sym made.answers) (record {
        choice = choice;
        answers = ap (λ (b : Answer). b.reply) is;
        book = ap (λ (b : Answer). b.scene.book) is ∙ sym made.becomes;
        leases = ap (λ (b : Answer). b.scene.leases) is ∙ after;
        legs = subst (λ (b : Answer). AreSeenIn b.scene.legs new.peers) (sym is)
            (subst (AreSeenIn scene.legs) (sym made.peers) of.legs);
      })

  -- nothing is changed
  unchanged : (need : Need) (reply a : Reply) (choice : Choice) → Answers a old new reply
      → answered scene need called choice ≡ answer scene (seen_reply a)
      → scene.leases ≡ leases_after need a scene.leases → ComesOut scene need called new reply
  unchanged need reply a choice made is after =
      let here = subst (λ (b : Book). AtBook b a old new reply) (sym of.book) made in
      at_book need reply scene.book a scene.leases choice here is after

  pub refuses : {E : Type 0} (need : Need) (reply : Reply) (a : E → Reply) (choice : E → Choice)
      → ((error : E) → answered scene need called (choice error) ≡ answer scene (seen_reply (a error)))
      → ((error : E) → scene.leases ≡ leases_after need (a error) scene.leases) → IsRefused a old new reply
      → ComesOut scene need called new reply
  refuses need reply a choice is after made =
      unchanged need reply (a made.error) (choice made.error) made.unchanged (is made.error) (after made.error)

  pub keeps : (name : LegName) (reply : Reply) → Answers (replies.Retire false) old new reply
      → ComesOut scene (needs.Retire name) called new reply
  keeps name reply made = unchanged (needs.Retire name) reply (replies.Retire false) KeepsLeg made refl refl

  -- no leg of the world is of a peer that doesn't exist
  pub is_gone : (name : LegName) (command : Command MediaSpan) (reply : Reply) → IsNobodys name.peer old new reply
      → ComesOut scene (needs.Order name command) called new reply
  is_gone name command reply made =
      unchanged (needs.Order name command) reply (replies.Order (Err order_errors.Gone)) Goes made.unchanged
      (ap (λ (l : Option Leg). at_leg scene (kind_of command) (if_named name l) Goes)
      (of.legs.none name.peer name.number made.nobody)) refl

  pub looks : (place number : ℕ) (reply : Reply)
      → Answers (replies.Look (look_at (slice_get old.peers place) number)) old new reply
      → ComesOut scene (needs.Look place number) called new reply
  looks place number reply made =
      let told = go (slice_get old.peers place) refl in
      unchanged (needs.Look place number) reply (replies.Look (look_at (slice_get old.peers place) number)) told.0 made
      (ap (answer scene) told.1) refl
    where
      go : (o : Option PeerView) → slice_get old.peers place ≡ o
          → (choice : Choice) × (replies.Look (status_of (told_cause choice) (leg_at scene.legs place number)) ≡ seen_reply
          (replies.Look (look_at o number)))
      go None at = (Goes, ap (λ (l : Option Leg). replies.Look (status_of (told_cause Goes) l)) (of.legs.none place number at))
      go (Some peer) at =
          let seen = seen_reply (replies.Look (look_at (Some peer) number)) in
          let step = laws.looks peer.legs number scene called (of.legs.sees place peer at) in (
            step.choice,
            subst (λ (n : ℕ). replies.Look (status_of (told_cause step.choice) (leg_at scene.legs n number)) ≡ seen)
                (are place peer at).place_is step.answers,
          )

  pub partners : (name : LegName) (reply : Reply) → Answers (replies.Partner (partner_of old.book name)) old new reply
      → ComesOut scene (needs.Partner name) called new reply
  partners name reply made =
      unchanged (needs.Partner name) reply (replies.Partner (partner_of scene.book name)) Goes
      (subst (λ (b : Book). Answers (replies.Partner (partner_of b name)) old new reply) (sym of.book) made) refl refl

  pub reserved : (peer : ℕ) (reply : Reply) → Reserves old.book peer old new reply
      → ComesOut scene (needs.Reserve peer) called new reply
  reserved peer reply made =
      let said = replies.Reserve (reserve_answer scene.book peer) in
      at_book (needs.Reserve peer) reply (after_reserve scene.book peer) said
      (leases_after (needs.Reserve peer) said scene.leases)
      Goes (subst (λ (b : Book). Reserves b peer old new reply) (sym of.book) made)
      (go (reserve_answer scene.book peer) refl) refl
    where
      go : (r : Result LegName ReserveError) → reserve_answer scene.book peer ≡ r
          → reserves scene peer r ≡ reserved_as scene peer r
      go (Ok name) e = refl
      go (Err error) e = ap (λ (s : Result LegName ReserveError). refused_as scene peer s error) (sym e)

  pub bridged_so : (a b : LegName) (reply : Reply) → Bridges old.book a b old new reply
      → ComesOut scene (needs.Bridge a b) called new reply
  bridged_so a b reply made =
      at_book (needs.Bridge a b) reply (after_bridge scene.book a b (bridge_answer scene.book a b))
      (replies.Bridge (bridge_answer scene.book a b)) scene.leases Goes
      (subst (λ (k : Book). Bridges k a b old new reply) (sym of.book) made) (go (bridge_answer scene.book a b)) refl
    where
      go : (r : Result (Unit {0}) BridgeError)
          → bridges scene a b r ≡ answer (record scene { book = after_bridge scene.book a b r }) (replies.Bridge r)
      go (Ok done) = refl
      go (Err error) = refl

  pub released_so : (name : LegName) (reply : Reply) → is_leased scene.leases name ≡ true → Releases old.book name old new reply
      → ComesOut scene (needs.Release name) called new reply
  released_so name reply leased made =
      let known = has_name scene.book name in
      at_book (needs.Release name) reply (after_release scene.book name known)
      (replies.Release (release_answer scene.book name known))
      (dropped scene.leases name) Goes (subst (λ (b : Book). Releases b name old new reply) (sym of.book) made)
      (elim (cases_Bool (has_name scene.book name)) [ inl e ↦ rw (leased, e) refl | inr e ↦ rw (leased, e) refl ]) refl
