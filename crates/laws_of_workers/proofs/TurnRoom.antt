-- The steps of a turn put no more at each peer than its datagrams weigh together.
use Rattle.std.proofs.Common.{◌≡◌, ◌≢◌, ◌≤◌, ℕ, ◌+◌, ◌==◌, ◌&&◌, Bool, true, false, List, [], ◌∷◌, ◌++◌, Option}
use Rattle.std.proofs.Common.{None, Some, slice_get, refl, sym, ap, subst, ◌∙◌, inl, inr, append_assoc}
use Rattle.std.proofs.Common.{arith}
use Rattle.std.specs.Prelude.{nat_le}
use Rattle.std.proofs.lemmas.Bool.{cases_Bool, leb-true, eqb-true, eq-eqb}
use Rattle.std.proofs.lemmas.List.{append_cancel_left}
use Rattle.call_book.specs.declared.errors.ReserveError.TheVariants as reserve_errors
use Rattle.call_control.specs.Work.{at}
use Rattle.call_control.specs.declared.need.Need.TheVariants as needs
use Rattle.call_control.specs.declared.place.Place.TheVariants as places
use Rattle.call_control.specs.declared.reply.Reply.TheVariants as replies
use Rattle.exchange_core.specs.Traces.{Call, IsHeard}
use Rattle.laws_of_peers.specs.Followed.{AreSound, Follow, LeadsAll, loads_at, place_of}
use Rattle.step_log.specs.Notes.{Noted}
use Rattle.step_log.specs.declared.made.Made.{Made}
use Rattle.step_log.specs.declared.made.Made.TheVariants as mades
use Rattle.peer_lock.specs.Peer.{PeerView}
use Rattle.peer_lock.specs.SoundPeer.{IsSoundPeer}
use Rattle.peer_lock.specs.declared.errors.PeerError.TheVariants as peer_errors
use Rattle.peer_plan.specs.Plan.{PlanView}
use Rattle.peer_plan.specs.declared.endpoint.Endpoint.{Endpoint}
use Rattle.udp_wires.specs.Parcels.{Parcel}
use Rattle.udp_workers.specs.Intake.{DatagramWeight, IsWeightOf, TakesAll, TurnView, Weigh, fits}
use Rattle.udp_workers.specs.Ticked.{IsLater}
use Rattle.laws_of_workers.proofs.RoomLaws.{none_few, none_noted}
use Rattle.udp_workers.proofs.TickLaws.{heard_later, later_on, later_same}

-- ---- all datagrams of a turn

-- a turn only adds to the notes
pub takes_later : (plan : PlanView) (turn : TurnView) (arrivals : List Parcel) (old new : Noted)
    → TakesAll plan turn arrivals old new
    → IsLater old new
takes_later plan turn [] old new takes = subst (IsLater old) (sym takes) (later_same old)
takes_later plan turn (arrival ∷ earlier) old new takes =
    let before = takes_later plan turn earlier old takes.0 takes.1 in
    elim takes.2.heard [
      | inl away ↦ subst (IsLater old) (sym (takes.2.away away)) before
      | inr heard ↦ later_on old takes.0 new before (heard_later plan arrival.endpoint _ takes.0 new heard)
    ]

-- peers that follow two trails, one after the other
record Split (one other : List Made) (old new : List PeerView) (place : ℕ) (follow : Follow (one ++ other) old new) : Type 0 where
  mid : List PeerView
  first : Follow one old mid
  second : Follow other mid new
  loads : (loads_at place (one ++ other) old new follow).datagrams ≡ (loads_at place one old mid first).datagrams
      + (loads_at place other mid new second).datagrams

split : (one other : List Made) (old new : List PeerView) (place : ℕ) (follow : Follow (one ++ other) old new)
    → Split one other old new place follow
split [] other old new place follow = record { mid = old; first = refl; second = follow; loads = omega arith }
split (step ∷ one) other old new place follow =
    let rest = split one other follow.0 new place follow.2 in
    record { mid = rest.mid; first = (follow.0, follow.1, rest.first); second = rest.second; loads = omega (arith, rest.loads) }

step_sound : (at_place : Option ℕ) (made : Made) (old new : List PeerView) → LeadsAll at_place made old new → AreSound old
    → AreSound new
step_sound None made old new leads sound = subst AreSound (sym leads) sound
step_sound (Some other) made old new leads sound = λ place peer there. elim (cases_Bool (place == other)) [
  | inl e ↦
      let here : place ≡ other = eqb-true place other e in
      let both : Some leads.after ≡ Some peer = sym leads.is ∙ ap (slice_get new) (sym here) ∙ there in
      let same : leads.after ≡ peer = cc in
      subst IsSoundPeer same leads.sound
  | inr e ↦
      let apart : place ≢ other = λ same. let test : (place == other) ≡ true = eq-eqb place other same in cc in
      sound place peer (sym (leads.others place apart) ∙ there)
]

follow_sound : (trail : List Made) (old new : List PeerView) → Follow trail old new → AreSound old → AreSound new
follow_sound [] old new follow sound = subst AreSound (sym follow) sound
follow_sound (made ∷ rest) old new follow sound = follow_sound rest follow.0 new follow.2
    (step_sound (place_of made) made old follow.0 follow.1 sound)

module _ (heard : (plan : PlanView) (from : Endpoint) (call : Call) (weight : DatagramWeight) (old new : Noted) (trail : List
    Made)
    (before after : List PeerView)
    (follow : Follow trail before after) (place : ℕ) → IsHeard plan from call old new → new.made ≡ old.made ++ trail
    → IsWeightOf call.octets weight → AreSound before
    → (loads_at place trail before after follow).datagrams ≤ weight.entries) where
  pub turn_few : (plan : PlanView) (turn : TurnView) (arrivals : List Parcel) (weight : DatagramWeight) (old new : Noted)
      (trail : List Made) (before after : List PeerView)
      (follow : Follow trail before after) (place : ℕ) → TakesAll plan turn arrivals old new → new.made ≡ old.made ++ trail
      → Weigh arrivals weight → AreSound before
      → (loads_at place trail before after follow).datagrams ≤ weight.entries
  turn_few plan turn [] weight old new trail before after follow place takes noted weighs sound =
      none_few trail place weight.entries before after follow
      (none_noted old.made trail (sym (ap (λ (n : Noted). n.made) takes) ∙ noted))
  turn_few plan turn (arrival ∷ earlier) weight old new trail before after follow place takes noted weighs sound =
      let more : weight.entries ≡ weighs.1.entries + weighs.0.entries = ap (λ (w : DatagramWeight). w.entries) weighs.4 in
      elim takes.2.heard [
        | inl away ↦
            let same : takes.0.made ≡ old.made ++ trail = sym (ap (λ (n : Noted). n.made) (takes.2.away away)) ∙ noted in
            let few = turn_few plan turn earlier weighs.1 old takes.0 trail before after follow place takes.1 same weighs.3
            sound in
            omega (arith, few, more)
        | inr last ↦
            let later = takes_later plan turn earlier old takes.0 takes.1 in
            let added = heard_later plan arrival.endpoint _ takes.0 new last in
            let whole : trail ≡ later.0 ++ added.0 =
            append_cancel_left old.made trail (later.0 ++ added.0)
            (sym noted ∙ added.1 ∙ ap (λ (m : List Made). m ++ added.0) later.1 ∙ append_assoc old.made later.0 added.0) in
            subst (λ (s : List Made). (f : Follow s before after) → (loads_at place s before after f).datagrams ≤ weight.entries)
            (sym whole) (λ f.
            let parts = split later.0 added.0 before after place f in
            let few = turn_few plan turn earlier weighs.1 old takes.0 later.0 before parts.mid parts.first place takes.1 later.1
            weighs.3
            sound in
            let one = heard plan arrival.endpoint _ weighs.0 takes.0 new added.0 parts.mid after parts.second place last added.1
            weighs.2
            (follow_sound later.0 before parts.mid parts.first sound) in
            omega (arith, parts.loads, few, one, more)) follow
      ]

-- ---- datagrams that fit

first_of_both : (a b : Bool) → (a && b) ≡ true → a ≡ true
first_of_both true b is = refl
first_of_both false b is = is

pub entries_fit : (weight : DatagramWeight) → fits weight ≡ true → weight.entries ≤ 255
entries_fit weight is =
    leb-true weight.entries 255 (first_of_both (nat_le weight.entries 255) (nat_le weight.octets 16384 && nat_le weight.openings
    1) is)
