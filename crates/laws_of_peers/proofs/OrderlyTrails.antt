-- What the steps of a trail carry on at the peer of a place.
use Rattle.std.proofs.Common.{◌≡◌, ◌≢◌, ℕ, ◌==◌, Bool, true, cond, List, [], ◌∷◌, Option, None, Some, slice_get}
use Rattle.std.proofs.Common.{refl, sym, ap, subst, ◌∙◌, inl, inr}
use Rattle.std.specs.Prelude.{Ok, Err}
use Rattle.std.proofs.lemmas.Bool.{cases_Bool, eqb-true, eq-eqb}
use Rattle.call_book.specs.declared.leg_name.LegName.{LegName}
use Rattle.call_signals.specs.declared.format.Format.{Format}
use Rattle.call_signals.specs.Order.{media_of, Kind, Order}
use Rattle.iax_frames.specs.FullFrame.{FullFrame}
use Rattle.iax_frames.specs.declared.datagram.Datagram.{Datagram}
use Rattle.laws_of_peers.specs.Followed.{AreSound, Follow, Leads, LeadsAll, LeadsAt, Obeys, place_of}
use Rattle.laws_of_peers.specs.Trails.{CarriesTrail, OrderedMedia, is_at, media_at, media_by, media_in, taken_at, taken_in}
use Rattle.step_log.specs.declared.made.Made.{Made}
use Rattle.step_log.specs.declared.made.Made.TheVariants as mades
use Rattle.laws_of_peers.proofs.TrailSteps.{Goes, goes_then, no_media, one_taken, order_goes}
use Rattle.peer_lock.specs.Arrivals.{datagram_step}
use Rattle.laws_of_peers.specs.CarriedOn.{CarriedOn, CarriesByOrder, CarriesOn, KeepsOrder, followed_by, nothing}
use Rattle.peer_lock.specs.Legs.{AreLegs, NamedLeg, leg_named}
use Rattle.peer_lock.specs.Openings.{opens_in, opens_out, rejects_new}
use Rattle.peer_lock.specs.Orders.{ordered_step}
use Rattle.peer_lock.specs.Peer.{PeerView, without_leg}
use Rattle.peer_lock.specs.SoundPeer.{IsSoundPeer}
use Rattle.peer_lock.specs.Ticks.{Ticks}
use Rattle.peer_lock.specs.declared.steps.Step.{Step}
use Rattle.peer_lock.specs.declared.steps.TickReport.{TickReport}

-- the peer at a place after a step
record Next (media : List OrderedMedia) (taken : List (List ℕ)) (first : PeerView) (place : ℕ)
    (new : List PeerView) : Type 0 where
  peer : PeerView
  at : slice_get new place ≡ Some peer
  sound : IsSoundPeer peer
  goes : Goes media taken first peer

module _ (datagrams : (first : ℕ) (peer : PeerView) (datagram : Datagram) (now : ℕ)
    → CarriesOn peer (datagram_step first peer datagram now).peer)
    (calls_in : (peer : PeerView) (name : LegName) (frame : FullFrame) (now : ℕ) (challenge : List ℕ)
    → CarriesOn peer (opens_in peer name frame now challenge).peer)
    (rejected_calls : (peer : PeerView) (frame : FullFrame) → CarriesOn peer (rejects_new peer frame).peer)
    (calls_out : (peer : PeerView) (name : LegName) (called : List ℕ) (caller : List ℕ) (format : Format) (now : ℕ)
    → CarriesOn peer (opens_out peer name called caller format now).peer)
    (orders_carry : (peer : PeerView) (name : LegName) (named : NamedLeg) (order : Order) (now : ℕ) → AreLegs peer.legs
    → leg_named peer.legs name ≡ Some named → CarriesByOrder order name.number peer (ordered_step peer name order now))
    (ticks : (old : PeerView) (now : ℕ) (report : TickReport) (new : PeerView) → Ticks old now report new → CarriesOn old new)
    (retiring : (peer : PeerView) (name : LegName) → CarriesOn peer (without_leg peer name))
    (none : (peer : PeerView) → KeepsOrder nothing peer peer)
    (together : (one other : CarriedOn) (old mid new : PeerView) → KeepsOrder one old mid → KeepsOrder other mid new
    → KeepsOrder (followed_by one other) old new) where
  stays : (peer : PeerView) → Goes [] [] peer peer
  stays peer = record {
    carried = nothing;
    order = none peer;
    taken_are = refl;
    ways = [];
    whole = refl;
    kept = refl;
    queued = refl;
    put = refl;
    dropped = refl;
  }

  unchanged : (old new : PeerView) → new ≡ old → Goes [] [] old new
  unchanged old new same = subst (λ (p : PeerView). Goes [] [] old p) (sym same) (stays old)

  draining_goes : (drains : Bool) (old new : PeerView) → new ≡ record old { drains = drains } → Goes [] [] old new
  draining_goes drains old new same =
      let before = none old in
      subst (λ (p : PeerView). Goes [] [] old p) (sym same) (record {
        carried = nothing;
        taken_are = refl;
        ways = [];
        whole = refl;
        kept = refl;
        queued = refl;
        put = refl;
        dropped = refl;
        order = record {
          rules = before.rules;
          queue = before.queue;
          outbox = before.outbox;
          lost = before.lost;
          dropped = before.dropped;
          outgoing = before.outgoing;
          in_turn = before.in_turn;
          ahead = before.ahead;
        };
      })

  becomes : (old mid new : PeerView) → new ≡ mid → CarriesOn old mid → Goes [] [] old new
  becomes old mid new same carries = subst (λ (p : PeerView). Goes [] [] old p) (sym same) (no_media old mid carries)

  obeys_goes : (peer : ℕ) (name : LegName) (kind : Kind) (media : List ℕ) (now : ℕ) (step : Step) (old new : PeerView)
      → IsSoundPeer old
      → Obeys name kind media now old new → Goes (media_in (mades.Order peer name kind media now (Ok step))) [] old new
  obeys_goes peer name kind media now step old new sound obeys =
      subst (λ (p : PeerView). Goes (media_by kind name media) [] old p) (sym obeys.becomes)
      (subst (λ (l : List ℕ). Goes (media_by kind name l) [] old (ordered_step old name obeys.order now)) obeys.media_is
      (subst (λ (k : Kind). Goes (media_by k name (media_of obeys.order)) [] old (ordered_step old name obeys.order now))
      obeys.kind_is
      (order_goes name obeys.order old (ordered_step old name obeys.order now)
      (orders_carry old name obeys.leg obeys.order now sound.legs obeys.named))))

  step_goes : (made : Made) (old new : PeerView) → IsSoundPeer old → Leads made old new
      → Goes (media_in made) (taken_in made) old new
  step_goes (mades.Datagram peer octets now (Ok step) onwards) old new sound leads =
      becomes old _ new leads.becomes (datagrams leads.first old leads.datagram now)
  step_goes (mades.Datagram peer octets now (Err error) onwards) old new sound leads = unchanged old new leads
  step_goes (mades.OpenIn peer name head payload now challenge (Ok step) onwards) old new sound leads =
      becomes old _ new leads.becomes (calls_in old name (record { head = head; payload = payload }) now challenge)
  step_goes (mades.OpenIn peer name head payload now challenge (Err error) onwards) old new sound leads = unchanged old new leads
  step_goes (mades.RejectNew peer head payload (Ok step)) old new sound leads =
      becomes old _ new leads.becomes (rejected_calls old (record { head = head; payload = payload }))
  step_goes (mades.RejectNew peer head payload (Err error)) old new sound leads = unchanged old new leads
  step_goes (mades.OpenOut peer name called caller format now (Ok step)) old new sound leads =
      becomes old _ new leads (calls_out old name called caller format now)
  step_goes (mades.OpenOut peer name called caller format now (Err error)) old new sound leads = unchanged old new leads
  step_goes (mades.Order peer name kind media now (Ok step)) old new sound leads =
      obeys_goes peer name kind media now step old new sound leads
  step_goes (mades.Order peer name kind media now (Err error)) old new sound leads = unchanged old new leads
  step_goes (mades.Tick peer now (Ok report)) old new sound leads = no_media old new (ticks old now report new leads)
  step_goes (mades.Tick peer now (Err spent)) old new sound leads = unchanged old new leads
  step_goes (mades.Retire peer name (Some leg)) old new sound leads = becomes old _ new leads.becomes (retiring old name)
  step_goes (mades.Retire peer name None) old new sound leads = unchanged old new leads
  step_goes (mades.TakeOut peer (Some out)) old new sound leads = one_taken out old new leads.oldest
  step_goes (mades.TakeOut peer None) old new sound leads = unchanged old new leads.empty.1
  step_goes (mades.SetDraining peer drains) old new sound leads = draining_goes drains old new leads
  step_goes (mades.Look peer number answer) old new sound leads = unchanged old new leads.stays
  step_goes (mades.Describe peer number answer) old new sound leads = unchanged old new leads.stays
  step_goes (mades.DescribeFrom peer number answer) old new sound leads = unchanged old new leads.stays
  step_goes (mades.CountLegs peer count) old new sound leads = unchanged old new leads.stays
  step_goes (mades.ShowSums peer sums) old new sound leads = unchanged old new leads.stays
  step_goes (mades.ShowLost peer lost) old new sound leads = unchanged old new leads.stays
  step_goes (mades.ShowPokes peer pokes) old new sound leads = unchanged old new leads.stays
  step_goes (mades.Reserve peer answer) old new sound leads = unchanged old new leads
  step_goes (mades.Bridge one other answer) old new sound leads = unchanged old new leads
  step_goes (mades.Partner name answer) old new sound leads = unchanged old new leads
  step_goes (mades.Release name answer) old new sound leads = unchanged old new leads
  step_goes (mades.NextSerial serial) old new sound leads = unchanged old new leads
  step_goes mades.Unasked old new sound leads = unchanged old new leads

  -- ---- at a place

  abbrev media_here : ℕ → Option ℕ → Made → List OrderedMedia
  media_here place other made = cond (is_at place other) (media_in made) []

  abbrev taken_here : ℕ → Option ℕ → Made → List (List ℕ)
  taken_here place other made = cond (is_at place other) (taken_in made) []

  next_at : (other : ℕ) (made : Made) (old new : List PeerView) (leads : LeadsAt other made old new) (place : ℕ)
      (first : PeerView)
      → IsSoundPeer first → slice_get old place ≡ Some first
      → Next (media_here place (Some other) made) (taken_here place (Some other) made) first place new
  next_at other made old new leads place first sound at = elim (cases_Bool (other == place)) [
    | inl e ↦
        let here : other ≡ place = eqb-true other place e in
        let both : Some leads.before ≡ Some first = sym leads.was ∙ ap (λ (n : ℕ). slice_get old n) here ∙ at in
        let same : leads.before ≡ first = cc in
        record {
          peer = leads.after;
          at = ap (λ (n : ℕ). slice_get new n) (sym here) ∙ leads.is;
          sound = leads.sound;
          goes = rw e (step_goes made first leads.after sound
              (subst (λ (p : PeerView). Leads made p leads.after) same leads.leads));
        }
    | inr e ↦
        let apart : place ≢ other = λ same. let test : (other == place) ≡ true = eq-eqb other place (sym same) in cc in
        record { peer = first; at = leads.others place apart ∙ at; sound = sound; goes = rw e (stays first) }
  ]

  next : (other : Option ℕ) (made : Made) (old new : List PeerView) (leads : LeadsAll other made old new) (place : ℕ)
      (first : PeerView)
      → IsSoundPeer first → slice_get old place ≡ Some first → Next (media_here place other made)
      (taken_here place other made) first place new
  next None made old new leads place first sound at =
      record {
        peer = first;
        at = ap (λ (peers : List PeerView). slice_get peers place) leads
            ∙ at;
        sound = sound;
        goes = stays first;
      }
  next (Some other) made old new leads place first sound at = next_at other made old new leads place first sound at

  follow_goes : (trail : List Made) (old new : List PeerView) → Follow trail old new → (place : ℕ) (first last : PeerView)
      → IsSoundPeer first → slice_get old place ≡ Some first → slice_get new place ≡ Some last
      → Goes (media_at place trail) (taken_at place trail) first last
  follow_goes [] old new follow place first last sound at_first at_last =
      let both : Some last ≡ Some first = sym at_last ∙ ap (λ (peers : List PeerView). slice_get peers place) follow ∙ at_first in
      let same : last ≡ first = cc in
      unchanged first last same
  follow_goes (made ∷ rest) old new follow place first last sound at_first at_last =
      let after = next (place_of made) made old follow.0 follow.1 place first sound at_first in
      goes_then together (media_here place (place_of made) made) (media_at place rest) (taken_here place (place_of made) made)
      (taken_at place rest) first after.peer last after.goes
      (follow_goes rest follow.0 new follow.2 place after.peer last after.sound after.at at_last)

  pub follow_carries : (trail : List Made) (old new : List PeerView) → AreSound old → Follow trail old new
      → (place : ℕ) (first last : PeerView)
      → slice_get old place ≡ Some first → slice_get new place ≡ Some last → CarriesTrail place trail first last
  follow_carries trail old new sound follow place first last at_first at_last =
      let goes = follow_goes trail old new follow place first last (sound place first at_first) at_first at_last in
      record {
        carried = goes.carried;
        order = goes.order;
        taken = goes.taken_are;
        ways = goes.ways;
        whole = goes.whole;
        kept = goes.kept;
        queued = goes.queued;
        put = goes.put;
        dropped = goes.dropped;
      }
