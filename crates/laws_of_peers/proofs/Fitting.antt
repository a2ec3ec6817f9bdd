-- The load that the steps of a trail put at a peer, one step after another.
use Rattle.std.proofs.Common.{◌≡◌, ◌≢◌, ℕ, ◌==◌, arith, Bool, true, List, [], ◌∷◌, Option, None, Some, length, slice_get, refl}
use Rattle.std.proofs.Common.{sym, ap, subst, ◌∙◌, inl, inr}
use Rattle.std.specs.Prelude.{Ok, Err}
use Rattle.std.proofs.lemmas.Bool.{cases_Bool, eqb-true, eq-eqb}
use Rattle.call_book.specs.declared.leg_name.LegName.{LegName}
use Rattle.call_signals.specs.Order.{kind_of, media_of, Kind, Order}
use Rattle.call_signals.specs.declared.format.Format.{Format}
use Rattle.iax_frames.specs.FullFrame.{FullFrame}
use Rattle.iax_frames.specs.declared.datagram.Datagram.{Datagram}
use Rattle.leg_machine.specs.OrderTable.{IsShortMedia}
use Rattle.laws_of_peers.specs.Followed.{Follow, Leads, LeadsAll, LeadsAt, Obeys, load_at, load_of_step, loads_at, place_of}
use Rattle.step_log.specs.declared.made.Made.{Made}
use Rattle.step_log.specs.declared.made.Made.TheVariants as mades
use Rattle.peer_lock.specs.Arrivals.{datagram_step}
use Rattle.laws_of_peers.specs.Loads.{Load, Puts, datagram_load, load_of, no_load, order_load, plus, tick_load}
use Rattle.peer_lock.specs.Openings.{opens_in, opens_out, rejects_new}
use Rattle.peer_lock.specs.Orders.{ordered_step}
use Rattle.peer_lock.specs.Peer.{PeerView, TakesOut, without_leg}
use Rattle.peer_lock.specs.Ticks.{Ticks}
use Rattle.peer_lock.specs.declared.steps.TickReport.{TickReport}

-- the peer at a place after a step, and the load that the step put there
record Next (load : Load) (first : PeerView) (place : ℕ) (new : List PeerView) : Type 0 where
  peer : PeerView
  at : slice_get new place ≡ Some peer
  puts : Puts load first peer

module _ (datagrams : (first : ℕ) (peer : PeerView) (datagram : Datagram) (now : ℕ) → Puts (datagram_load peer datagram now) peer
    (datagram_step first peer datagram now).peer)
    (calls_in : (peer : PeerView) (name : LegName) (frame : FullFrame) (now : ℕ) (challenge : List ℕ)
    → Puts (load_of 1) peer (opens_in peer name frame now challenge).peer)
    (rejected_calls : (peer : PeerView) (frame : FullFrame) → Puts (load_of 1) peer (rejects_new peer frame).peer)
    (calls_out : (peer : PeerView) (name : LegName) (called : List ℕ) (caller : List ℕ) (format : Format) (now : ℕ)
    → Puts (load_of 1) peer (opens_out peer name called caller format now).peer)
    (orders_put : (peer : PeerView) (name : LegName) (order : Order) (now : ℕ) → IsShortMedia order
    → Puts (order_load (kind_of order) (length (media_of order))) peer (ordered_step peer name order now))
    (ticks_put : (old : PeerView) (now : ℕ) (report : TickReport) (new : PeerView) (ticks : Ticks old now report new)
    → Puts (tick_load old now report new ticks) old new)
    (retiring : (peer : PeerView) (name : LegName) → Puts no_load peer (without_leg peer name))
    (none : (peer : PeerView) → Puts no_load peer peer)
    (together : (one other : Load) (old mid new : PeerView) → Puts one old mid → Puts other mid new
    → Puts (plus one other) old new) where
  unchanged : (old new : PeerView) → new ≡ old → Puts no_load old new
  unchanged old new same = subst (λ (p : PeerView). Puts no_load old p) (sym same) (none old)

  taken_puts : (out : List ℕ) (old new : PeerView) → TakesOut out old new → Puts no_load old new
  taken_puts out old new takes =
      let shorter = ap (λ (waiting : List (List ℕ)). length waiting) takes.oldest in
      subst (λ (p : PeerView). Puts no_load old p) (sym takes.becomes) (record {
        rules = refl;
        most = omega (arith, shorter);
        sent = λ fits. refl;
        entries = omega arith;
        octets = omega arith;
        queued = λ room. refl;
      })

  draining_puts : (drains : Bool) (old new : PeerView) → new ≡ record old { drains = drains } → Puts no_load old new
  draining_puts drains old new same =
      let before = none old in
      subst (λ (p : PeerView). Puts no_load old p) (sym same) (record {
        rules = before.rules;
        most = before.most;
        sent = before.sent;
        entries = before.entries;
        octets = before.octets;
        queued = before.queued;
      })

  obeys_puts : (name : LegName) (kind : Kind) (media : List ℕ) (now : ℕ) (old new : PeerView)
      → Obeys name kind media now old new
      → Puts (order_load kind (length media)) old new
  obeys_puts name kind media now old new obeys =
      subst (λ (p : PeerView). Puts (order_load kind (length media)) old p) (sym obeys.becomes)
      (subst (λ (l : List ℕ). Puts (order_load kind (length l)) old (ordered_step old name obeys.order now)) obeys.media_is
      (subst (λ (k : Kind). Puts (order_load k (length (media_of obeys.order))) old (ordered_step old name obeys.order now))
      obeys.kind_is
      (orders_put old name obeys.order now obeys.short)))

  step_puts : (made : Made) (old new : PeerView) (leads : Leads made old new) → Puts (load_of_step made old new leads) old new
  step_puts (mades.Datagram peer octets now (Ok step) onwards) old new leads =
      subst (λ (p : PeerView). Puts (datagram_load old leads.datagram now) old p) (sym leads.becomes)
      (datagrams leads.first old leads.datagram now)
  step_puts (mades.Datagram peer octets now (Err error) onwards) old new leads = unchanged old new leads
  step_puts (mades.OpenIn peer name head payload now challenge (Ok step) onwards) old new leads =
      subst (λ (p : PeerView). Puts (load_of 1) old p) (sym leads.becomes)
      (calls_in old name (record { head = head; payload = payload }) now challenge)
  step_puts (mades.OpenIn peer name head payload now challenge (Err error) onwards) old new leads = unchanged old new leads
  step_puts (mades.RejectNew peer head payload (Ok step)) old new leads =
      subst (λ (p : PeerView). Puts (load_of 1) old p) (sym leads.becomes)
      (rejected_calls old (record { head = head; payload = payload }))
  step_puts (mades.RejectNew peer head payload (Err error)) old new leads = unchanged old new leads
  step_puts (mades.OpenOut peer name called caller format now (Ok step)) old new leads =
      subst (λ (p : PeerView). Puts (load_of 1) old p) (sym leads) (calls_out old name called caller format now)
  step_puts (mades.OpenOut peer name called caller format now (Err error)) old new leads = unchanged old new leads
  step_puts (mades.Order peer name kind media now (Ok step)) old new leads = obeys_puts name kind media now old new leads
  step_puts (mades.Order peer name kind media now (Err error)) old new leads = unchanged old new leads
  step_puts (mades.Tick peer now (Ok report)) old new leads = ticks_put old now report new leads
  step_puts (mades.Tick peer now (Err spent)) old new leads = unchanged old new leads
  step_puts (mades.Retire peer name (Some leg)) old new leads =
      subst (λ (p : PeerView). Puts no_load old p) (sym leads.becomes) (retiring old name)
  step_puts (mades.Retire peer name None) old new leads = unchanged old new leads
  step_puts (mades.TakeOut peer (Some out)) old new leads = taken_puts out old new leads.oldest
  step_puts (mades.TakeOut peer None) old new leads = unchanged old new leads.empty.1
  step_puts (mades.SetDraining peer drains) old new leads = draining_puts drains old new leads
  step_puts (mades.Look peer number answer) old new leads = unchanged old new leads.stays
  step_puts (mades.Describe peer number answer) old new leads = unchanged old new leads.stays
  step_puts (mades.DescribeFrom peer number answer) old new leads = unchanged old new leads.stays
  step_puts (mades.CountLegs peer count) old new leads = unchanged old new leads.stays
  step_puts (mades.ShowSums peer sums) old new leads = unchanged old new leads.stays
  step_puts (mades.ShowLost peer lost) old new leads = unchanged old new leads.stays
  step_puts (mades.ShowPokes peer pokes) old new leads = unchanged old new leads.stays
  step_puts (mades.Reserve peer answer) old new leads = unchanged old new leads
  step_puts (mades.Bridge one other answer) old new leads = unchanged old new leads
  step_puts (mades.Partner name answer) old new leads = unchanged old new leads
  step_puts (mades.Release name answer) old new leads = unchanged old new leads
  step_puts (mades.NextSerial serial) old new leads = unchanged old new leads
  step_puts mades.Unasked old new leads = unchanged old new leads

  next_at : (other : ℕ) (made : Made) (old new : List PeerView) (leads : LeadsAt other made old new) (place : ℕ)
      (first : PeerView)
      → slice_get old place ≡ Some first → Next (load_at place (Some other) made old new leads) first place new
  next_at other made old new leads place first at = elim (cases_Bool (other == place)) [
    | inl e ↦
        let here : other ≡ place = eqb-true other place e in
        let both : Some leads.before ≡ Some first = sym leads.was ∙ ap (λ (n : ℕ). slice_get old n) here ∙ at in
        let same : leads.before ≡ first = cc in
        record {
          peer = leads.after;
          at = ap (λ (n : ℕ). slice_get new n) (sym here) ∙ leads.is;
          puts = rw e (subst (λ (p : PeerView). Puts (load_of_step made leads.before leads.after leads.leads) p leads.after) same
              (step_puts made leads.before leads.after leads.leads));
        }
    | inr e ↦
        let apart : place ≢ other = λ same. let test : (other == place) ≡ true = eq-eqb other place (sym same) in cc in
        record { peer = first; at = leads.others place apart ∙ at; puts = rw e (none first) }
  ]

  next : (other : Option ℕ) (made : Made) (old new : List PeerView) (leads : LeadsAll other made old new) (place : ℕ)
      (first : PeerView)
      → slice_get old place ≡ Some first → Next (load_at place other made old new leads) first place new
  next None made old new leads place first at =
      record { peer = first; at = ap (λ (peers : List PeerView). slice_get peers place) leads ∙ at; puts = none first }
  next (Some other) made old new leads place first at = next_at other made old new leads place first at

  pub follow_puts : (trail : List Made) (old new : List PeerView) (follow : Follow trail old new) (place : ℕ)
      (first last : PeerView)
      → slice_get old place ≡ Some first → slice_get new place ≡ Some last → Puts (loads_at place trail old new follow) first last
  follow_puts [] old new follow place first last at_first at_last =
      let both : Some last ≡ Some first = sym at_last ∙ ap (λ (peers : List PeerView). slice_get peers place) follow ∙ at_first in
      let same : last ≡ first = cc in
      unchanged first last same
  follow_puts (made ∷ rest) old new follow place first last at_first at_last =
      let after = next (place_of made) made old follow.0 follow.1 place first at_first in
      together (load_at place (place_of made) made old follow.0 follow.1) (loads_at place rest follow.0 new follow.2) first
      after.peer last
      after.puts (follow_puts rest follow.0 new follow.2 place after.peer last after.at at_last)
