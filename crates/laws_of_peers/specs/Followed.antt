-- The effect of a trail's notes on the peers of a plan and on the book, if no one else calls them, and the load that they
-- put at each peer.
use Rattle.std.specs.Prelude.{◌≡◌, ◌≢◌, ℕ, ◌==◌, List, [], ◌∷◌, length, slice_get, Option, None, Some, Ok, if◌then◌else◌}
use Rattle.std.specs.Prelude.{true, count_by, is_some, option_map}
use Rattle.call_book.specs.Book.{Book, after_bridge, after_release, after_reserve, bridge_answer, has_name, partner_of}
use Rattle.call_book.specs.Book.{release_answer, reserve_answer}
use Rattle.call_book.specs.declared.leg_name.LegName.{LegName}
use Rattle.call_signals.specs.Order.{kind_of, media_of, Kind, Order}
use Rattle.iax_frames.specs.Datagram.{Spells}
use Rattle.iax_frames.specs.declared.datagram.Datagram.{Datagram}
use Rattle.iax_frames.specs.declared.full_frame.FullHead.{FullHead}
use Rattle.leg_machine.specs.OrderTable.{IsShortMedia}
use Rattle.step_log.specs.declared.made.Made.{Made}
use Rattle.step_log.specs.declared.made.Made.TheVariants as mades
use Rattle.peer_lock.specs.Accounts.{shown}
use Rattle.peer_lock.specs.Arrivals.{datagram_step}
use Rattle.peer_lock.specs.Descriptions.{description_from, description_of}
use Rattle.peer_lock.specs.HandedUp.{HandedUp}
use Rattle.peer_lock.specs.Legs.{NamedLeg, leg_at, leg_named}
use Rattle.laws_of_peers.specs.Loads.{Load, datagram_load, load_of, no_load, order_load, plus, tick_load}
use Rattle.peer_lock.specs.Openings.{opens_in, opens_out, rejects_new}
use Rattle.peer_lock.specs.Orders.{ordered_step}
use Rattle.peer_lock.specs.Peer.{PeerView, WasTakenOut, without_leg}
use Rattle.peer_lock.specs.SoundPeer.{IsSoundPeer}
use Rattle.peer_lock.specs.Statuses.{facts_of, is_done, status_of}
use Rattle.peer_lock.specs.Ticks.{Ticks}
use Rattle.peer_lock.specs.declared.steps.EndedLeg.{EndedLeg}
use Rattle.peer_lock.specs.declared.steps.Step.{Step}
use Rattle.seq_window.specs.History.{IsLegal}

-- ---- one step, at its peer

-- a datagram was handled; first: the octet credit with which every peer begins
pub record Works (octets : List ℕ) (now : ℕ) (step : Step) (onwards : HandedUp) (old new : PeerView) : Type 0 where
  pub first : ℕ
  pub datagram : Datagram
  pub spelled : Spells octets datagram
  pub becomes : new ≡ (datagram_step first old datagram now).peer
  pub answers : step ≡ (datagram_step first old datagram now).step
  pub signals : onwards.signals ≡ (datagram_step first old datagram now).signals

-- a NEW opened a leg
pub record OpensIn (name : LegName) (head : FullHead) (payload : List ℕ) (now : ℕ) (challenge : List ℕ) (step : Step)
    (onwards : HandedUp) (old new : PeerView) : Type 0 where
  pub becomes : new ≡ (opens_in old name (record { head = head; payload = payload }) now challenge).peer
  pub answers : step ≡ (opens_in old name (record { head = head; payload = payload }) now challenge).step
  pub signals : onwards.signals ≡ (opens_in old name (record { head = head; payload = payload }) now challenge).signals

-- a NEW was rejected because no number was free
pub record RejectsNew (head : FullHead) (payload : List ℕ) (step : Step) (old new : PeerView) : Type 0 where
  pub becomes : new ≡ (rejects_new old (record { head = head; payload = payload })).peer
  pub answers : step ≡ (rejects_new old (record { head = head; payload = payload })).step

-- the leg of a name obeyed an order, whose kind and media are noted
pub record Obeys (name : LegName) (kind : Kind) (media : List ℕ) (now : ℕ) (old new : PeerView) : Type 0 where
  pub leg : NamedLeg
  pub named : leg_named old.legs name ≡ Some leg
  pub order : Order
  pub kind_is : kind_of order ≡ kind
  pub media_is : media_of order ≡ media
  pub short : IsShortMedia order
  pub becomes : new ≡ ordered_step old name order now

-- the leg of a name was given up: it had ended and owed nothing, and its facts and its record came out, which is one that a
-- window of the peer's own width and limit may have
pub record GivesUp (name : LegName) (given : EndedLeg) (old new : PeerView) : Type 0 where
  pub leg : NamedLeg
  pub named : leg_named old.legs name ≡ Some leg
  pub done : is_done (Some leg) ≡ true
  pub facts : given.facts ≡ facts_of leg
  pub entries : given.history.entries ≡ leg.leg.window.history
  pub ruled : IsLegal old.rules.window old.rules.record_limit given.history.entries
  pub becomes : new ≡ without_leg old name

-- a query had this answer, which is what is shown of the peer, and changed nothing
pub record Tells {A : Type 0} (shows : PeerView → A) (answer : A) (old new : PeerView) : Type 0 where
  pub answers : answer ≡ shows old
  pub stays : new ≡ old

-- The effect on its peer of each call that is noted. A refused step changes nothing. Nothing else changes a locked peer.
abbrev pub Leads : Made → PeerView → PeerView → Type 0
Leads (mades.Datagram peer octets now (Ok step) onwards) old new = Works octets now step onwards old new
Leads (mades.OpenIn peer name head payload now challenge (Ok step) onwards) old new =
    OpensIn name head payload now challenge step onwards old new
Leads (mades.RejectNew peer head payload (Ok step)) old new = RejectsNew head payload step old new
Leads (mades.OpenOut peer name called caller format now (Ok step)) old new =
    new ≡ (opens_out old name called caller format now).peer
Leads (mades.Order peer name kind media now (Ok step)) old new = Obeys name kind media now old new
Leads (mades.Tick peer now (Ok report)) old new = Ticks old now report new
Leads (mades.Retire peer name (Some given)) old new = GivesUp name given old new
Leads (mades.TakeOut peer out) old new = WasTakenOut out old new
Leads (mades.SetDraining peer drains) old new = new ≡ record old { drains = drains }
Leads (mades.Look peer number answer) old new = Tells (λ p. option_map status_of (leg_at p.legs number)) answer old new
Leads (mades.Describe peer number answer) old new =
    Tells (λ p. option_map description_of (leg_at p.legs number)) answer old new
Leads (mades.DescribeFrom peer number answer) old new = Tells (λ p. description_from p.legs number) answer old new
Leads (mades.CountLegs peer count) old new = Tells (λ p. count_by is_some p.legs.places) count old new
Leads (mades.ShowSums peer sums) old new = Tells (λ p. shown p.accounts) sums old new
Leads (mades.ShowLost peer lost) old new = Tells (λ p. p.outbox.lost) lost old new
Leads (mades.ShowPokes peer pokes) old new = Tells (λ p. p.pokes) pokes old new
Leads made old new = new ≡ old

-- .. and on the book
abbrev pub LeadsBook : Made → Book → Book → Type 0
LeadsBook (mades.Reserve peer answer) old new = (answer ≡ reserve_answer old peer) × (new ≡ after_reserve old peer)
LeadsBook (mades.Bridge a b answer) old new = (answer ≡ bridge_answer old a b) × (new ≡ after_bridge old a b answer)
LeadsBook (mades.Partner name answer) old new = (answer ≡ partner_of old name) × (new ≡ old)
LeadsBook (mades.Release name answer) old new =
    (answer ≡ release_answer old name (has_name old name)) × (new ≡ after_release old name (has_name old name))
LeadsBook (mades.NextSerial serial) old new = (serial ≡ old.next) × (new ≡ old)
LeadsBook made old new = new ≡ old

-- the load that it puts there
abbrev pub load_of_step : (made : Made) (old new : PeerView) → Leads made old new → Load
load_of_step (mades.Datagram peer octets now (Ok step) onwards) old new leads = datagram_load old leads.datagram now
load_of_step (mades.OpenIn peer name head payload now challenge (Ok step) onwards) old new leads = load_of 1
load_of_step (mades.RejectNew peer head payload (Ok step)) old new leads = load_of 1
load_of_step (mades.OpenOut peer name called caller format now (Ok step)) old new leads = load_of 1
load_of_step (mades.Order peer name kind media now (Ok step)) old new leads = order_load kind (length media)
load_of_step (mades.Tick peer now (Ok report)) old new leads = tick_load old now report new leads
load_of_step made old new leads = no_load

-- ---- the steps of a trail, at all peers

-- the place of the peer that was called; none: no peer was
abbrev pub place_of : Made → Option ℕ
place_of (mades.Datagram peer octets now answer onwards) = Some peer
place_of (mades.OpenIn peer name head payload now challenge answer onwards) = Some peer
place_of (mades.RejectNew peer head payload answer) = Some peer
place_of (mades.OpenOut peer name called caller format now answer) = Some peer
place_of (mades.Order peer name kind media now answer) = Some peer
place_of (mades.Tick peer now answer) = Some peer
place_of (mades.Retire peer name leg) = Some peer
place_of (mades.TakeOut peer out) = Some peer
place_of (mades.SetDraining peer drains) = Some peer
place_of (mades.Look peer number answer) = Some peer
place_of (mades.Describe peer number answer) = Some peer
place_of (mades.DescribeFrom peer number answer) = Some peer
place_of (mades.CountLegs peer count) = Some peer
place_of (mades.ShowSums peer sums) = Some peer
place_of (mades.ShowLost peer lost) = Some peer
place_of (mades.ShowPokes peer pokes) = Some peer
place_of made = None

-- the peer at that place changes by the step, and is sound again; the others stay as they are
pub record LeadsAt (place : ℕ) (made : Made) (old new : List PeerView) : Type 0 where
  pub before : PeerView
  pub was : slice_get old place ≡ Some before
  pub after : PeerView
  pub is : slice_get new place ≡ Some after
  pub leads : Leads made before after
  pub sound : IsSoundPeer after
  pub others : (other : ℕ) → other ≢ place → slice_get new other ≡ slice_get old other

abbrev pub LeadsAll : Option ℕ → Made → List PeerView → List PeerView → Type 0
LeadsAll None made old new = new ≡ old
LeadsAll (Some place) made old new = LeadsAt place made old new

-- the peers follow a trail: each call is made on the result of the one before it, and there are no other calls
abbrev pub Follow : List Made → List PeerView → List PeerView → Type 0
Follow [] old new = new ≡ old
Follow (made ∷ rest) old new = (mid : List PeerView) × LeadsAll (place_of made) made old mid × Follow rest mid new

-- .. and so does the book
abbrev pub FollowBook : List Made → Book → Book → Type 0
FollowBook [] old new = new ≡ old
FollowBook (made ∷ rest) old new = (mid : Book) × LeadsBook made old mid × FollowBook rest mid new

-- each of these peers is in a state that its lock leaves
abbrev pub AreSound : List PeerView → Type 0
AreSound peers = (place : ℕ) (peer : PeerView) → slice_get peers place ≡ Some peer → IsSoundPeer peer

-- the load that a step puts at the peer of a place
abbrev pub load_at : (place : ℕ) (other : Option ℕ) (made : Made) (old new : List PeerView) → LeadsAll other made old new → Load
load_at place None made old new leads = no_load
load_at place (Some other) made old new leads =
    if other == place then load_of_step made leads.before leads.after leads.leads else no_load

-- the load that the steps of a trail put there together
abbrev pub loads_at : (place : ℕ) (trail : List Made) (old new : List PeerView) → Follow trail old new → Load
loads_at place [] old new follow = no_load
loads_at place (made ∷ rest) old new follow =
    plus (load_at place (place_of made) made old follow.0 follow.1) (loads_at place rest follow.0 new follow.2)
