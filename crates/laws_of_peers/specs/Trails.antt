-- The media that the steps of a trail carry on at the peer of one place ("Mini Frames", "Meta Frames").
use Rattle.std.specs.Prelude.{◌≡◌, ℕ, ◌+◌, ◌==◌, Bool, false, List, [], ◌∷◌, ◌++◌, length, Option, None, Some, Ok, if◌then◌else◌}
use Rattle.call_book.specs.declared.leg_name.LegName.{LegName}
use Rattle.call_signals.specs.Order.{Kind}
use Rattle.call_signals.specs.declared.order.Command.TheVariants as commands
use Rattle.laws_of_peers.specs.Followed.{place_of}
use Rattle.step_log.specs.declared.made.Made.{Made}
use Rattle.step_log.specs.declared.made.Made.TheVariants as mades
use Rattle.laws_of_peers.specs.CarriedOn.{CarriedOn, IsWayOf, KeepsOrder, Outgoing, Piece, QueueEntry, Way, dropped_by}
use Rattle.laws_of_peers.specs.CarriedOn.{ordered_in}
use Rattle.laws_of_peers.specs.CarriedOn.{kept_by, put_by, queued_by}
use Rattle.peer_lock.specs.Peer.{PeerView}

-- ---- the notes of a place

-- media that a leg was ordered to send
pub record OrderedMedia : Type 0 where
  pub name : LegName
  pub media : List ℕ

-- the media of an order
abbrev pub media_by : Kind → LegName → List ℕ → List OrderedMedia
media_by (commands.Media _) name media = record { name = name; media = media } ∷ []
media_by kind name media = []

-- the media of a step that is an order
abbrev pub media_in : Made → List OrderedMedia
media_in (mades.Order peer name kind media now (Ok step)) = media_by kind name media
media_in made = []

-- the datagram that was taken out of an outbox
abbrev pub taken_in : Made → List (List ℕ)
taken_in (mades.TakeOut peer (Some out)) = out ∷ []
taken_in made = []

abbrev pub is_at : ℕ → Option ℕ → Bool
is_at place None = false
is_at place (Some other) = other == place

-- the media that legs of the peer of a place were ordered to send, in the order of the trail
abbrev pub media_at : ℕ → List Made → List OrderedMedia
media_at place [] = []
media_at place (made ∷ rest) = (if is_at place (place_of made) then media_in made else []) ++ media_at place rest

-- the datagrams that were taken out of its outbox, in the order of the trail
abbrev pub taken_at : ℕ → List Made → List (List ℕ)
taken_at place [] = []
taken_at place (made ∷ rest) = (if is_at place (place_of made) then taken_in made else []) ++ taken_at place rest

-- ---- the ways of all media

-- each piece of ordered media goes one way, whole
abbrev pub AreWaysOf : List OrderedMedia → List Way → Type 0
AreWaysOf [] ways = ways ≡ []
AreWaysOf (ordered ∷ others) [] = ⊥
AreWaysOf (ordered ∷ others) (way ∷ ways) = IsWayOf ordered.name.number ordered.media way × AreWaysOf others ways

abbrev pub kept_by_all : List OrderedMedia → List Way → List Piece
kept_by_all (ordered ∷ others) (way ∷ ways) = kept_by way ordered.name.number ordered.media ++ kept_by_all others ways
kept_by_all media ways = []

abbrev pub queued_by_all : List Way → List QueueEntry
queued_by_all [] = []
queued_by_all (way ∷ ways) = queued_by way ++ queued_by_all ways

abbrev pub put_by_all : List Way → List Outgoing
put_by_all [] = []
put_by_all (way ∷ ways) = put_by way ++ put_by_all ways

abbrev pub dropped_by_all : List OrderedMedia → List Way → ℕ
dropped_by_all (ordered ∷ others) (way ∷ ways) = dropped_by way (length ordered.media) + dropped_by_all others ways
dropped_by_all media ways = 0

-- ---- the trail

-- The steps of a trail lead the peer of a place from one state to another. Each piece of media that its legs were ordered to
-- send went one way: into the trunk queue, into a mini frame or a new voice full frame in the outbox, or it was dropped. No
-- other media went any of these ways. Queue and outbox are first in, first out.
pub record CarriesTrail (place : ℕ) (trail : List Made) (first last : PeerView) : Type 0 where
  pub carried : CarriedOn
  pub order : KeepsOrder carried first last
  pub taken : carried.taken ≡ taken_at place trail
  pub ways : List Way
  pub whole : AreWaysOf (media_at place trail) ways
  pub kept : carried.kept ≡ kept_by_all (media_at place trail) ways
  pub queued : carried.queued ≡ queued_by_all ways
  pub put : ordered_in carried.put ≡ put_by_all ways
  pub dropped : carried.dropped ≡ dropped_by_all (media_at place trail) ways
