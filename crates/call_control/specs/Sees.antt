-- The legs of one peer, as the world of many calls has them, and the peer's steps as steps of that world.
use Rattle.std.specs.Prelude.{◌≡◌, ◌≢◌, ℕ, Bool, List, option_map}
use Rattle.call_book.specs.declared.leg_name.LegName.{LegName}
use Rattle.peer_lock.specs.Legs.{PeerLegs}
use Rattle.peer_lock.specs.Seen.{SeenNamed, seen_at}
use Rattle.call_control.specs.Scene.{Leg, Scene, Choice, leg_at, answered}
use Rattle.call_control.specs.SeenReply.{seen_reply}
use Rattle.call_control.specs.declared.need.Need.{Need}
use Rattle.call_control.specs.declared.reply.Reply.{Reply}

abbrev pub look_of : Leg → SeenNamed
look_of leg = record { name = leg.name; seen = leg.seen }

-- each number of the peer has the leg that the peer has under it
abbrev pub Sees : List Leg → PeerLegs → Type 0
Sees all legs = (number : ℕ) → option_map look_of (leg_at all legs.peer number) ≡ seen_at legs number

-- the legs of all other peers stay
abbrev pub AreApart : ℕ → List Leg → List Leg → Type 0
AreApart peer old new = (other number : ℕ) → other ≢ peer → leg_at new other number ≡ leg_at old other number

-- The peer's step has this answer and leaves these legs. A step of the world can have the same answer and leave the same
-- legs. It leaves the book and the legs of all other peers unchanged, and these leases.
pub record IsWorldStep (scene : Scene) (need : Need) (called : Bool) (old new : PeerLegs) (reply : Reply)
    (leases : List LegName) : Type 0 where
  pub choice : Choice
  pub answers : (answered scene need called choice).reply ≡ seen_reply reply
  pub sees : Sees (answered scene need called choice).scene.legs new
  pub apart : AreApart old.peer scene.legs (answered scene need called choice).scene.legs
  pub same_book : (answered scene need called choice).scene.book ≡ scene.book
  pub leases_are : (answered scene need called choice).scene.leases ≡ leases
