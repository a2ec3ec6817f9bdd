-- The status of a leg, as the exchange reports it.
use Rattle.std.specs.Prelude.{◌≡◌, ℕ, ◌≤◌, List, ◌&&◌, ◌↔◌, not, Bool, false, Option, None, Some, is_some, option_map}
use Rattle.std.specs.Prelude.{IfNone, IfSome, IsNone, OnSome}
use Rattle.call_book.specs.declared.leg_name.LegName.{LegName}
use Rattle.leg_machine.specs.Stage.{is_ended}
use Rattle.seq_window.specs.Entry.{Entry}
use Rattle.seq_window.specs.History.{IsLegal}
use Rattle.seq_window.specs.Window.{held_count, entry_count}
use Rattle.peer_legs.specs.Legs.{NamedLeg, leg_at, leg_named}
pub use Rattle.peer_legs.specs.Rests.{is_quiet, is_resting}
use Rattle.peer_lock.specs.Peer.{PeerView, without_leg}
use Rattle.peer_lock.specs.SoundPeer.{IsSoundPeer}
use Rattle.peer_lock.specs.declared.steps.EndedLeg.{EndedLeg}
use Rattle.peer_lock.specs.declared.steps.LegFacts.{LegFacts}
use Rattle.peer_lock.specs.declared.steps.Status.{Status}

abbrev pub status_of : NamedLeg → Status
status_of named = record {
  name = named.name;
  stage = named.leg.stage;
  owes = named.leg.owes;
  cause = named.leg.cause;
  held = held_count named.leg.window;
  entries = entry_count named.leg.window;
}

abbrev pub facts_of : NamedLeg → LegFacts
facts_of named = record {
  opened = named.leg.opened;
  format = named.leg.format;
  remote = named.leg.remote;
  failure = named.leg.failure;
  resent = named.leg.resent;
  moments = named.leg.moments;
  challenged = is_some named.leg.challenge;
  authenticated = named.leg.authenticated;
}

-- the leg has ended, and the layer above is done with it
abbrev pub is_done : Option NamedLeg → Bool
is_done None = false
is_done (Some named) = is_ended named.leg.stage && not named.leg.owes

-- a record that a window may have, which is no wider and no longer than a plan lets it be
pub record IsHistory (history : List Entry) : Type 0 where
  pub width : ℕ
  pub limit : ℕ
  pub widest : width ≤ 127
  pub longest : limit ≤ 65536
  pub legal : IsLegal width limit history

-- The call `look` had this result.
pub record WasLookedAt (number : ℕ) (result : Option Status) (peer : PeerView) : Type 0 where
  pub status : result ≡ option_map status_of (leg_at peer.legs number)
  pub sound : IsSoundPeer peer

-- The call `retire` had this result.
pub record WasRetired (name : LegName) (result : Option (LegName × EndedLeg)) (old new : PeerView) : Type 0 where
  pub none : IsNone result ↔ (is_done (leg_named old.legs name) ≡ false)
  pub lease : IfSome result (λ retired. retired.0 ≡ name)
  pub «record» : IfSome result (λ retired. (named : NamedLeg) → leg_named old.legs name ≡ Some named
      → (retired.1.history.entries ≡ named.leg.window.history) ×
      IsLegal named.leg.window.width named.leg.window.limit named.leg.window.history)
  pub facts : IfSome result (λ retired. (named : NamedLeg) → leg_named old.legs name ≡ Some named
      → retired.1.facts ≡ facts_of named)
  pub ruled : IfSome result (λ retired. IsLegal old.rules.window old.rules.record_limit retired.1.history.entries)
  pub legal : IfSome result (λ retired. IsHistory retired.1.history.entries)
  pub gone : OnSome result (new ≡ without_leg old name)
  pub same : IfNone result (new ≡ old)
