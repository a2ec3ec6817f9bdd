-- The datagrams that a draining service keeps from its exchange ("NEW").
use Rattle.std.specs.Prelude.{◌≡◌, ℕ, List, Some}
use Rattle.call_signals.specs.Codes.{IAX_NEW}
use Rattle.iax_frames.specs.FullFrame.{FullFrame, subclass_meaning}
use Rattle.udp_workers.specs.FullFrames.{IsIax, SpellsKind}
use Rattle.exchange_core.specs.declared.watch.ServiceStage.{ServiceStage}
use Rattle.exchange_core.specs.declared.watch.ServiceStage.TheVariants as stages

-- a NEW that may open a leg: it has no destination and OSeqno 0
pub record IsNew (frame : FullFrame) : Type 0 where
  pub frame_type : IsIax frame
  pub subclass : subclass_meaning frame.head.subclass ≡ Some IAX_NEW
  pub destination : frame.head.destination ≡ 0
  pub oseqno : frame.head.oseqno ≡ 0

-- the octets spell such a NEW
abbrev pub SpellsNew : List ℕ → Type 0
SpellsNew octets = SpellsKind IsNew octets

-- a datagram that isn't given to the exchange
abbrev pub IsTurnedAway : ServiceStage → List ℕ → Type 0
IsTurnedAway stage octets = (stage ≡ stages.Draining) × SpellsNew octets
