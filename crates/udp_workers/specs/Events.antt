-- The events that workers report to their watch, and their counts.
use Rattle.std.specs.Prelude.{◌≡◌, ℕ, ◌+◌, ◌*◌, ◌%◌, ◌^◌, ◌<◌, ◌≤◌, ◌⊎◌, List, [], ◌∷◌, length, All}
use Rattle.udp_wires.specs.Counts.{RisesBy}
use Rattle.udp_wires.specs.Parcels.{Parcel}
use Rattle.udp_workers.specs.declared.report.TurnReport.{TurnReport}
use Rattle.exchange_core.specs.declared.watch.Event.{Event}
use Rattle.exchange_core.specs.declared.watch.Event.TheVariants as events

-- nothing is counted yet
abbrev pub nothing : TurnReport
nothing = record { received = 0; refused = 0; sent = 0; lost = 0; faults = 0; retired = 0 }

-- one more event is counted
abbrev pub counted : TurnReport → Event → TurnReport
counted report (events.Received peer now is_alive) = record report { received = report.received + 1 }
counted report (events.Refused peer refusal) = record report { refused = report.refused + 1 }
counted report (events.Rejected peer reported) = report
counted report (events.TurnedAway peer) = record report { refused = report.refused + 1 }
counted report (events.Stranger from) = record report { received = report.received + 1; refused = report.refused + 1 }
counted report (events.Sent peer) = record report { sent = report.sent + 1 }
counted report (events.Lost peer) = record report { lost = report.lost + 1 }
counted report events.Fault = record report { faults = report.faults + 1 }
counted report (events.Retired peer) = record report { retired = (report.retired + 1) % 2 ^ 64 }

-- the counts of these events, the last of them first
abbrev pub counted_all : List Event → TurnReport
counted_all [] = nothing
counted_all (event ∷ before) = counted (counted_all before) event

-- a report counts exactly some events, and each of them was reported
pub record Tells (observed : Event → Type 0) (report : TurnReport) : Type 0 where
  pub events : List Event
  pub each : All observed events
  pub counts : counted_all events ≡ report

-- this number of further events can be counted
pub record HasRoom (more : ℕ) (report : TurnReport) : Type 0 where
  pub received : report.received + more < 2 ^ 64
  pub refused : report.refused + more < 2 ^ 64
  pub gone : report.sent + report.lost + more < 2 ^ 64
  pub faults : report.faults + more < 2 ^ 64

-- What a wire was given to send is counted: each datagram that it sent as sent, and each other one as lost.
pub record CountsSends (old new : TurnReport) (went now_went gone now_gone : List Parcel) : Type 0 where
  pub sent : new.sent + length gone ≡ old.sent + length now_gone
  pub given : new.sent + new.lost + length went ≡ old.sent + old.lost + length now_went

-- only legs were taken out
pub record OnlyRetires (old new : TurnReport) : Type 0 where
  pub received : new.received ≡ old.received
  pub refused : new.refused ≡ old.refused
  pub sent : new.sent ≡ old.sent
  pub lost : new.lost ≡ old.lost
  pub faults : new.faults ≡ old.faults

-- Turns were made from one count of them to another, and this is their report. They ended for a reason, or are as many as
-- may be made.
pub record MakesTurns (most : ℕ) (reason : Type 0) (old new : ℕ) (report : TurnReport) : Type 0 where
  pub turns : ℕ
  pub few : turns ≤ most
  pub ended : (turns ≡ most) ⊎ reason
  pub counted : RisesBy old new turns
  pub received : report.received ≤ 64 * turns
  pub emptied : report.sent + report.lost ≤ 256 * 32 * turns
