-- The step of a peer that opens a leg ("Call Setup"), and the one that rejects a NEW for want of a number ("REJECT").
use Rattle.std.specs.Prelude.{◌≡◌, ℕ, ◌==◌, not, is_some, true, List, [], Option, None, Some, map, if◌then◌else◌}
use Rattle.std.specs.Prelude.{Result, IfErr, IfOk, OnErr, OnOk}
use Rattle.call_book.specs.declared.leg_name.LegName.{LegName}
use Rattle.iax_frames.specs.FullFrame.{FullFrame, spelling}
use Rattle.leg_machine.specs.Message.{message_of}
use Rattle.leg_machine.specs.Openings.{open_in_step, open_out_step}
use Rattle.call_signals.specs.declared.format.Format.{Format}
use Rattle.call_signals.specs.declared.outcomes.Judged.TheVariants.{Unnumbered}
use Rattle.memory_requests.specs.Refused.{WasRefused}
use Rattle.peer_accounts.specs.Accounts.{Credit, stepped, with_step}
use Rattle.peer_accounts.specs.HandedUp.{HandedUp}
use Rattle.peer_lock.specs.Arrivals.{answering}
use Rattle.peer_lock.specs.Delivery.{is_new, reject_for}
use Rattle.peer_lock.specs.Makes.{IsUnchanged}
use Rattle.peer_legs.specs.Legs.{NamedLeg, leg_of_remote, with_place}
pub use Rattle.peer_legs.specs.Legs.{is_free_name}
use Rattle.outbox.specs.Outbox.{put}
use Rattle.peer_lock.specs.Peer.{PeerView, PeerStep, handed_up, offer_with, leg_alone}
use Rattle.peer_lock.specs.Unworked.{IsSoundFull}
use Rattle.peer_lock.specs.declared.errors.OpenError.{OpenError}
use Rattle.peer_lock.specs.declared.errors.OpenError.TheVariants as errors
use Rattle.peer_lock.specs.declared.errors.RejectError.{RejectError}
use Rattle.peer_lock.specs.declared.errors.RejectError.TheVariants as reject_errors
use Rattle.peer_lock.specs.declared.steps.Rejection.TheVariants as rejections
use Rattle.peer_lock.specs.declared.steps.Step.{Step}

-- a NEW that opens a leg: it has no destination and OSeqno 0, and a leg is looked for
pub record IsOpening (frame : FullFrame) : Type 0 where
  pub sound : IsSoundFull frame
  pub destination : frame.head.destination ≡ 0
  pub first : frame.head.oseqno ≡ 0
  pub new : is_new (message_of frame.head) ≡ true

-- why no leg is opened, memory aside
abbrev pub open_in_refused : PeerView → ℕ → LegName → ℕ → Option OpenError
open_in_refused peer credit name source =
    if peer.accounts.steps == credit then Some errors.StepsSpent
    else if not (is_free_name peer.legs name) then Some errors.NumberBusy
    else if peer.drains then Some errors.Draining
    else if is_some (leg_of_remote peer.legs source) then Some errors.RemoteBusy
    else None

abbrev pub open_out_refused : PeerView → ℕ → LegName → Option OpenError
open_out_refused peer credit name =
    if peer.accounts.steps == credit then Some errors.StepsSpent
    else if not (is_free_name peer.legs name) then Some errors.NumberBusy
    else None

-- a refusal is the one that is due; if none is, memory was refused
abbrev pub IsOpenRefusal : Option OpenError → OpenError → Type 0
IsOpenRefusal (Some due) e = e ≡ due
IsOpenRefusal None e = e ≡ errors.Memory

-- why a NEW isn't rejected
abbrev pub reject_new_refused : PeerView → ℕ → ℕ → Option RejectError
reject_new_refused peer credit source =
    if not peer.rules.is_hardened then Some reject_errors.Unanswered
    else if peer.accounts.steps == credit then Some reject_errors.StepsSpent
    else if is_some (leg_of_remote peer.legs source) then Some reject_errors.RemoteBusy
    else None

-- the peer with a new leg, by a step that is counted
abbrev pub with_seated : PeerView → NamedLeg → PeerView
with_seated peer named = record peer {
  legs = with_place peer.legs named.name.number (Some named);
  accounts = stepped peer.accounts;
}

-- .. and with what it sends
abbrev pub with_opened : PeerView → NamedLeg → List (List ℕ) → PeerView
with_opened peer named datagrams = record (with_seated peer named) { outbox = put peer.outbox datagrams }

-- a NEW opens a leg
abbrev pub opens_in : PeerView → LegName → FullFrame → ℕ → List ℕ → PeerStep
opens_in peer name frame now challenge =
    let s = open_in_step peer.rules name.number frame now challenge in
    record {
      peer = with_opened peer (record { name = name; leg = s.leg }) (map spelling s.replies);
      step = leg_alone name s.judged;
      signals = handed_up name s.signal;
      offer = offer_with s.leg s.signal;
      octets = 0;
    }

-- a leg is opened by a call of this exchange
abbrev pub opens_out : PeerView → LegName → List ℕ → List ℕ → Format → ℕ → PeerStep
opens_out peer name called caller format now =
    let s = open_out_step peer.rules name.number called caller format now in
    record {
      peer = with_opened peer (record { name = name; leg = s.leg }) (map spelling s.replies);
      step = leg_alone name Unnumbered;
      signals = [];
      offer = None;
      octets = 0;
    }

-- a NEW is rejected because no number is free
abbrev pub rejects_new : PeerView → FullFrame → PeerStep
rejects_new peer frame = answering peer (reject_for rejections.NoNumber frame.head)

-- ---- the calls. `first_steps` is the step credit with which every peer begins, and the credits are those of the pass.

-- The call `open_in` had this result.
pub record WasOpenedIn (first_steps : ℕ) (name : LegName) (frame : FullFrame) (now : ℕ) (challenge : List ℕ)
    (result : Result Step (LegName × OpenError)) (old new : PeerView) (credit_old credit_new : Credit)
    (onwards : HandedUp) : Type 0 where
  pub peer : OnOk result (new ≡ (opens_in old name frame now challenge).peer)
  pub step : IfOk result (λ step. step ≡ (opens_in old name frame now challenge).step)
  pub signals : OnOk result (onwards.signals ≡ (opens_in old name frame now challenge).signals)
  pub offer : OnOk result (onwards.offer ≡ (opens_in old name frame now challenge).offer)
  pub credit : OnOk result (credit_new ≡ with_step credit_old 0)
  pub unrefused : OnOk result (open_in_refused old first_steps name frame.head.source ≡ None)
  pub refused : IfErr result (λ back. IsOpenRefusal (open_in_refused old first_steps name frame.head.source) back.1)
  pub lease : IfErr result (λ back. back.0 ≡ name)
  pub err : OnErr result (IsUnchanged old new credit_old credit_new onwards)
  pub no_memory : IfErr result (λ back. back.1 ≡ errors.Memory → WasRefused)

-- The call `reject_new` had this result.
pub record WasRejected (first_steps : ℕ) (frame : FullFrame) (result : Result Step RejectError) (old new : PeerView)
    (credit_old credit_new : Credit) : Type 0 where
  pub peer : OnOk result (new ≡ (rejects_new old frame).peer)
  pub step : IfOk result (λ step. step ≡ (rejects_new old frame).step)
  pub credit : OnOk result (credit_new ≡ with_step credit_old 0)
  pub unrefused : OnOk result (reject_new_refused old first_steps frame.head.source ≡ None)
  pub refused : IfErr result (λ e. Some e ≡ reject_new_refused old first_steps frame.head.source)
  pub err : OnErr result ((new ≡ old) × (credit_new ≡ credit_old))

-- The call `open_out` had this result.
pub record WasOpenedOut (first_steps : ℕ) (name : LegName) (called caller : List ℕ) (format : Format) (now : ℕ)
    (result : Result Step (LegName × OpenError)) (old new : PeerView) (credit_old credit_new : Credit) : Type 0 where
  pub peer : OnOk result (new ≡ (opens_out old name called caller format now).peer)
  pub step : IfOk result (λ step. step ≡ leg_alone name Unnumbered)
  pub credit : OnOk result (credit_new ≡ with_step credit_old 0)
  pub unrefused : OnOk result (open_out_refused old first_steps name ≡ None)
  pub refused : IfErr result (λ back. IsOpenRefusal (open_out_refused old first_steps name) back.1)
  pub lease : IfErr result (λ back. back.0 ≡ name)
  pub err : OnErr result ((new ≡ old) × (credit_new ≡ credit_old))
  pub no_memory : IfErr result (λ back. back.1 ≡ errors.Memory → WasRefused)
