-- The effect of a peer's call with a step, and of one that is refused.
use Rattle.std.specs.Prelude.{◌≡◌, ℕ, ◌+◌, ◌⊎◌, List, [], Option, None, Some, Result, Err, IfErr, IfOk, OnErr, OnOk}
use Rattle.iax_frames.specs.declared.datagram.Datagram.{Datagram}
use Rattle.memory_requests.specs.Refused.{WasRefused}
use Rattle.peer_accounts.specs.Accounts.{Credit, with_accepted, with_step}
use Rattle.peer_accounts.specs.HandedUp.{HandedUp}
pub use Rattle.peer_accounts.specs.HandedUp.{IsNothing}
use Rattle.peer_lock.specs.Arrivals.{MediaTaken, datagram_refused, datagram_step}
use Rattle.peer_lock.specs.Asking.{MayAsk}
use Rattle.peer_lock.specs.Peer.{PeerView, PeerStep}
use Rattle.peer_lock.specs.Unworked.{IsUnworked, IsWorked}
use Rattle.peer_lock.specs.declared.errors.PeerError.{PeerError}
use Rattle.peer_lock.specs.declared.errors.PeerError.TheVariants.{Memory}
use Rattle.peer_lock.specs.declared.steps.Step.{Step}

-- the call made this step, and its credit went to the pass
pub record Makes (s : PeerStep) (new : PeerView) (result : Step) (pass_old pass_new : Credit) (onwards : HandedUp) : Type 0 where
  pub peer : new ≡ s.peer
  pub answer : result ≡ s.step
  pub signals : onwards.signals ≡ s.signals
  pub offer : onwards.offer ≡ s.offer
  pub credit : pass_new ≡ with_step pass_old s.octets

-- the same of a step that hands nothing up and accepts no media
pub record MakesAlone (s : PeerStep) (new : PeerView) (result : Step) (pass_old pass_new : Credit) : Type 0 where
  pub peer : new ≡ s.peer
  pub answer : result ≡ s.step
  pub signals : s.signals ≡ []
  pub offer : s.offer ≡ None
  pub octets : s.octets ≡ 0
  pub credit : pass_new ≡ with_step pass_old 0

-- the call accepted this media, and its step isn't counted yet
pub record Takes (media : MediaTaken) (old new : PeerView) (pass_old pass_new : Credit) (onwards : HandedUp) : Type 0 where
  pub peer : new ≡ record old { accounts = with_accepted old.accounts media.octets }
  pub signals : onwards.signals ≡ media.signals
  pub offer : onwards.offer ≡ None
  pub credit : pass_new ≡ record pass_old { octets = pass_old.octets + media.octets }

-- a refused call left everything unchanged
pub record IsUnchanged (old new : PeerView) (pass_old pass_new : Credit) (onwards : HandedUp) : Type 0 where
  pub peer : new ≡ old
  pub credit : pass_new ≡ pass_old
  pub nothing : IsNothing onwards

-- a refusal is the one that is due; if none is due, memory was refused
abbrev pub IsDue : Option PeerError → PeerError → Type 0
IsDue (Some due) e = e ≡ due
IsDue None e = e ≡ Memory

-- The call `datagram` or `datagram_read` had this result. `first_octets` and `first_steps` are the credits with which every
-- peer begins, the other credits are those of the pass, and `room` is that of the caller's list.
pub record WasHandled (first_octets first_steps : ℕ) (octets : List ℕ) (now : ℕ) (result : Result Step PeerError)
    (old new : PeerView) (credit_old credit_new : Credit) (room : ℕ) (onwards : HandedUp) : Type 0 where
  -- the result of a datagram that is handled
  pub made : IfOk result (λ step. (d : Datagram) → IsWorked first_steps old.accounts.steps octets d
      → Makes (datagram_step first_octets old d now) new step credit_old credit_new onwards)
  pub worked : OnOk result ((d : Datagram) × IsWorked first_steps old.accounts.steps octets d)
  pub unrefused : OnOk result ((d : Datagram) → IsWorked first_steps old.accounts.steps octets d
      → datagram_refused old d now ≡ None)
  -- each refusal is returned if its cause holds
  pub unworked : (e : PeerError) → IsUnworked first_steps old.accounts.steps octets e → result ≡ Err e
  pub refused : IfErr result (λ e. IsUnworked first_steps old.accounts.steps octets e
      ⊎ ((d : Datagram) × IsWorked first_steps old.accounts.steps octets d × IsDue (datagram_refused old d now) e))
  pub err : OnErr result (IsUnchanged old new credit_old credit_new onwards)
  pub no_memory : result ≡ Err Memory → WasRefused
  pub memory : result ≡ Err Memory → (d : Datagram) → IsWorked first_steps old.accounts.steps octets d → MayAsk old room d
