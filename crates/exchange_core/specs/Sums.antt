-- Sums over peers and passes.
use Rattle.std.specs.Prelude.{ℕ, List, sum_by}
use Rattle.step_log.specs.Notes.{Noted, steps_in}
use Rattle.peer_lock.specs.Accounts.{Accounts}
use Rattle.peer_lock.specs.Peer.{PeerView}

-- the accounts of all peers together
abbrev pub accounts_of : List PeerView → Accounts
accounts_of peers = record {
  accepted = sum_by (λ (p : PeerView). p.accounts.accepted) peers;
  packed = sum_by (λ (p : PeerView). p.accounts.packed) peers;
  queued = sum_by (λ (p : PeerView). p.accounts.queued) peers;
  dropped = sum_by (λ (p : PeerView). p.accounts.dropped) peers;
  quelched = sum_by (λ (p : PeerView). p.accounts.quelched) peers;
  steps = sum_by (λ (p : PeerView). p.accounts.steps) peers;
}

-- the octets that stayed with the passes
abbrev pub left_with : List Noted → ℕ
left_with passes = sum_by (λ (p : Noted). p.credit.octets) passes

-- the steps that were made under the passes
abbrev pub steps_under : List Noted → ℕ
steps_under passes = sum_by (λ (p : Noted). p.credit.steps) passes

-- the steps that the passes began with
abbrev pub begun_with : List Noted → ℕ
begun_with passes = sum_by (λ (p : Noted). p.begun) passes

-- the steps of peers that are noted under the passes
abbrev pub noted_under : List Noted → ℕ
noted_under passes = sum_by (λ (p : Noted). steps_in p.made) passes
