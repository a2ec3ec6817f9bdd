-- The closed accounts of an exchange, and their lines.
use Rattle.std.specs.Prelude.{ℕ, ◌≡◌, ◌+◌, ◌≤◌, ◌==◌, List, [], ◌++◌, Option, codes, decimal, length, if◌then◌else◌}
use Rattle.std.specs.Io.KnownBytes.{Appends}
use Rattle.exchange_core.specs.Sums.{accounts_of, left_with, steps_under}
use Rattle.worker_setup.specs.declared.accounts.MediaAccounts.{MediaAccounts}
use Rattle.step_log.specs.Notes.{Noted}
use Rattle.peer_lock.specs.Peer.{PeerView}

-- The accounts are the sums over as many peers as the exchange has, which made the steps under its passes. Octets that stayed
-- with the passes count as dropped.
abbrev pub AreSums : ℕ → List Noted → MediaAccounts → Type 0
AreSums count passes accounts = (peers : List PeerView) × (length peers ≡ count)
    × (accounts.accepted ≡ (accounts_of peers).accepted) × (accounts.packed ≡ (accounts_of peers).packed)
    × (accounts.queued ≡ (accounts_of peers).queued) × (accounts.dropped ≡ (accounts_of peers).dropped + left_with passes)
    × (accounts.quelched ≡ (accounts_of peers).quelched) × ((accounts_of peers).steps ≡ steps_under passes)

-- the line of quelched octets, if there are any
abbrev pub quelched_line : ℕ → List ℕ
quelched_line octets = if octets == 0 then [] else codes "quelched " ++ (decimal octets ++ codes "\n")

-- the lines of accounts: accepted, packed, queued and dropped octets, and those of the dropped that were quelched
abbrev pub accounts_text : MediaAccounts → List ℕ
accounts_text accounts =
    (codes "octets " ++ (decimal accounts.accepted ++ (codes " " ++ (decimal accounts.packed ++ (codes " "
    ++ (decimal accounts.queued ++ (codes " " ++ (decimal accounts.dropped ++ codes "\n"))))))))
    ++ quelched_line accounts.quelched

-- a writer was given the lines of accounts that add up
pub record WereAccountsWritten (count : ℕ) (passes : List Noted) (before after : Option (List ℕ)) : Type 0 where
  pub accounts : MediaAccounts
  pub balances : accounts.accepted ≡ accounts.packed + accounts.queued + accounts.dropped
  pub part : accounts.quelched ≤ accounts.dropped
  pub sums : AreSums count passes accounts
  pub lines : Appends before after (accounts_text accounts)
