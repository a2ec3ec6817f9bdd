-- The accounts of one peer, and the credit of one pass.
use Rattle.std.specs.Prelude.{ℕ, ◌+◌}
use Rattle.peer_accounts.specs.declared.account.Carried.{Carried}
use Rattle.peer_accounts.specs.declared.account.Carried.TheVariants.{Packed, Queued, Dropped, Quelched}
use Rattle.peer_accounts.specs.declared.sums.Sums.{Sums}

-- The accounts of a peer are their sums. The media octets accepted from the peer; of the octets carried to it, those
-- written into frames, those in its trunk queue, and those dropped, of which some were quelched; and the steps that it
-- made.
abbrev pub Accounts : Type 0
Accounts = Sums

abbrev pub no_accounts : Accounts
no_accounts = record { accepted = 0; packed = 0; queued = 0; dropped = 0; quelched = 0; steps = 0 }

-- the accounts, as they are shown
abbrev pub shown : Accounts → Sums
shown a = a

-- the media octets that were carried to the peer
abbrev pub carried : Accounts → ℕ
carried a = a.packed + a.queued + a.dropped

-- the accounts after n octets were carried to the peer
abbrev pub carry_to : Accounts → Carried → ℕ → Accounts
carry_to a Packed n = record a { packed = a.packed + n }
carry_to a Queued n = record a { queued = a.queued + n }
carry_to a Dropped n = record a { dropped = a.dropped + n }
carry_to a Quelched n = record a { dropped = a.dropped + n; quelched = a.quelched + n }

-- one more step
abbrev pub stepped : Accounts → Accounts
stepped a = record a { steps = a.steps + 1 }

-- n more octets were accepted
abbrev pub with_accepted : Accounts → ℕ → Accounts
with_accepted a n = record a { accepted = a.accepted + n }

-- The credit of a pass: octets that peers accepted and that aren't carried yet, and steps made under it.
pub record Credit : Type 0 where
  pub octets : ℕ
  pub steps : ℕ

-- one more step was made under the pass, which accepted this many octets
abbrev pub with_step : Credit → ℕ → Credit
with_step credit octets = record { octets = credit.octets + octets; steps = credit.steps + 1 }
