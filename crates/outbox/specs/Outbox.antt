-- The datagrams that wait to be sent to a peer, and the number of lost ones.
use Rattle.std.specs.Prelude.{ℕ, ◌+◌, ◌%◌, ◌^◌, ◌==◌, ◌&&◌, ◌++◌, nat_le, List, [], ◌∷◌, take, drop, slice_index, if◌then◌else◌}
use Rattle.outbox.specs.declared.losses.Losses.{Losses}

pub record OutboxView : Type 0 where
  -- the oldest first
  pub waiting : List (List ℕ)
  pub lost : Losses

abbrev pub no_losses : Losses
no_losses = record { full = 0; mini = 0; trunk = 0 }

-- one more, modulo 2 ^ 64
abbrev pub one_more : ℕ → ℕ
one_more count = (count + 1) % 2 ^ 64

-- One datagram more was lost, which begins with these two octets: a full frame has the bit F, a trunk frame no number.
abbrev pub with_lost : Losses → ℕ → ℕ → Losses
with_lost lost first second =
    if nat_le 128 first then record lost { full = one_more lost.full }
    else (if first == 0 && second == 0 then record lost { trunk = one_more lost.trunk }
    else record lost { mini = one_more lost.mini })

-- these were lost, one after another
abbrev pub lose : Losses → List (List ℕ) → Losses
lose lost [] = lost
lose lost (datagram ∷ datagrams) = lose (with_lost lost (slice_index datagram 0) (slice_index datagram 1)) datagrams

-- the outbox with the first of these datagrams that fit in 256; the others are lost
abbrev pub put : OutboxView → List (List ℕ) → OutboxView
put outbox datagrams = record {
  waiting = take 256 (outbox.waiting ++ datagrams);
  lost = lose outbox.lost (drop 256 (outbox.waiting ++ datagrams));
}

-- the outbox with these datagrams behind the others
abbrev pub extended : OutboxView → List (List ℕ) → OutboxView
extended outbox datagrams = record outbox { waiting = outbox.waiting ++ datagrams }

-- the outbox with these datagrams in place of those that wait
abbrev pub with_waiting : OutboxView → List (List ℕ) → OutboxView
with_waiting outbox datagrams = record outbox { waiting = datagrams }
