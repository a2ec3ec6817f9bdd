-- The time for which a worker waits for a datagram, in milliseconds.
use Rattle.std.specs.Prelude.{ℕ, Bool, if◌then◌else◌, min}

-- 0 if a socket may have a datagram; at most 2 if waits are short, because another worker may fill outboxes of its peers
abbrev pub pause_of : Bool → Bool → ℕ → ℕ
pause_of empty short ms = if empty then if short then min ms 2 else ms else 0
