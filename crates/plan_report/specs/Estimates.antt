-- Estimates that follow from the values of a plan.
use Rattle.std.specs.Prelude.{ℕ, ◌+◌, ◌-◌, ◌*◌, ◌/◌, ◌==◌, min, Option, None, Some, if◌then◌else◌}

-- a frame is sent once and then retransmitted, each time with the same wait after it
abbrev pub silence_ms : ℕ → ℕ → ℕ
silence_ms retry_ms max_retries = retry_ms * (max_retries + 1)

-- Three entries for each PING of this exchange, for each PING of an Asterisk (21 seconds) and for each of its LAGRQs (10
-- seconds). Three more for the voice full frames of each 65.5 seconds.
abbrev pub entries_an_hour : ℕ → ℕ
entries_an_hour ping_ms = if ping_ms == 0 then 1759 else (10800000 / ping_ms) + 1759

-- The greatest number of entries of a call that only talks. It ends when fewer than four are free, or when its data, 8
-- octets an entry, reaches its limit first.
abbrev pub entries_of_talk : ℕ → Option ℕ → ℕ
entries_of_talk record_limit None = record_limit - 4
entries_of_talk record_limit (Some record_octets) = min (record_limit - 4) (record_octets / 8)

abbrev pub minutes : ℕ → Option ℕ → ℕ → ℕ
minutes record_limit record_octets ping_ms = (entries_of_talk record_limit record_octets * 60) / entries_an_hour ping_ms

-- the octets of data in a full record whose frames have this many octets each, up to its limit
abbrev pub data_octets : ℕ → Option ℕ → ℕ → ℕ
data_octets record_limit None octets = record_limit * octets
data_octets record_limit (Some record_octets) octets = min (record_limit * octets) record_octets

-- an entry takes 16 octets and the data of its frame
abbrev pub megabytes : ℕ → ℕ → Option ℕ → ℕ → ℕ
megabytes legs record_limit record_octets octets =
    ((legs * (record_limit * 16 + data_octets record_limit record_octets octets)) / 1000000) + 1
