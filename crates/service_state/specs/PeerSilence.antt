-- The log's news of a peer: its first sign of life, a silence, and the end of one.
use Rattle.std.specs.Prelude.{ℕ, ◌-◌, nat_lt, Option, Some, None, if◌then◌else◌}
use Rattle.service_state.specs.declared.peer_silence.Hearing.{Hearing}
use Rattle.service_state.specs.declared.peer_silence.Hearing.TheVariants as hearing
use Rattle.service_state.specs.declared.peer_silence.News.{News}
use Rattle.service_state.specs.declared.peer_silence.News.TheVariants as news

-- the state of a peer, by the time since its last sign of life
abbrev pub hearing_at : ℕ → ℕ → Hearing
hearing_at limit silent = if nat_lt limit silent then hearing.Silent else hearing.Heard

-- a peer that gave a sign of life is silent for longer than the limit
abbrev pub silence : ℕ → ℕ → Option News
silence limit silent = if nat_lt limit silent then Some (news.Silent silent) else None

-- a silent peer gave a sign of life within the limit
abbrev pub return_of : ℕ → ℕ → Option News
return_of limit silent = if nat_lt limit silent then None else Some news.HeardAgain

abbrev pub news_by : Hearing → ℕ → ℕ → Hearing × Option News
news_by hearing.Never limit silent = (hearing.Heard, Some news.FirstWord)
news_by hearing.Heard limit silent = (hearing_at limit silent, silence limit silent)
news_by hearing.Silent limit silent = (hearing_at limit silent, return_of limit silent)

-- there is no news of a peer that never gave a sign of life
abbrev pub news_of : Hearing → Option ℕ → ℕ → ℕ → Hearing × Option News
news_of before None now limit = (before, None)
news_of before (Some heard) now limit = news_by before limit (now - heard)
