-- The sums of the accounts of all peers (GET /accounts).
use Rattle.std.specs.Prelude.{◌≡◌, ℕ, ◌+◌, ◌%◌, ◌^◌, List, [], ◌∷◌, length, string_bytes, sum_by}
use Rattle.control_requests.specs.Rows.{accounts_data}
use Rattle.control_requests.specs.declared.response.Response.{Response}
use Rattle.control_requests.specs.declared.response.StatusCode.TheVariants as status
use Rattle.control_requests.specs.declared.views.AccountsRow.{AccountsRow}
use Rattle.peer_accounts.specs.declared.sums.Sums.{Sums}
use Rattle.serde_json.specs.Written.{compact_text}
use Rattle.step_log.specs.Notes.{Noted, note}
use Rattle.step_log.specs.declared.made.Made.TheVariants as mades

-- the pass once peers were asked for their sums, from place 0 on, one after another; their answers, the last one first
abbrev pub asked_for_sums : List Sums → Noted → Noted
asked_for_sums [] pass = pass
asked_for_sums (sums ∷ before) pass = note (mades.ShowSums (length before) sums) (asked_for_sums before pass)

-- the sum of a field of the answers, modulo 2 ^ 64
abbrev pub total : (Sums → ℕ) → List Sums → ℕ
total field answers = sum_by field answers % 2 ^ 64

-- the row with these sums added, each modulo 2 ^ 64
abbrev pub with_sums : AccountsRow → Sums → AccountsRow
with_sums row sums = record {
  accepted = (row.accepted + sums.accepted) % 2 ^ 64;
  packed = (row.packed + sums.packed) % 2 ^ 64;
  queued = (row.queued + sums.queued) % 2 ^ 64;
  dropped = (row.dropped + sums.dropped) % 2 ^ 64;
  quelched = (row.quelched + sums.quelched) % 2 ^ 64;
}

-- each of so many peers was asked once, in order, nothing else was noted, and the row has the totals of the answers
pub record AddsUp (count : ℕ) (row : AccountsRow) (old new : Noted) : Type 0 where
  pub answers : List Sums
  pub one_each : length answers ≡ count
  pub noted : new ≡ asked_for_sums answers old
  pub accepted : row.accepted ≡ total (λ sums. sums.accepted) answers
  pub packed : row.packed ≡ total (λ sums. sums.packed) answers
  pub queued : row.queued ≡ total (λ sums. sums.queued) answers
  pub dropped : row.dropped ≡ total (λ sums. sums.dropped) answers
  pub quelched : row.quelched ≡ total (λ sums. sums.quelched) answers

-- an answer to GET /accounts
pub record ShowsAccounts (count : ℕ) (answer : Response) (old new : Noted) : Type 0 where
  pub row : AccountsRow
  pub adds_up : AddsUp count row old new
  pub status_is : answer.status ≡ status.Ok
  pub body : string_bytes answer.body ≡ compact_text (accounts_data row)
