-- The notes of a pass, by their parts.
use Rattle.std.specs.Prelude.{◌≡◌, ℕ, List}
use Rattle.std.proofs.Common.{◌∙◌, ap}
use Rattle.peer_accounts.specs.Accounts.{Credit}
use Rattle.step_log.specs.Notes.{Noted}
use Rattle.step_log.specs.declared.made.Made.{Made}

abbrev pub noted_with : Credit → ℕ → List Made → Noted
noted_with credit begun made = record { credit = credit; begun = begun; made = made }

pub noted_as : (credit : Credit) {begun begun' : ℕ} {made made' : List Made} → begun ≡ begun' → made ≡ made'
    → noted_with credit begun made ≡ noted_with credit begun' made'
noted_as credit {begun} {begun'} {made} {made'} same are = ap (λ b. noted_with credit b made) same ∙ ap (noted_with credit begun')
    are
