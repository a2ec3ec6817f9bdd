-- The steps that a pass has noted since a moment, and the last that they report of a kind.
use Rattle.std.specs.Option.{option_or}
use Rattle.std.specs.Prelude.{List, [], ◌∷◌, drop, length, Option}
use Rattle.step_log.specs.Notes.{Noted}
use Rattle.step_log.specs.declared.made.Made.{Made}

-- the steps that a pass has noted since
abbrev pub noted_since : Noted → Noted → List Made
noted_since old new = drop (length old.made) new.made

-- the last report of these steps, or otherwise the one before them
abbrev pub last_of : {A : Type 0} → (Made → Option A) → List Made → Option A → Option A
last_of report [] before = before
last_of report (made ∷ rest) before = last_of report rest (option_or (report made) before)
