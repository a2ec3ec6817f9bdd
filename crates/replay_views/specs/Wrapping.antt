-- A text on lines.
use Rattle.std.specs.Prelude.{◌≡◌, ℕ, ◌⊎◌, List, ◌∷◌, ◌++◌}

-- a line, and what follows it: nothing of the text is lost but a blank between them
abbrev pub Splits : List ℕ → List ℕ → List ℕ → Type 0
Splits text line rest = (text ≡ line ++ rest) ⊎ (text ≡ line ++ 32 ∷ rest)
