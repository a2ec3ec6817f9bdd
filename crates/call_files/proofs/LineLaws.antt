-- Octets that go from a line to a file.
use Rattle.std.proofs.Common.{◌≡◌, ℕ, ◌+◌, List, ◌++◌, Option, Some, None, take, drop, refl, sym, ap, ◌∙◌}
use Rattle.std.proofs.lemmas.List.{append_assoc, take-append-drop, drop-drop}
use Rattle.call_files.specs.Lines.{followed_by}

-- octets written from the front of the rest go behind the file's content, and the rest is shorter by them
pub followed_by_written : (contents : Option (List ℕ)) (octets : List ℕ) (written count : ℕ)
    → followed_by (drop (written + count) octets) (followed_by (take count (drop written octets)) contents)
    ≡ followed_by (drop written octets) contents
followed_by_written None octets written count = refl
followed_by_written (Some c) octets written count =
    ap (λ l. Some (c ++ take count (drop written octets) ++ l)) (sym (drop-drop count written octets))
    ∙ ap (λ l. Some l) (append_assoc c (take count (drop written octets)) (drop count (drop written octets)))
    ∙ ap (λ l. Some (c ++ l)) (take-append-drop count (drop written octets))
