-- The metrics of the peers: a family for each figure, and in it a line for each peer.
use Rattle.std.specs.Prelude.{ℕ, List, [], ◌∷◌, ◌++◌, codes, decimal, Option, None, Some}
use Rattle.std.specs.List.{flat_map}
use Rattle.service_state.specs.Figures.{family_of, help_of, value_of}
use Rattle.service_state.specs.Metrics.{value_octet, help_line, type_line}
use Rattle.service_state.specs.declared.figures.Figure.{Figure}
use Rattle.service_state.specs.declared.figures.Figure.TheVariants as figure
use Rattle.service_state.specs.declared.figures.PeerFigures.{PeerFigures}

-- the line of a value: the family's name, the peer as a label, the value; none without a value
abbrev pub line_of : List ℕ → List ℕ → Option ℕ → List ℕ
line_of name peer None = []
line_of name peer (Some value) =
    name ++ ((codes "{" ++ ((codes "peer" ++ (codes "=\"" ++ (flat_map value_octet peer ++ codes "\""))) ++ codes "}"))
    ++ (codes " " ++ (decimal value ++ codes "\n")))

-- the line of a peer in the family of a figure
abbrev pub figure_line : Figure → PeerFigures → List ℕ
figure_line figure peer = line_of (family_of figure).1 peer.name.now (value_of figure peer)

-- a figure's family: the lines HELP and TYPE, and the line of each peer that has it, in the order of the peers
abbrev pub figure_text : Figure → List PeerFigures → List ℕ
figure_text figure peers =
    help_line (family_of figure).1 (help_of figure)
    ++ (type_line (family_of figure).1 (family_of figure).0 ++ flat_map (figure_line figure) peers)

-- all figures, in the order of their families
abbrev pub figures : List Figure
figures =
    figure.Received ∷ figure.TurnedAway ∷ figure.Sent ∷ figure.Lost ∷ figure.Legs ∷ figure.Numbers ∷ figure.LegsEnded
    ∷ figure.Silence ∷ figure.Up ∷ figure.Unreachable ∷ figure.RoundTrip ∷ figure.Accepted ∷ figure.Packed ∷ figure.Queued
    ∷ figure.Dropped ∷ figure.Quelched ∷ []

abbrev pub families_text : List Figure → List PeerFigures → List ℕ
families_text figures peers = flat_map (λ figure. figure_text figure peers) figures
