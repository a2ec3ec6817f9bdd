-- The elements of a full frame ("Information Elements").
use Rattle.std.specs.Prelude.{ℕ, List, Option}
use Rattle.iax_frames.specs.FullFrame.{FullFrame}
use Rattle.info_elements.specs.Element.{elements_of, last_of}

-- the value of the last element of a number in a frame's data
abbrev pub element_in : FullFrame → ℕ → Option (List ℕ)
element_in frame number = last_of number (elements_of frame.payload)
