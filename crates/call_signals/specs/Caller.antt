-- The caller, by the elements of a NEW ("Information Elements").
use Rattle.std.specs.Prelude.{ℕ, Bool, List, [], ◌∷◌, ◌++◌, Option, None, Some, if◌then◌else◌}
use Rattle.std.specs.Int.{w16, to_be_bytes}
use Rattle.info_elements.specs.Element.{element}
use Rattle.info_elements.specs.Numbers.{CALLING_NUMBER, CALLING_NAME, CALLINGPRES, CALLINGTON, CALLINGTNS}
use Rattle.call_signals.specs.NewElements.{NewElements}

-- an element of this number and value
abbrev pub element_of : ℕ → List ℕ → List ℕ
element_of number value = element (record { number = number; value = value })

-- an element that is left out if there is no value: of a text, of one octet, of two
abbrev pub element_if : ℕ → Option (List ℕ) → List ℕ
element_if number None = []
element_if number (Some value) = element_of number value

abbrev pub octet_if : ℕ → Option ℕ → List ℕ
octet_if number None = []
octet_if number (Some value) = element_of number (value ∷ [])

abbrev pub two_octets_if : ℕ → Option ℕ → List ℕ
two_octets_if number None = []
two_octets_if number (Some value) = element_of number (to_be_bytes w16 value)

-- the calling number, and nothing else
abbrev pub numbered : Option (List ℕ) → List ℕ
numbered number = element_if CALLING_NUMBER number

-- the other elements about the caller that are carried on
abbrev pub rest_elements : NewElements → List ℕ
rest_elements elements =
    element_if CALLING_NAME elements.name ++ octet_if CALLINGPRES elements.presentation
    ++ octet_if CALLINGTON elements.number_type ++ two_octets_if CALLINGTNS elements.network

-- the elements about the caller; only the number if the others aren't carried on
abbrev pub caller_by : Bool → NewElements → List ℕ
caller_by carried elements = if carried then numbered elements.calling ++ rest_elements elements else numbered elements.calling
