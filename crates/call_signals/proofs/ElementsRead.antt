-- Reading the elements of a NEW one after another.
use Rattle.std.proofs.Common.{◌≡◌, ℕ, Bool, true, false, cond, eqb, List, ◌∷◌, Option, Some, None, refl, sym}
use Rattle.info_elements.specs.Element.{Element, or, last_of, u8_in, u16_in, u32_in}
use Rattle.info_elements.specs.Numbers.{CALLED_NUMBER, CALLING_NUMBER, CALLING_NAME, CALLINGPRES, CALLINGTON, CALLINGTNS}
use Rattle.info_elements.specs.Numbers.{CAPABILITY, FORMAT, VERSION}
use Rattle.call_signals.specs.NewElements.{NewElements, by_name, with_element}

-- the value of a later element, if there is one, replaces the earlier value
abbrev pub later : {A : Type 0} → (Option (List ℕ) → Option A) → Option (List ℕ) → Option A → Option A
later read None before = before
later read (Some value) before = read (Some value)

-- with the elements that follow
abbrev pub with_elements : NewElements → List Element → NewElements
with_elements before es = record {
  called = or (last_of CALLED_NUMBER es) before.called;
  calling = or (last_of CALLING_NUMBER es) before.calling;
  name = or (last_of CALLING_NAME es) before.name;
  presentation = later u8_in (last_of CALLINGPRES es) before.presentation;
  number_type = later u8_in (last_of CALLINGTON es) before.number_type;
  network = later u16_in (last_of CALLINGTNS es) before.network;
  format = later u32_in (last_of FORMAT es) before.format;
  capability = later u32_in (last_of CAPABILITY es) before.capability;
  version = later u16_in (last_of VERSION es) before.version;
}

text-more : (following : Option (List ℕ)) (b : Bool) (value : List ℕ) (before : Option (List ℕ))
    → or following (cond b (Some value) before) ≡ or (or following (cond b (Some value) None)) before
text-more (Some other) b value before = refl
text-more None true value before = refl
text-more None false value before = refl

number-more : (read : Option (List ℕ) → Option ℕ) (following : Option (List ℕ)) (b : Bool) (value : List ℕ) (before : Option ℕ)
    → later read following (cond b (read (Some value)) before) ≡ later read (or following (cond b (Some value) None)) before
number-more read (Some other) b value before = refl
number-more read None true value before = refl
number-more read None false value before = refl

-- one more element was read
pub with_elements-more : (before : NewElements) (e : Element) (es : List Element)
    → with_elements (with_element before e) es ≡ with_elements before (e ∷ es)
with_elements-more before e es = λ i. record {
  called = text-more (last_of CALLED_NUMBER es) (eqb e.number CALLED_NUMBER) e.value before.called i;
  calling = text-more (last_of CALLING_NUMBER es) (eqb e.number CALLING_NUMBER) e.value before.calling i;
  name = text-more (last_of CALLING_NAME es) (eqb e.number CALLING_NAME) e.value before.name i;
  presentation = number-more u8_in (last_of CALLINGPRES es) (eqb e.number CALLINGPRES) e.value before.presentation i;
  number_type = number-more u8_in (last_of CALLINGTON es) (eqb e.number CALLINGTON) e.value before.number_type i;
  network = number-more u16_in (last_of CALLINGTNS es) (eqb e.number CALLINGTNS) e.value before.network i;
  format = number-more u32_in (last_of FORMAT es) (eqb e.number FORMAT) e.value before.format i;
  capability = number-more u32_in (last_of CAPABILITY es) (eqb e.number CAPABILITY) e.value before.capability i;
  version = number-more u16_in (last_of VERSION es) (eqb e.number VERSION) e.value before.version i;
}

-- nothing was read before
text-none : (following : Option (List ℕ)) → or following None ≡ following
text-none None = refl
text-none (Some value) = refl

number-none : (read : Option (List ℕ) → Option ℕ) → read None ≡ None → (following : Option (List ℕ))
    → later read following None ≡ read following
number-none read none None = sym none
number-none read none (Some value) = refl

abbrev pub nothing_read : NewElements
nothing_read = record {
  called = None;
  calling = None;
  name = None;
  presentation = None;
  number_type = None;
  network = None;
  format = None;
  capability = None;
  version = None;
}

pub with_elements-none : (es : List Element) → with_elements nothing_read es ≡ by_name es
with_elements-none es = λ i. record {
  called = text-none (last_of CALLED_NUMBER es) i;
  calling = text-none (last_of CALLING_NUMBER es) i;
  name = text-none (last_of CALLING_NAME es) i;
  presentation = number-none u8_in refl (last_of CALLINGPRES es) i;
  number_type = number-none u8_in refl (last_of CALLINGTON es) i;
  network = number-none u16_in refl (last_of CALLINGTNS es) i;
  format = number-none u32_in refl (last_of FORMAT es) i;
  capability = number-none u32_in refl (last_of CAPABILITY es) i;
  version = number-none u16_in refl (last_of VERSION es) i;
}
