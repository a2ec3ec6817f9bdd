-- The information elements of a NEW, by their names ("Call Setup", "Information Elements").
use Rattle.std.specs.Prelude.{ℕ, ◌==◌, if◌then◌else◌, List, Option, Some, option_copied}
use Rattle.info_elements.specs.Element.{Element, elements_of, last_of, u8_in, u16_in, u32_in}
use Rattle.info_elements.specs.Numbers.{CALLED_NUMBER, CALLING_NUMBER, CALLING_NAME, CALLINGPRES, CALLINGTON, CALLINGTNS}
use Rattle.info_elements.specs.Numbers.{CAPABILITY, FORMAT, VERSION}
use Rattle.call_signals.specs.declared.new_elements.NewElements.{NewElements as ReadElements}

pub record NewElements : Type 0 where
  pub called : Option (List ℕ)
  pub calling : Option (List ℕ)
  pub name : Option (List ℕ)
  -- a number is absent if its element doesn't have the right size
  pub presentation : Option ℕ
  pub number_type : Option ℕ
  pub network : Option ℕ
  pub format : Option ℕ
  pub capability : Option ℕ
  pub version : Option ℕ

-- of several elements with one number the last counts
abbrev pub by_name : List Element → NewElements
by_name es = record {
  called = last_of CALLED_NUMBER es;
  calling = last_of CALLING_NUMBER es;
  name = last_of CALLING_NAME es;
  presentation = u8_in (last_of CALLINGPRES es);
  number_type = u8_in (last_of CALLINGTON es);
  network = u16_in (last_of CALLINGTNS es);
  format = u32_in (last_of FORMAT es);
  capability = u32_in (last_of CAPABILITY es);
  version = u16_in (last_of VERSION es);
}

-- the elements of a NEW's data
abbrev pub new_elements : List ℕ → NewElements
new_elements octets = by_name (elements_of octets)

-- the elements that were read, without the places of their texts
abbrev pub named : ReadElements → NewElements
named read = record {
  called = option_copied read.called;
  calling = option_copied read.calling;
  name = option_copied read.name;
  presentation = read.presentation;
  number_type = read.number_type;
  network = read.network;
  format = read.format;
  capability = read.capability;
  version = read.version;
}

-- one more element: it replaces those of its number before it
abbrev pub with_element : NewElements → Element → NewElements
with_element before e = record {
  called = if e.number == CALLED_NUMBER then Some e.value else before.called;
  calling = if e.number == CALLING_NUMBER then Some e.value else before.calling;
  name = if e.number == CALLING_NAME then Some e.value else before.name;
  presentation = if e.number == CALLINGPRES then u8_in (Some e.value) else before.presentation;
  number_type = if e.number == CALLINGTON then u8_in (Some e.value) else before.number_type;
  network = if e.number == CALLINGTNS then u16_in (Some e.value) else before.network;
  format = if e.number == FORMAT then u32_in (Some e.value) else before.format;
  capability = if e.number == CAPABILITY then u32_in (Some e.value) else before.capability;
  version = if e.number == VERSION then u16_in (Some e.value) else before.version;
}
