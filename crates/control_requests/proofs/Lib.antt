mod DigitLemmas
mod FieldLemmas
mod LengthLemmas
mod RowLemmas
