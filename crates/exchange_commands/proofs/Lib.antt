mod DecimalLemmas
mod DigitLemmas
