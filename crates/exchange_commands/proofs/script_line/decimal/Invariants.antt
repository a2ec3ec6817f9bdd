use Rattle.std.proofs.Common.{◌≡◌, ◌<◌, drop, length}
use Rattle.std.specs.Str.Parse.{AllDigits, digits_value, digits_value_after}
use Rattle.exchange_commands.proofs.script_line.decimal.Given as goal

abbrev pub invariant-loop-digit : goal.invariant-loop-digit
invariant-loop-digit l = record {
  some : 0 < length l.digits;
  small : l.number < 18446744073709551616;
  value : digits_value 10 l.digits ≡ digits_value_after 10 l.number (drop l.digit-index l.digits);
  front : AllDigits 10 (drop l.digit-index l.digits) → AllDigits 10 l.digits;
  rest : AllDigits 10 l.digits → AllDigits 10 (drop l.digit-index l.digits);
}
