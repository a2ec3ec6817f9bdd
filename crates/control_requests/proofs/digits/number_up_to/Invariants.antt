use Rattle.std.proofs.Common.{◌≡◌, ◌+◌, ◌≤◌, drop, option_map}
use Rattle.control_requests.specs.Digits.{number_after, up_to}
use Rattle.control_requests.proofs.digits.number_up_to.Given as goal

abbrev pub invariant-loop-digit : goal.invariant-loop-digit
invariant-loop-digit l = record {
  value : option_map (up_to l.limit) (number_after l.number (drop l.digit-index l.digits))
      ≡ option_map (up_to l.limit) (number_after 0 l.digits);
  small : l.number ≤ l.limit + 1;
}
