use Rattle.std.proofs.Common.{◌≡◌, ◌∙◌, ◌+◌, ◌*◌, ℕ, List, true, drop, get_or, option_map, sym, ap, rules}
use Rattle.std.proofs.lemmas.List.{drop_more}
use Rattle.std.specs.Char.{is_ascii_digit}
use Rattle.control_requests.specs.Digits.{number_after, up_to}
use Rattle.control_requests.proofs.DigitLemmas.{kept, first_digit}
use Rattle.control_requests.proofs.digits.number_up_to.Goals as goal

pub loop-digit-preserved : goal.loop-digit-preserved
loop-digit-preserved c =
    let number = c.loop-digit.number in
    let digit = get_or c.args.digits.now c.loop-digit.digit-index 0 in
    let rest = drop (c.loop-digit.digit-index + 1) c.args.digits.now in
    let front = drop_more c.args.digits.now c.loop-digit.digit-index 0 (search rules) in
    let is_digit : is_ascii_digit digit ≡ true = sym c.is_ascii_digit.ensures.value ∙ c.if-not-is_ascii_digit.false in
    record {
      value =
          ap (λ (n : ℕ). option_map (up_to c.args.limit) (number_after n rest)) c.up_to-number.ensures
          ∙ kept c.args.limit (10 * number + c.from.result) rest
          ∙ ap (λ (n : ℕ). option_map (up_to c.args.limit) (number_after (10 * number + n) rest)) c.from.ensures
          ∙ ap (option_map (up_to c.args.limit)) (sym (first_digit number digit rest is_digit))
          ∙ ap (λ (ds : List ℕ). option_map (up_to c.args.limit) (number_after number ds)) (sym front)
          ∙ c.loop-digit.invariant.value;
      small = search rules;
    }
