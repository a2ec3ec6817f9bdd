use Rattle.std.proofs.Common.{◌≡◌, ◌+◌, ◌*◌, ◌<◌, ◌≤◌, rules, subst}
use Rattle.exchange_commands.proofs.DecimalLemmas.{is_whole, too_large}
use Rattle.exchange_commands.proofs.script_line.decimal.Goals as goal

pub returns-in_default : goal.returns-in_default
returns-in_default c both =
    too_large 18446744073709551616 c.loop-digit.number c.args.digits.now c.loop-digit.digit-index (search rules) (search rules)
    c.loop-digit.invariant.value both.1

pub returns-in_default-checked_add : goal.returns-in_default-checked_add
returns-in_default-checked_add c both =
    too_large 18446744073709551616 c.loop-digit.number c.args.digits.now c.loop-digit.digit-index (search rules) (search rules)
    c.loop-digit.invariant.value both.1

pub returns : goal.returns
returns c =
    let whole = is_whole c.loop-digit.number c.args.digits.now c.loop-digit.digit-index (search rules) c.loop-digit.invariant.value
    c.loop-digit.invariant.front in
    (((c.loop-digit.invariant.some, whole.0), subst (λ n. n < 18446744073709551616) whole.1 c.loop-digit.invariant.small), whole.1)
