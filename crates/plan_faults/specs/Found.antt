-- The faults that were found in a plan.
use Rattle.std.specs.Prelude.{ℕ, ◌+◌, Option, Some, None, if◌then◌else◌, is_some, length}
use Rattle.plan_faults.specs.declared.findings.Findings.{Findings}

-- their number: the first, the others that are kept, and those beyond them
abbrev pub found : Findings → ℕ
found findings = ((if is_some findings.first then 1 else 0) + length findings.others.items) + findings.more
