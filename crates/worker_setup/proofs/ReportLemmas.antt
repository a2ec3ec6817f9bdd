-- Workers' reports and accounts that were written, one after the other.
use Rattle.std.proofs.Common.{◌≡◌, ℕ, List, Option, Result, Ok, Err, IfOk, IsOkAnd, OnOk, length, vec_len, sym, ◌∙◌}
use Rattle.std.proofs.KnownBytes.{Appends-trans}
use Rattle.std.specs.Io.KnownBytes.{Appends}
use Rattle.std.specs.Prelude.{Vec}
use Rattle.worker_setup.specs.Accounts.{WereAccountsWritten, accounts_text}
use Rattle.udp_workers.specs.declared.report.TurnReport.{TurnReport}
use Rattle.worker_setup.specs.Reports.{HasServed, reports_text}

pub served : {A B E F : Type 0} (workers count : ℕ) (passes : _) (reports : Result (Vec TurnReport A) E)
    (settled : Result B F) (before between after : Option (List ℕ))
    → IfOk reports (λ reports. vec_len reports ≡ workers)
    → IsOkAnd reports (λ reports. Appends before between (reports_text reports.items))
    → OnOk settled (WereAccountsWritten count passes between after)
    → OnOk settled (HasServed workers before after)
served workers count passes (Ok reports) (Ok settled) before between after each told accounts = record {
  reports = reports.items;
  each = sym reports.ok.0 ∙ each;
  accounts = accounts.accounts;
  balances = accounts.balances;
  part = accounts.part;
  lines = Appends-trans before between after _ _ told accounts.lines;
}
served workers count passes (Ok reports) (Err error) before between after each told accounts = tt
served workers count passes (Err error) settled before between after each told accounts = absurd told
