-- The output of an exchange that served: a line for each worker, and the closed accounts.
use Rattle.std.specs.Prelude.{ℕ, ◌≡◌, ◌+◌, ◌≤◌, List, ◌++◌, Option, codes, decimal, length}
use Rattle.std.specs.List.{enumerate_from, flat_map}
use Rattle.std.specs.Io.KnownBytes.{Appends}
use Rattle.worker_setup.specs.Accounts.{accounts_text}
use Rattle.worker_setup.specs.declared.accounts.MediaAccounts.{MediaAccounts}
use Rattle.udp_workers.specs.declared.report.TurnReport.{TurnReport}

-- the line of the worker at a place: datagrams received, sent and lost, and failed calls of the wire
abbrev pub report_line : ℕ × TurnReport → List ℕ
report_line (place, report) =
    codes "worker " ++ (decimal place ++ (codes " " ++ (decimal report.received ++ (codes " " ++ (decimal report.sent
    ++ (codes " " ++ (decimal report.lost ++ (codes " " ++ (decimal report.faults ++ codes "\n")))))))))

-- the workers' lines, in order
abbrev pub reports_text : List TurnReport → List ℕ
reports_text reports = flat_map report_line (enumerate_from 0 reports)

-- a writer was given the line of each of so many workers, and accounts that add up
pub record HasServed (workers : ℕ) (before after : Option (List ℕ)) : Type 0 where
  pub reports : List TurnReport
  pub each : length reports ≡ workers
  pub accounts : MediaAccounts
  pub balances : accounts.accepted ≡ accounts.packed + accounts.queued + accounts.dropped
  pub part : accounts.quelched ≤ accounts.dropped
  pub lines : Appends before after (reports_text reports ++ accounts_text accounts)
