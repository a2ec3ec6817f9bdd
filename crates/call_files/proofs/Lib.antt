mod LineLaws
mod LogLaws
mod RowLaws
mod LedgerLaws
