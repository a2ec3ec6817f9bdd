use Rattle.call_records.proofs.Frames.{entry_some, entry_within, entry_none}
use Rattle.call_records.proofs.side_frames.entry_at.Goals as goal

pub returns-clause-some : goal.returns-clause-some
returns-clause-some c = entry_some c.entry.result c.args.history.now.entries c.args.place c.entry.ensures

pub returns-clause-within : goal.returns-clause-within
returns-clause-within c = entry_within c.entry.result c.args.history.now.entries c.args.place c.entry.ensures

pub returns-clause-none : goal.returns-clause-none
returns-clause-none c = entry_none c.entry.result c.args.history.now.entries c.args.place c.entry.ensures
