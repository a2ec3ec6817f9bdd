use Rattle.call_records.proofs.Joined.{first_told_first, later_told_first}
use Rattle.call_records.proofs.laws.partners_share_a_call.Goals as goal

pub returns-clause-first_told_first : goal.returns-clause-first_told_first
returns-clause-first_told_first c n first later between within apart = first_told_first n first later between within apart

pub returns-clause-later_told_first : goal.returns-clause-later_told_first
returns-clause-later_told_first c n first later between within apart unknown =
    later_told_first n first later between within apart unknown
