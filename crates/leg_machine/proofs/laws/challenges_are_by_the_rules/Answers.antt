use Rattle.leg_machine.proofs.Challenged.{reflected-refused, unhardened-answers, stays-little, late-ends}
use Rattle.leg_machine.proofs.laws.challenges_are_by_the_rules.Goals as goal

pub returns-clause-reflected : goal.returns-clause-reflected
returns-clause-reflected c leg frame back = reflected-refused leg frame back

pub returns-clause-unhardened : goal.returns-clause-unhardened
returns-clause-unhardened c rules frame soft = unhardened-answers rules frame soft

pub returns-clause-little : goal.returns-clause-little
returns-clause-little c leg frame now is has room short = stays-little leg frame now is has room short

pub returns-clause-late : goal.returns-clause-late
returns-clause-late c grown leg now is late = late-ends grown leg now is late
