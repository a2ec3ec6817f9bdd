use Rattle.peer_plan.proofs.RouteLaws.{avoided_in, back_by_source}
use Rattle.peer_plan.proofs.laws.returns_have_a_source.Goals as goal

pub returns-clause-back : goal.returns-clause-back
returns-clause-back c routes caller text route is same = back_by_source routes caller text route is same

pub returns-clause-version : goal.returns-clause-version
returns-clause-version c ms format plan is read = avoided_in ms format plan is read
