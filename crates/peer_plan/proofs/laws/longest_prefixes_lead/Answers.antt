use Rattle.peer_plan.proofs.RouteLaws.{nearest_is_longest, none_begins, unread_before}
use Rattle.peer_plan.proofs.laws.longest_prefixes_lead.Goals as goal

pub returns-clause-somewhere : goal.returns-clause-somewhere
returns-clause-somewhere c routes caller text route none is = nearest_is_longest routes caller text route none is

pub returns-clause-nowhere : goal.returns-clause-nowhere
returns-clause-nowhere c routes caller text none unfit = none_begins routes caller text none unfit

pub returns-clause-before : goal.returns-clause-before
returns-clause-before c format peers ms other = unread_before format peers ms other
