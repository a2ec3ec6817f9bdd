use Rattle.call_control.proofs.Left.{told_within, left_octets}
use Rattle.call_control.proofs.laws.media_is_carried_once.Goals as goal

pub returns-clause-within : goal.returns-clause-within
returns-clause-within c len work reply all more = told_within len work.place reply work.rest all more

pub returns-clause-octets : goal.returns-clause-octets
returns-clause-octets c = left_octets
