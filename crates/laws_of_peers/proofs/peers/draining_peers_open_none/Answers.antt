use Rattle.laws_of_peers.proofs.ClosedToCalls.{closed, draining_none, named, rejected}
use Rattle.laws_of_peers.proofs.peers.draining_peers_open_none.Goals as goal

pub returns-clause-none : goal.returns-clause-none
returns-clause-none c peer frame now drains = draining_none peer frame now drains

pub returns-clause-answered : goal.returns-clause-answered
returns-clause-answered c peer frame now drains is = rejected peer frame now drains is

pub returns-clause-refused : goal.returns-clause-refused
returns-clause-refused c peer credit name source drains = closed peer credit name source drains

pub returns-clause-named : goal.returns-clause-named
returns-clause-named c peer credit name source drains unspent free = named peer credit name source drains unspent free
