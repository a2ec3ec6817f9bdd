use Rattle.control_requests.proofs.views.peer_text.Goals as goal

pub returns : goal.returns
returns c = rw (← c.from.ensures, ← c.from-2.ensures, ← c.from-3.ensures) c.object_text.ensures
