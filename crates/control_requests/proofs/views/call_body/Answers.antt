use Rattle.control_requests.proofs.views.call_body.Goals as goal

pub returns : goal.returns
returns c = rw (← c.from.ensures) c.object_text.ensures
