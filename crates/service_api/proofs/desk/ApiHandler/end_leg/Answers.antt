use Rattle.std.proofs.Common.{inl}
use Rattle.service_api.proofs.Answering.{if_ok_then}
use Rattle.service_api.proofs.desk.ApiHandler.end_leg.Goals as goal

pub returns-in-Some : goal.returns-in-Some
returns-in-Some g c =
    if_ok_then c.drop_call.result _ _
    (λ answer shows. inl (c.find_leg-found.new.pass, (c.in-Some.field-0-0, c.in-Some.name), c.in-Some.ensures.found, shows))
    c.drop_call.ensures
