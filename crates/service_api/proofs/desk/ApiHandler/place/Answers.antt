use Rattle.std.proofs.Common.{inl, string_bytes}
use Rattle.service_api.proofs.Answering.{if_ok_then}
use Rattle.service_api.proofs.desk.ApiHandler.place.Goals as goal

pub returns-in-Ok : goal.returns-in-Ok
returns-in-Ok g c =
    if_ok_then c.place_call.result _ _
    (λ answer shows. inl (string_bytes c.in-Ok.order.peer, string_bytes c.in-Ok.order.number, c.in-Ok.ensures.ok, shows))
    c.place_call.ensures
