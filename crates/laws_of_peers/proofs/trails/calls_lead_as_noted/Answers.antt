use Rattle.std.proofs.Common.{refl}
use Rattle.laws_of_peers.proofs.Leading.{datagram_leads, looking_leads, opening_leads, order_leads, placing_leads}
use Rattle.laws_of_peers.proofs.Leading.{rejection_leads}
use Rattle.laws_of_peers.proofs.Leading.{retiring_leads, taking_leads, tick_leads}
use Rattle.laws_of_peers.proofs.trails.calls_lead_as_noted.Goals as goal

pub returns : goal.returns
returns c = record {
  datagram_read = datagram_leads;
  open_in = opening_leads;
  reject_new = rejection_leads;
  open_out = placing_leads;
  order = order_leads;
  tick = tick_leads;
  retire = retiring_leads;
  take_out = λ number result old new was. was;
  take_into = taking_leads;
  set_draining = λ number drains old. refl;
  look = looking_leads;
  describe = λ number leg peer. record { answers = refl; stays = refl };
  describe_from = λ number leg peer. record { answers = refl; stays = refl };
  leg_count = λ number peer. record { answers = refl; stays = refl };
  sums = λ number peer. record { answers = refl; stays = refl };
  lost = λ number peer. record { answers = refl; stays = refl };
  pokes = λ number peer. record { answers = refl; stays = refl };
}
