use Rattle.std.proofs.Common.{refl}
use Rattle.laws_of_peers.proofs.Booking.{bridge_leads, release_leads}
use Rattle.laws_of_peers.proofs.trails.calls_lead_the_book.Goals as goal

pub returns : goal.returns
returns c = record {
  reserve = λ peer book. (refl, refl);
  bridge = bridge_leads;
  partner = λ name book. (refl, refl);
  release = release_leads;
  next_serial = λ book. (refl, refl);
}
