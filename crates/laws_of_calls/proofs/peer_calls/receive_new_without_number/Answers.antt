use Rattle.std.proofs.Common.{inl, refl}
use Rattle.laws_of_calls.proofs.peer_calls.receive_new_without_number.Goals as goal

pub returns-in-Ok : goal.returns-in-Ok
returns-in-Ok g c =
    inl (record {
      credit = g.J.LedgerSet.first_steps;
      frame = c.args.frame.now;
      unrefused = c.in-Ok.ensures.unrefused;
      becomes = c.in-Ok.ensures.peer;
      answers = refl;
    })
