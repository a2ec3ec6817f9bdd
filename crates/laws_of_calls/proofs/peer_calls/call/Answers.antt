use Rattle.std.proofs.Common.{inl, refl}
use Rattle.laws_of_calls.proofs.peer_calls.call.Goals as goal

pub returns-in-Ok-clause-made : goal.returns-in-Ok-clause-made
returns-in-Ok-clause-made g c =
    inl (record {
      credit = g.J.LedgerSet.first_steps;
      called = c.args.called.now;
      caller = c.args.caller.now;
      format = c.args.format;
      now = c.args.now;
      unrefused = c.in-Ok.ensures.unrefused;
      becomes = c.in-Ok.ensures.peer;
      answers = refl;
    })
