use Rattle.std.specs.Prelude.{Ok}
use Rattle.std.proofs.Common.{inl}
use Rattle.call_control.specs.declared.reply.Reply.TheVariants as replies
use Rattle.laws_of_calls.proofs.peer_calls.receive_new.Goals as goal

pub returns-in-Ok-clause-made : goal.returns-in-Ok-clause-made
returns-in-Ok-clause-made g c =
    let made = c.in-Ok.ensures in
    let room = c.open_in.new.onwards.room in
    inl (record {
      credit = g.J.LedgerSet.first_steps;
      frame = c.args.frame.now;
      now = c.args.now;
      challenge = c.args.challenge.now;
      room = room;
      unrefused = made.unrefused;
      becomes = made.peer;
      answers = λ i. replies.OpenIn (Ok (record {
        touched = (made.step i).touched;
        rejected = (made.step i).rejected;
        onwards = record { signals = made.signals i; offer = made.offer i; room = room };
      }));
    })
