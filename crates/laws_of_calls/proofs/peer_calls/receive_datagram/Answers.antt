use Rattle.std.specs.Prelude.{Ok}
use Rattle.std.proofs.Common.{inl}
use Rattle.call_control.specs.declared.reply.Reply.TheVariants as replies
use Rattle.laws_of_calls.proofs.peer_calls.receive_datagram.Goals as goal

pub returns-in-Ok : goal.returns-in-Ok
returns-in-Ok g c =
    let worked = c.in-Ok.ensures.worked in
    let made = c.in-Ok.ensures.made worked.0 worked.1 in
    let room = c.datagram.new.onwards.room in
    inl (record {
      first = g.J.LedgerSet.first_octets;
      datagram = worked.0;
      now = c.args.now;
      room = room;
      becomes = made.peer;
      answers = λ i. replies.Datagram (Ok (record {
        touched = (made.answer i).touched;
        rejected = (made.answer i).rejected;
        onwards = record { signals = made.signals i; offer = made.offer i; room = room };
      }));
    })
