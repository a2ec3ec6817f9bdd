use Rattle.std.specs.Prelude.{map}
use Rattle.std.proofs.Common.{rules}
use Rattle.call_book.specs.declared.leg_name.LegName.{LegName}
use Rattle.iax_frames.specs.FullFrame.{spelling}
use Rattle.leg_machine.specs.Openings.{open_out_step}
use Rattle.leg_machine.specs.Steps.{Step}
use Rattle.peer_lock.proofs.Opened.{seated}
use Rattle.peer_lock.proofs.state.PeerState.open_out.Goals as goal

pub returns-in-Ok : goal.returns-in-Ok
returns-in-Ok g c =
    let step : LegName → Step = λ n. open_out_step c.args.self.now.rules n.number c.args.called.now c.args.caller.now
    c.args.format c.args.now in
    record {
      peer = seated c.args.self.now c.send_new.new.self c.seat.new.self c.name-2.result c.args.lease (λ n. (step n).leg)
          (λ n. map spelling (step n).replies)
          c.in-Ok.leg.state c.name-2.ensures c.seat.ensures.peer c.in-Ok.ensures.peer c.in-Ok.ensures.leg;
      step = search rules;
      credit = search rules;
      unrefused = search rules;
      refused = search rules;
      lease = search rules;
      err = search rules;
      no_memory = search rules;
    }
