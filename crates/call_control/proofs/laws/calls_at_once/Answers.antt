use Rattle.call_control.proofs.Prelude.{seen_reply, Rest, told_at, run, Place, Reply, ◌≡◌, arith}
use Rattle.call_control.proofs.Names.{named, held_once, not_busy, not_outside, not_stale, numbers_serve_one}
use Rattle.call_control.proofs.Names.{names_are_the_legs}
use Rattle.call_control.proofs.Safety.{safe, looked_after, all_have_partners}
use Rattle.call_control.proofs.Talk.{talks_in, none_meets_offered}
use Rattle.call_control.proofs.laws.calls_at_once.Goals as goal

told_seen : (place : Place) (reply : Reply) (rest : Rest) → told_at place reply rest ≡ told_at place (seen_reply reply) rest
told_seen place reply rest = grind arith

pub returns : goal.returns
returns c = record {
  names = λ world opened events. held_once (run events world) (named world opened events);
  busy = λ world opened events. not_busy (run events world) (named world opened events);
  outside = λ world opened events. not_outside (run events world) (named world opened events);
  stale = λ world opened events. not_stale (run events world) (named world opened events);
  looked_after = λ world opened events within. looked_after (run events world) (safe world opened events within);
  offered = λ world opened events. none_meets_offered (run events world) (talks_in world opened events);
  idle_names = λ world opened events. names_are_the_legs (run events world) (named world opened events);
  idle_partners = λ world opened events within. all_have_partners (run events world) (safe world opened events within);
  seen = λ work reply. told_seen work.place reply work.rest;
  numbers = λ world opened events. numbers_serve_one (run events world) (named world opened events);
}
