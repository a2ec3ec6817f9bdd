use Rattle.std.proofs.Common.{◌≡◌, take}
use Rattle.outbox.specs.Outbox.{put}
use Rattle.peer_lock.proofs.outboxes.put_all.Given as goal

abbrev pub invariant-loop-place : goal.invariant-loop-place
invariant-loop-place l = l.outbox ≡ put l.initial.outbox (take l.place l.replies)
