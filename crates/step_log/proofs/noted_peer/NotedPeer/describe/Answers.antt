use Rattle.std.proofs.Common.{sym}
use Rattle.step_log.proofs.Noting.{noted_as}
use Rattle.step_log.proofs.noted_peer.NotedPeer.describe.Goals as goal

pub returns-clause-noted : goal.returns-clause-noted
returns-clause-noted g c = rw (sym c.self.view_is, sym c.pass.view_is, sym c.seen_description-seen.ensures) (noted_as
    c.pass.inside.credits c.push.ensures.begun
    c.push.ensures.items)
