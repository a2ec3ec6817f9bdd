use Rattle.std.proofs.Common.{◌∙◌, ap}
use Rattle.peer_accounts.specs.Accounts.{Accounts}
use Rattle.peer_lock.proofs.Views.{view_of}
use Rattle.peer_lock.proofs.closed.ClosedPeer.whole.Goals as goal

pub returns : goal.returns
returns g c =
    ap (λ (a : Accounts). record (view_of c.self.view_is) { accounts = a }) c.whole.ensures
    ∙ c.self.view_is
