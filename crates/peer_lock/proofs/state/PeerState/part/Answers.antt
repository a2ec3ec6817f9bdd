use Rattle.std.proofs.Common.{◌≡◌, ◌+◌, ◌∙◌, ap, subst}
use Rattle.peer_accounts.specs.Accounts.{Accounts, carried}
use Rattle.peer_lock.specs.Peer.{PeerView}
use Rattle.peer_lock.proofs.Views.{view_of}
use Rattle.peer_lock.proofs.state.PeerState.part.Goals as goal

pub invariant_of-closed : goal.invariant_of-closed
invariant_of-closed g c = record {
  rules = c.self.invariant.rules;
  ruled = c.self.invariant.ruled;
  queued = ap (λ (a : Accounts). a.queued) c.part-account.ensures.same ∙ c.self.invariant.queued;
  one_frame = c.self.invariant.one_frame;
  few_of_call = c.self.invariant.few_of_call;
}

pub returns-clause-same : goal.returns-clause-same
returns-clause-same g c =
    ap (λ (a : Accounts). record (view_of c.self.view_is) { accounts = a }) c.part-account.ensures.same
    ∙ c.self.view_is

pub returns-clause-octets : goal.returns-clause-octets
returns-clause-octets g c =
    subst (λ (v : PeerView). c.part-account.result.1 + v.accounts.accepted ≡ g.J.LedgerSet.first_octets + carried v.accounts)
    c.self.view_is c.part-account.ensures.octets

pub returns-clause-steps : goal.returns-clause-steps
returns-clause-steps g c =
    subst (λ (v : PeerView). c.part-account.result.2 + v.accounts.steps ≡ g.J.LedgerSet.first_steps) c.self.view_is
    c.part-account.ensures.steps
