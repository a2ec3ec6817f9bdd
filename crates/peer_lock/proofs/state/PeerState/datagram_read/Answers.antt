use Rattle.std.proofs.Common.{Ok, Err, inl, subst, sym, rules}
use Rattle.peer_lock.specs.Unworked.{IsUnworked}
use Rattle.peer_lock.proofs.Shortness.{short_datagram}
use Rattle.peer_lock.proofs.Refusing.{looked_at, read_unworked, read_due, err_refused}
use Rattle.peer_lock.proofs.state.PeerState.datagram_read.Goals as goal

pub arrive-requires-clause-short : goal.arrive-requires-clause-short
arrive-requires-clause-short g c κs within =
    let looked =
    looked_at _ c.args.self.now g.J.LedgerSet.first_steps c.is_spent.result _ c.args.datagram.now _ (Ok c.in-Ok.spelled)
    c.self.view_is c.is_spent.ensures.1
    c.if-is_spent.false c.if-datagram-gt2048.false c.datagram.invariant c.datagram.view_is c.in-Ok.is in
    short_datagram c.args.datagram.now c.in-Ok.spelled looked.reading.exact looked.short

pub returns-in-Ok : goal.returns-in-Ok
returns-in-Ok g c =
    let looked =
    looked_at _ c.args.self.now g.J.LedgerSet.first_steps c.is_spent.result _ c.args.datagram.now _ (Ok c.in-Ok.spelled)
    c.self.view_is c.is_spent.ensures.1
    c.if-is_spent.false c.if-datagram-gt2048.false c.datagram.invariant c.datagram.view_is c.in-Ok.is in
    record {
      made = search rules;
      worked = search rules;
      unrefused = search rules;
      unworked = read_unworked g.J.LedgerSet.first_steps c.args.self.now.accounts.steps c.args.datagram.now c.in-Ok.spelled looked
          c.arrive.result c.arrive.ensures.unsound;
      refused = read_due g.J.LedgerSet.first_steps c.args.self.now.accounts.steps c.args.datagram.now c.in-Ok.spelled looked
          c.args.self.now c.args.now c.arrive.result c.arrive.ensures.refused;
      err = search rules;
      no_memory = search rules;
      memory = search rules;
    }

pub returns-in-Err : goal.returns-in-Err
returns-in-Err g c =
    let looked =
    looked_at _ c.args.self.now g.J.LedgerSet.first_steps c.is_spent.result _ c.args.datagram.now _ (Err c.in-Err.error)
    c.self.view_is c.is_spent.ensures.1
    c.if-is_spent.false c.if-datagram-gt2048.false c.datagram.invariant c.datagram.view_is c.in-Err.is in
    record {
      made = search rules;
      worked = search rules;
      unrefused = search rules;
      unworked = search rules;
      refused = inl (subst (IsUnworked g.J.LedgerSet.first_steps c.args.self.now.accounts.steps c.args.datagram.now)
          (sym c.from.ensures) (err_refused g.J.LedgerSet.first_steps c.args.self.now.accounts.steps c.args.datagram.now
          looked.steps looked.short c.in-Err.error looked.reading.exact));
      err = search rules;
      no_memory = search rules;
      memory = search rules;
    }

pub returns-then-datagram-gt2048 : goal.returns-then-datagram-gt2048
returns-then-datagram-gt2048 c = search rules
