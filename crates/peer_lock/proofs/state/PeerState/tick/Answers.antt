use Rattle.std.proofs.Common.{◌≡◌, ◌≤◌, ◌+◌, ◌-◌, ◌∙◌, ℕ, Bool, cond, true, false, List, ap, sym, subst, arith, rules}
use Rattle.peer_accounts.specs.Accounts.{Accounts}
use Rattle.peer_lock.specs.Peer.{PeerView, counted}
use Rattle.peer_lock.specs.Ticks.{TicksLegs, asked}
use Rattle.peer_lock.specs.Trunks.{accounts_after, flushes}
use Rattle.peer_lock.proofs.state.PeerState.tick.Goals as goal
use Rattle.trunk_packer.specs.Queue.{QueueEntry}

either_more : (goes : Bool) (packed queued : ℕ) → packed ≤ cond goes (packed + queued) packed
either_more true packed queued = omega arith
either_more false packed queued = omega arith

-- a queue that goes out adds to the packed octets
more_packed : (goes : Bool) (queue : List QueueEntry) (accounts : Accounts)
    → accounts.packed ≤ (accounts_after goes queue accounts).packed
more_packed goes queue accounts = either_more (flushes goes queue) accounts.packed accounts.queued

grown : (before more between now octets : ℕ) → before ≤ more → between ≡ more → now ≡ between + octets
    → now ≡ before + (now - before)
grown before more between now octets most between_is now_is = omega (arith, most, between_is, now_is)

pub returns : goal.returns
returns g c =
    let now : ℕ = c.args.now in
    let old : PeerView = c.args.self.now in
    let between : PeerView = c.tick_legs-skipped.new.self in
    let start : c.poke_if_due.new.self ≡ asked (counted old) now =
    c.poke_if_due.ensures
    ∙ (λ i. asked (record {
      rules = c.self.inside.rules;
      legs = c.self.inside.legs;
      outbox = c.self.inside.outbox;
      queue = c.self.inside.queue;
      since = c.self.inside.since;
      drains = c.self.inside.drains;
      pokes = c.self.inside.pokes;
      accounts = c.count_step.ensures.counted i;
    }) now)
    ∙ ap (λ (v : PeerView). asked (counted v) now) c.self.view_is in
    let legs : TicksLegs (asked (counted old) now) now c.tick_legs-skipped.result between =
    subst (λ (p : PeerView). TicksLegs p now c.tick_legs-skipped.result between) start c.tick_legs-skipped.ensures in
    let before : c.packed-packed_before.result ≡ old.accounts.packed = search rules in
    let packed : c.packed.result ≡ c.pack_at_tick.new.self.accounts.packed = c.packed.ensures in
    let more = grown old.accounts.packed _ between.accounts.packed c.pack_at_tick.new.self.accounts.packed c.pack_at_tick.result
    (more_packed _ _ (counted old).accounts) (ap (λ (p : PeerView). p.accounts.packed) legs.legs)
    c.pack_at_tick.ensures.packed in
    record {
      spent = search rules;
      ticked = record {
        between = between;
        legs = legs;
        octets = c.pack_at_tick.result;
        packs = c.pack_at_tick.ensures.packs;
        packed = more ∙ λ i. old.accounts.packed + (sym packed i - sym before i);
      };
      quiet = search rules;
      credit = search rules;
      err = search rules;
    }
