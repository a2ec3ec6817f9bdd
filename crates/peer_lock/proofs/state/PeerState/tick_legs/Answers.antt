use Rattle.std.specs.Prelude.{All}
use Rattle.std.proofs.Common.{◌≡◌, ◌≤◌, ◌<◌, ◌+◌, ◌*◌, ℕ, suc, true, length, subst, sym, ap, ◌∙◌, rules, arith}
use Rattle.peer_lock.specs.Peer.{PeerView}
use Rattle.peer_legs.specs.Rests.{is_resting}
use Rattle.peer_lock.specs.Ticks.{TicksLegs}
use Rattle.peer_lock.proofs.Ticking.{AreTicked, none_ticked, more_ticked, all_ticked, next_is, some_at, ticked_count}
use Rattle.peer_lock.proofs.Ticking.{none_to_tick}
use Rattle.peer_lock.proofs.state.PeerState.tick_legs.Goals as goal

more : (skipped result index : ℕ) → skipped ≤ 2 * index → result ≤ 2 → skipped + result ≤ 2 * (index + 1)
more skipped result index few now = omega arith

plus_one : (n : ℕ) → suc n ≡ n + 1
plus_one n = omega arith

pub loop-index-init : goal.loop-index-init
loop-index-init g c = (none_ticked c.args.self.now c.args.now c.place_count-count.ensures.outbox, omega arith)

pub tick_place-skipped-requires-after_bounds : goal.tick_place-skipped-requires-after_bounds
tick_place-skipped-requires-after_bounds g c = λ κs known.
    let within : c.loop-index.index < length c.args.self.now.legs.places = search rules in
    subst (λ n. c.loop-index.index < n) (sym (ticked_count c.args.self.now c.loop-index.self c.args.now c.loop-index.index
    c.loop-index.skipped c.loop-index.invariant.0)) within

pub loop-index-preserved : goal.loop-index-preserved
loop-index-preserved g c =
    let within : c.loop-index.index < length c.args.self.now.legs.places = search rules in
    let at = some_at c.args.self.now.legs.places c.loop-index.index within in
    let next = next_is c.args.self.now c.loop-index.self c.args.now c.loop-index.index c.loop-index.skipped
    c.loop-index.invariant.0 at.0 at.1 in (
      subst (λ n. AreTicked c.args.self.now c.args.now n c.tick_place-skipped.new.self
          (c.loop-index.skipped + c.tick_place-skipped.result)) (plus_one c.loop-index.index)
          (more_ticked c.args.self.now c.loop-index.self c.tick_place-skipped.new.self c.args.now c.loop-index.index
          c.loop-index.skipped c.tick_place-skipped.result
          c.loop-index.invariant.0 at.0 at.1 (c.tick_place-skipped.ensures.peer at.0 next)
          (c.tick_place-skipped.ensures.skipped at.0 next)),
      more c.loop-index.skipped c.tick_place-skipped.result c.loop-index.index c.loop-index.invariant.1
          c.tick_place-skipped.ensures.few,
    )

pub returns-then-are_resting : goal.returns-then-are_resting
returns-then-are_resting g c =
    none_to_tick c.resting_legs_stay.ensures c.args.self.now c.args.now c.place_count-count.ensures.outbox
    (subst (λ (peer : PeerView). All (λ place. is_resting place c.args.now ≡ true) peer.legs.places) c.self.view_is
    (c.are_resting.ensures c.if-are_resting.true))

pub returns : goal.returns
returns g c =
    let inside = c.self-2.inside in
    let settled : c.loop-index.self ≡ record {
      rules = inside.rules;
      legs = c.refresh_idle.new.self;
      outbox = inside.outbox;
      queue = inside.queue;
      since = inside.since;
      drains = inside.drains;
      pokes = inside.pokes;
      accounts = inside.account;
    } =
    sym c.self-2.view_is ∙ ap (λ legs. record {
      rules = inside.rules;
      legs = legs;
      outbox = inside.outbox;
      queue = inside.queue;
      since = inside.since;
      drains = inside.drains;
      pokes = inside.pokes;
      accounts = inside.account;
    })
    (sym c.refresh_idle.ensures) in
    subst (TicksLegs c.args.self.now c.args.now c.loop-index.skipped) settled
    (all_ticked c.args.self.now c.loop-index.self c.args.now c.loop-index.index c.loop-index.skipped c.loop-index.invariant.0
    (subst (λ n. n ≤ c.loop-index.index) c.place_count-count.ensures.count c.loop-index-test.false))
