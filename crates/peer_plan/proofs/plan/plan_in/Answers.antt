use Rattle.std.proofs.Common.{◌≡◌, ◌≤◌, ◌==◌, length, arith, sym, subst, ◌∙◌}
use Rattle.toml.specs.View.{table_view}
use Rattle.call_signals.specs.PeerRules.{IsWithin}
use Rattle.peer_plan.proofs.PlanLaws.{ArePeers, peers_sound, routes_sound}
use Rattle.peer_plan.proofs.PlanLimits.{limits_sound, workers_within, passes_within}
use Rattle.peer_plan.proofs.PlanLaws.{plan_sound}
use Rattle.peer_plan.proofs.plan.plan_in.Goals as goal

pub peers-requires-clause-some : goal.peers-requires-clause-some
peers-requires-clause-some c =
    let some = workers_within (table_view c.args.table.now) c.in_ok-workers.workers.items c.in_ok-workers.ensures in
    omega (arith, some.0, c.len-worker_count.ensures, c.in_ok-workers.workers.ok.0)

pub peers-requires-clause-few : goal.peers-requires-clause-few
peers-requires-clause-few c =
    let some = workers_within (table_view c.args.table.now) c.in_ok-workers.workers.items c.in_ok-workers.ensures in
    omega (arith, some.1, c.len-worker_count.ensures, c.in_ok-workers.workers.ok.0)

pub routes-requires : goal.routes-requires
routes-requires c =
    let ms = table_view c.args.table.now in
    let some = workers_within ms c.in_ok-workers.workers.items c.in_ok-workers.ensures in
    let least : 1 ≤ c.len-worker_count.result = omega (arith, some.0, c.len-worker_count.ensures, c.in_ok-workers.workers.ok.0) in
    let are = peers_sound c.in_ok-format.format c.len-worker_count.result c.in_ok-limits.limits ms c.in_ok-peers.peers.items least
    (limits_sound c.in_ok-format.format ms c.in_ok-limits.limits c.in_ok-limits.ensures) c.in_ok-peers.ensures in
    rw c.deref.ensures.value are.count.1

pub overflow_cast-result : goal.overflow_cast-result
overflow_cast-result c =
    let ms = table_view c.args.table.now in
    let some = workers_within ms c.in_ok-workers.workers.items c.in_ok-workers.ensures in
    let few : c.len-worker_count.result ≤ 64 = omega (arith, some.1, c.len-worker_count.ensures, c.in_ok-workers.workers.ok.0) in
    let enough = passes_within ms c.len-worker_count.result c.in_ok-passes.passes few (sym c.in_ok-passes.ensures) in
    omega (arith, enough.1)

pub invariant_of-result : goal.invariant_of-result
invariant_of-result c =
    let ms = table_view c.args.table.now in
    let some = workers_within ms c.in_ok-workers.workers.items c.in_ok-workers.ensures in
    let count : c.len-worker_count.result ≡ length c.in_ok-workers.workers.items = c.len-worker_count.ensures
    ∙ c.in_ok-workers.workers.ok.0 in
    let least : 1 ≤ c.len-worker_count.result = omega (arith, some.0, count) in
    let few : c.len-worker_count.result ≤ 64 = omega (arith, some.1, count) in
    let enough = passes_within ms c.len-worker_count.result c.in_ok-passes.passes few (sym c.in_ok-passes.ensures) in
    let are = peers_sound c.in_ok-format.format c.len-worker_count.result c.in_ok-limits.limits ms c.in_ok-peers.peers.items least
    (limits_sound c.in_ok-format.format ms c.in_ok-limits.limits c.in_ok-limits.ensures) c.in_ok-peers.ensures in
    let lead = routes_sound c.in_ok-format.format c.in_ok-peers.peers.items ms c.in_ok-routes.routes
    (rw c.deref.ensures.value at c.in_ok-routes.ensures) in
    record {
      plan = plan_sound c.in_ok-workers.workers.items c.in_ok-passes.passes c.in_ok-peers.peers.items c.in_ok-routes.routes
          (c.in_ok-format.format == 4) some
          (subst (λ n. IsWithin n 64 c.in_ok-passes.passes) count enough) (subst (λ n. ArePeers n c.in_ok-peers.peers.items) count
          are) lead;
      endpoints = rw c.deref-2.ensures.value at c.in_ok-endpoints.ensures;
      counts = rw c.deref-3.ensures.value at c.in_ok-counts.ensures;
    }

pub returns-clause-sound : goal.returns-clause-sound
returns-clause-sound c = (invariant_of-result c).plan
