use Rattle.std.proofs.Common.{◌≡◌, ◌<◌, ◌≤◌, ◌++◌, ◌∙◌, List, length, take, set, sym, ap, subst}
use Rattle.std.proofs.lemmas.List.{append-nil, drop_all, take_all, with_items_is}
use Rattle.std.specs.Vec.{with_items}
use Rattle.std.proofs.lemmas.List.Edits.{map_over_more}
use Rattle.std.specs.Prelude.{map}
use Rattle.peer_plan.specs.declared.peer.Peer.{Peer}
use Rattle.peer_plan.specs.Plan.{IsPlan, PlanView, counts_of, with_drawn}
use Rattle.peer_plan.specs.PlanFields.{plan_view}
use Rattle.peer_plan.proofs.DrawnPlans.{counts_kept, endpoints_kept, drawn_plan}
use Rattle.peer_plan.proofs.plan.Plan.with_drawn.Goals as goal

pub loop-peer-init : goal.loop-peer-init
loop-peer-init c = c.deref_mut-peer-items.ensures.value ∙ ap (λ (plan : PlanView). plan.peers) c.self.view_is

pub loop-peer-preserved : goal.loop-peer-preserved
loop-peer-preserved c =
    let peers : c.deref_mut-peer-items.result.now ≡ c.args.self.peers = c.deref_mut-peer-items.ensures.value
    ∙ ap (λ (plan : PlanView). plan.peers) c.self.view_is in
    ap (set c.loop-peer.peer-items c.loop-peer.peer-index) (c.take_drawn.ensures ∙ ap (with_drawn c.args.drawn.now)
    (sym c.peer-item.is))
    ∙ map_over_more (with_drawn c.args.drawn.now) c.args.self.peers c.loop-peer.peer-items c.loop-peer.peer-index
    c.peer-item.result
    (subst (λ (all : List Peer). c.loop-peer.peer-index < length all) peers c.loop-peer-test.true) c.loop-peer.invariant
    c.peer-item.is

drawn_in : (c : goal.After-peers-in-loop-peer-1) → c.loop-peer.peer-items ≡ map (with_drawn c.args.drawn.now) c.args.self.peers
drawn_in c =
    let f = with_drawn c.args.drawn.now in
    let n = c.loop-peer.peer-index in
    let ps = c.args.self.peers in
    let peers : c.deref_mut-peer-items.result.now ≡ ps = c.deref_mut-peer-items.ensures.value
    ∙ ap (λ (plan : PlanView). plan.peers) c.self.view_is in
    let all : length ps ≤ n = subst (λ (all : List Peer). length all ≤ n) peers c.loop-peer-test.false in
    c.loop-peer.invariant ∙ ap (λ rest. map f (take n ps) ++ rest) (drop_all n ps all) ∙ append-nil (map f (take n ps))
    ∙ ap (map f) (take_all n ps all)

-- the peers that are written back
written : (c : goal.After-peers-in-loop-peer-1) → (with_items c.self.inside.peers c.loop-peer.peer-items).items
    ≡ c.loop-peer.peer-items
written c = with_items_is c.self.inside.peers c.loop-peer.peer-items
    (c.loop-peer.auto.peer-items ∙ c.deref_mut-peer-items.ensures.len)

drawn_inside : (c : goal.After-peers-in-loop-peer-1) → c.loop-peer.peer-items ≡ map (with_drawn c.args.drawn.now)
    c.self.inside.peers.items
drawn_inside c = drawn_in c ∙ ap (map (with_drawn c.args.drawn.now)) (sym (ap (λ (plan : PlanView). plan.peers) c.self.view_is))

pub invariant_of-result : goal.invariant_of-result
invariant_of-result c =
    let inside = c.self.inside in
    let drawn = c.args.drawn.now in
    record {
      plan = subst (λ (peers : List Peer). IsPlan (record (plan_view inside) { peers = peers }))
          (sym (written c ∙ drawn_inside c))
          (drawn_plan drawn (plan_view inside) c.self.invariant.plan);
      endpoints = c.self.invariant.endpoints ∙ sym (endpoints_kept drawn inside.peers.items)
          ∙ ap (map (λ (peer : Peer). peer.endpoint)) (sym (written c ∙ drawn_inside c));
      counts = c.self.invariant.counts ∙ sym (counts_kept drawn inside.peers.items) ∙ ap counts_of
          (sym (written c ∙ drawn_inside c));
    }

pub returns : goal.returns
returns c = λ i. record {
  workers = (ap (λ (plan : PlanView). plan.workers) c.self.view_is) i;
  passes = (ap (λ (plan : PlanView). plan.passes) c.self.view_is) i;
  peers = (written c ∙ drawn_in c) i;
  routes = (ap (λ (plan : PlanView). plan.routes) c.self.view_is) i;
  avoids_return = (ap (λ (plan : PlanView). plan.avoids_return) c.self.view_is) i;
}
