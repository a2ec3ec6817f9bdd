-- The plan that its fields represent.
use Rattle.std.specs.Prelude.{◌≡◌, map}
use Rattle.peer_plan.specs.declared.plan.Plan.TheInside.{Inside}
use Rattle.peer_plan.specs.Plan.{PlanView, IsPlan, counts_of}

abbrev pub plan_view : Inside → PlanView
plan_view a =
    record {
      workers = a.workers.items;
      passes = a.passes;
      peers = a.peers.items;
      routes = a.routes;
      avoids_return = a.avoids_return;
    }

pub record IsSound (a : Inside) : Type 0 where
  pub plan : IsPlan (plan_view a)
  -- the arrays that are searched instead of the peers
  pub endpoints : a.endpoints.items ≡ map (λ peer. peer.endpoint) a.peers.items
  pub counts : a.counts.items ≡ counts_of a.peers.items
