use Rattle.std.proofs.Common.{ℕ, Ordering, Ok, Err, rules}
use Rattle.std.proofs.lemmas.Fn.{always_returns_same}
use Rattle.peer_plan.specs.RouteIndex.{Way, way_at, way_cmp}
use Rattle.peer_plan.proofs.IndexLaws.{found_way}
use Rattle.peer_plan.proofs.routes.place_of.Goals as goal

pub returns-in-Ok-clause-found : goal.returns-in-Ok-clause-found
returns-in-Ok-clause-found c =
    let way : Way = (c.args.prefix.now, c.args.source) in
    let order : ℕ → Ordering = λ place. way_cmp (way_at c.args.routes.now place) way in
    let position = c.in-Ok.ensures.position order (always_returns_same _ _ _ (λ a r g h. search rules)) in
    let found = found_way c.args.routes.now c.args.index.now way (Ok c.in-Ok.at) c.requires c.in-Ok.ensures.bound position in
    (found.1, found.2)

pub returns-in-Err-clause-none : goal.returns-in-Err-clause-none
returns-in-Err-clause-none c =
    let way : Way = (c.args.prefix.now, c.args.source) in
    let order : ℕ → Ordering = λ place. way_cmp (way_at c.args.routes.now place) way in
    let position = c.in-Err.ensures.position order (always_returns_same _ _ _ (λ a r g h. search rules)) in
    found_way c.args.routes.now c.args.index.now way (Err c.in-Err.field-0) c.requires c.in-Err.ensures.bound position
