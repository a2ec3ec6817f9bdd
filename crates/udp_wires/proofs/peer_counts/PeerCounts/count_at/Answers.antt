use Rattle.std.proofs.Common.{Bool, sym, ap, ◌∙◌}
use Rattle.std.specs.Prelude.{position}
use Rattle.peer_plan.specs.Reading.{is_endpoint}
use Rattle.peer_plan.specs.declared.endpoint.Endpoint.{Endpoint}
use Rattle.udp_wires.proofs.CountLaws.{found_there, others_kept}
use Rattle.udp_wires.proofs.peer_counts.PeerCounts.count_at.Goals as goal

pub returns-in-Some-clause-others : goal.returns-in-Some-clause-others
returns-in-Some-clause-others c other differ =
    let counts = c.args.self.now in
    let test : Endpoint → Bool = λ peer. is_endpoint peer c.args.to in
    let found = ap (position test) (sym c.deref.ensures.value) ∙ sym c.place_of.ensures ∙ c.in-Some.is in
    others_kept counts.endpoints.items counts.counts.items c.args.to other c.in-Some.place _ found differ

pub returns-in-None-clause-to : goal.returns-in-None-clause-to
returns-in-None-clause-to c there =
    let test : Endpoint → Bool = λ peer. is_endpoint peer c.args.to in
    let none = ap (position test) (sym c.deref.ensures.value) ∙ sym c.place_of.ensures ∙ c.in-None.is in
    absurd (found_there c.args.self.now.endpoints.items c.args.to there none)
