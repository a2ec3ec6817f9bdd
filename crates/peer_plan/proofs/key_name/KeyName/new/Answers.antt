use Rattle.std.proofs.Common.{◌≡◌, map, take, ap, ◌∙◌}
use Rattle.std.proofs.lemmas.List.{take_all}
use Rattle.peer_plan.specs.UnknownKeys.{shown_octet}
use Rattle.peer_plan.proofs.KeyNames.{shortest}
use Rattle.peer_plan.proofs.key_name.KeyName.new.Goals as goal

pub returns : goal.returns
returns c =
    let octets = c.as_bytes-octets.result.now in
    let all = take_all c.loop-octet.octet-index (take c.min.result octets) c.loop-octet-test.false in
    let first : take c.min.result octets ≡ take 64 octets = ap (λ n. take n octets) c.min.ensures ∙ shortest octets in
    c.loop-octet.invariant ∙ ap (map shown_octet) (all ∙ first ∙ ap (take 64) c.as_bytes-octets.ensures.value)
