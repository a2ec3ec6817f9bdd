-- The requests to the address of the metrics.
use Rattle.std.specs.Prelude.{ℕ, List, codes, if◌then◌else◌}
use Rattle.std.specs.Str.{bytes_eq}
use Rattle.service_state.specs.declared.scrape.Scrape.{Scrape}
use Rattle.service_state.specs.declared.scrape.Scrape.TheVariants.{Metrics, NotAllowed, NotFound}

-- there is one path, and it has one method
abbrev pub scrape_of : List ℕ → List ℕ → Scrape
scrape_of method path =
    if bytes_eq path (codes "/metrics")
    then (if bytes_eq method (codes "GET") then Metrics else NotAllowed)
    else NotFound
