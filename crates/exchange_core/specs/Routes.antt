-- The routes of offered calls.
use Rattle.std.specs.Prelude.{◌≡◌, ℕ, ◌<◌, ◌||◌, not, Bool, true, false, List, Option, None, Some, All, option_map, slice_get}
use Rattle.std.specs.List.{list_all}
use Rattle.call_signals.specs.Credential.{is_printable}
use Rattle.leg_machine.specs.Format.{formats_of_both, format_among}
use Rattle.call_signals.specs.declared.format.Format.{Format}
use Rattle.call_signals.specs.declared.format.Formats.{Formats}
use Rattle.call_signals.specs.declared.rules.PeerRules.{PeerRules}
use Rattle.peer_accounts.specs.declared.onwards.Offer.{Offer}
use Rattle.peer_plan.specs.Plan.{PlanView, fits, IsNearest}
use Rattle.peer_plan.specs.declared.route.Route.{Route as Way}
use Rattle.call_control.specs.declared.need.Route.{Route}
use Rattle.call_control.specs.declared.need.Route.TheVariants as routes

-- the peer of the route is one of the plan's
abbrev pub LeadsInside : Route → ℕ → Type 0
LeadsInside (routes.To peer format) peers = peer < peers
LeadsInside route peers = Unit {0}

-- the format of an offered call at a target with these formats: the one chosen by its NEW if the target has it, otherwise
-- the lowest that both have; none if they have none in common
abbrev pub format_for : Offer → Formats → Option Format
format_for offer formats = format_among (formats_of_both offer.formats formats) offer.format

abbrev pub is_hardened : Option PeerRules → Bool
is_hardened None = false
is_hardened (Some rules) = rules.is_hardened

-- the legs of a peer of the plan are hardened: the plan is of version 4
abbrev pub hardens : PlanView → ℕ → Bool
hardens plan peer = is_hardened (option_map (λ peer. peer.rules) (slice_get plan.peers peer))

-- A peer may call a number: in plan version 4 one of printable octets, 0x20 ..= 0x7e. Others could turn a terminal or a log of
-- whoever gets the call ("CALLED NUMBER").
abbrev pub may_call : PlanView → ℕ → List ℕ → Bool
may_call plan caller number = not (hardens plan caller) || list_all is_printable number

-- the nearest route of a peer's call to the number leads to this peer, and the call has this format there, or none
pub record LeadsTo (plan : PlanView) (caller : ℕ) (offer : Offer) (peer : ℕ) (agreed : Option Format) : Type 0 where
  pub way : Way
  pub nearest : IsNearest plan.avoids_return plan.routes caller offer.called way
  pub owner : way.peer ≡ peer
  pub rules : PeerRules
  pub are_its : option_map (λ peer. peer.rules) (slice_get plan.peers peer) ≡ Some rules
  pub format : format_for offer rules.formats ≡ agreed

-- the route of the call that a peer offers, if it offers one
abbrev pub IsRoute : PlanView → ℕ → Option Offer → Route → Type 0
IsRoute plan caller None route = route ≡ routes.Nowhere
IsRoute plan caller (Some offer) routes.BadNumber = may_call plan caller offer.called ≡ false
IsRoute plan caller (Some offer) routes.Nowhere =
    (may_call plan caller offer.called ≡ true) ×
    All (λ way. fits plan.avoids_return caller offer.called way ≡ false) plan.routes
IsRoute plan caller (Some offer) (routes.To peer format) =
    (may_call plan caller offer.called ≡ true) × LeadsTo plan caller offer peer (Some format)
IsRoute plan caller (Some offer) routes.WithoutFormat =
    (may_call plan caller offer.called ≡ true) × ((peer : ℕ) × LeadsTo plan caller offer peer None)
