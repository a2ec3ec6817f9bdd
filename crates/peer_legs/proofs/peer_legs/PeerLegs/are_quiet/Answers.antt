use Rattle.std.proofs.Common.{rules, subst}
use Rattle.std.specs.Prelude.{◌≡◌, All, true}
use Rattle.peer_legs.specs.Legs.{PeerLegs}
use Rattle.peer_legs.specs.Rests.{is_quiet}
use Rattle.peer_legs.proofs.AtRest.{rest_quiet}
use Rattle.peer_legs.proofs.peer_legs.PeerLegs.are_quiet.Goals as goal

pub returns-then-self-gt0 : goal.returns-then-self-gt0
returns-then-self-gt0 c = (
  λ _. subst (λ (legs : PeerLegs). All (λ place. is_quiet place ≡ true) legs.places) c.self.view_is
      (rest_quiet c.self.inside.rest_until c.self.inside.places.items c.self.invariant.rest c.if-self-gt0.true),
  λ _. search rules,
)
