use Rattle.std.specs.Prelude.{All, IfSome, Some, option_map, slice_get}
use Rattle.std.proofs.Common.{Bor, rules, ◌≡◌, ◌∙◌, inr, refl, subst, sym, true, false}
use Rattle.exchange_core.specs.Denial.{refusal_in}
use Rattle.exchange_core.specs.Leaving.{departure_of}
use Rattle.exchange_core.specs.declared.answers.Retired.{Retired}
use Rattle.udp_workers.proofs.HandingLaws.{leave_gives}
use Rattle.udp_workers.proofs.ReceiptLaws.{refusal_read, reports_answered, reports_away}
use Rattle.udp_workers.specs.Draining.{IsTurnedAway}
use Rattle.udp_workers.proofs.receiving.take_arrival.Goals as goal
use Rattle.exchange_core.specs.declared.watch.Event.TheVariants as events

pub returns-then-is_turned_away-clause-observed : goal.returns-then-is_turned_away-clause-observed
returns-then-is_turned_away-clause-observed g c =
    let turn = c.args.turn.now in
    let peer = c.in-Some.peer in
    let found : option_map (λ peer. peer.endpoint) (slice_get turn.exchange.now.peers peer) ≡ Some c.args.from = search rules in
    let away = subst (λ (w : Bor g.row.V.Denot). g.V.Watch.observed w.now (events.TurnedAway peer))
    c.observe-then-is_turned_away.ensures.watch c.observe-then-is_turned_away-2.ensures.observed in
    inr (
      peer,
      found,
      reports_away (g.V.Watch.observed c.args.tally.now.watch.now) peer turn.stage turn.time c.args.octets.now c.args.pass.now
          c.observe-then-is_turned_away.ensures.observed away,
    )

pub returns-clause-observed : goal.returns-clause-observed
returns-clause-observed g c =
    let turn = c.args.turn.now in
    let peer = c.in-Some.peer in
    let answer = c.datagram_of-answer in
    let found : option_map (λ peer. peer.endpoint) (slice_get turn.exchange.now.peers peer) ≡ Some c.args.from = search rules in
    let refused = refusal_read _ refusal_in answer.result.refused _ answer.ensures.reason refl (λ one. refl) in
    let refusals =
    subst (λ (w : Bor g.row.V.Denot). IfSome answer.result.refused
    (λ refusal. g.V.Watch.observed w.now (events.Refused peer refusal))) c.observe-2.ensures.watch c.observe_outcome.ensures.refused in
    let rejections =
    subst (λ (w : Bor g.row.V.Denot). IfSome answer.result.rejected
    (λ rejection. g.V.Watch.observed w.now (events.Rejected peer rejection))) c.observe-2.ensures.watch
    c.observe_outcome.ensures.rejected in
    let kept : IsTurnedAway turn.stage c.args.octets.now → ⊥ = λ turned.
    let yes : c.is_turned_away.result ≡ true = c.is_turned_away.ensures.1 turned in
    let clash : true ≡ false = sym yes ∙ c.if-is_turned_away.false in cc in
    inr (
      peer,
      found,
      reports_answered (g.V.Watch.observed c.args.tally.now.watch.now) peer turn.stage turn.time c.args.octets.now c.args.pass.now
          answer.new.pass c.is_sign_of_life.result c.is_some.result answer.result.refused answer.result.rejected kept
          c.is_some.ensures c.is_sign_of_life.ensures refused answer.ensures.rejected c.observe-2.ensures.observed refusals rejections,
    )

pub returns-clause-handed : goal.returns-clause-handed
returns-clause-handed g c =
    let same : c.observe_outcome.new.self.watch ≡ c.args.tally.now.watch = c.observe_outcome.ensures.watch ∙ c.observe-2.ensures.watch in
    let each = subst (All (λ (leg : Retired). g.V.Watch.given c.observe_outcome.new.self.watch.now (departure_of leg)))
    c.deref.ensures.value c.observe_retired.ensures.given in
    leave_gives (g.V.Watch.given c.args.tally.now.watch.now) c.args.turn.now.time c.args.pass.now c.datagram_of-answer.new.pass
    c.datagram_of-answer.result.retired.items
    c.datagram_of-answer.ensures.retired
    (subst (λ (w : Bor g.row.V.Denot). All (λ (leg : Retired). g.V.Watch.given w.now (departure_of leg))
    c.datagram_of-answer.result.retired.items) same each)
