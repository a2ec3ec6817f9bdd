use Rattle.std.proofs.Common.{◌≡◌, ◌∙◌, ap, sym}
use Rattle.peer_lock.specs.Arrivals.{answering}
use Rattle.peer_lock.specs.Delivery.{Delivery, Gets}
use Rattle.peer_lock.specs.declared.unknown_calls.Answer.{Answer}
use Rattle.peer_lock.proofs.state.PeerState.answer_unknown.Goals as goal

-- the answer of a delivery
abbrev answer_in : Answer → Delivery → Answer
answer_in other (Gets answer) = answer
answer_in other _ = other

pub returns-clause-peer : goal.returns-clause-peer
returns-clause-peer g c = λ answer is.
    let same : c.in_ok-answer.answer ≡ answer = ap (answer_in answer) (sym c.in_ok-answer.ensures.answer ∙ is) in
    c.answer_alone.ensures.peer ∙ ap (λ (a : Answer). (answering c.args.self.now a).peer) same

pub returns-clause-step : goal.returns-clause-step
returns-clause-step g c = λ answer is.
    let same : c.in_ok-answer.answer ≡ answer = ap (answer_in answer) (sym c.in_ok-answer.ensures.answer ∙ is) in
    c.answer_alone.ensures.step ∙ ap (λ (a : Answer). (answering c.args.self.now a).step) same
