-- The effect of a received NEW, or of one that is sent, on a peer.
use Rattle.std.specs.Prelude.{map}
use Rattle.std.proofs.Common.{◌≡◌, ℕ, List, None, ap, arith, ◌∙◌}
use Rattle.std.proofs.lemmas.Grind.{common_steps}
use Rattle.call_book.specs.declared.leg_name.LegName.{LegName}
use Rattle.iax_frames.specs.FullFrame.{FullFrame, spelling}
use Rattle.leg_machine.specs.Leg.{LegState}
use Rattle.leg_machine.specs.Openings.{open_in_step, open_out_step}
use Rattle.call_signals.specs.declared.format.Format.{Format}
use Rattle.leg_machine.specs.Steps.{Step}
use Rattle.peer_legs.specs.Legs.{leg_of_remote}
use Rattle.peer_lock.specs.Openings.{open_in_refused, with_opened, with_seated}
use Rattle.outbox.specs.Outbox.{OutboxView, put}
use Rattle.peer_lock.specs.Peer.{PeerView}

-- the frames of a calling leg are put into the outbox
pub sent_new : (view old : PeerView) (name : LegName) (number : ℕ) (called : List ℕ) (caller : List ℕ) (format : Format) (now : ℕ)
    (outbox : OutboxView) (replies : List (List ℕ))
    → view ≡ old → number ≡ name.number → outbox ≡ put view.outbox replies
    → replies ≡ map spelling (open_out_step view.rules number called caller format now).replies
    → record view { outbox = outbox } ≡ record old
    { outbox = put old.outbox (map spelling (open_out_step old.rules name.number called caller format now).replies) }
sent_new view old name number called caller format now outbox replies view_is number_is outbox_is replies_are =
    ap (λ (sent : OutboxView). record view { outbox = sent }) (outbox_is ∙ ap (put view.outbox) replies_are)
    ∙ ap (λ (n : ℕ). record view
    { outbox = put view.outbox (map spelling (open_out_step view.rules n called caller format now).replies) }) number_is
    ∙ ap (λ (v : PeerView). record v
    { outbox = put v.outbox (map spelling (open_out_step v.rules name.number called caller format now).replies) }) view_is

-- if no refusal of a NEW is due, no leg has its source
pub new_source : (old : PeerView) (credit : ℕ) (name : LegName) (source : ℕ) → open_in_refused old credit name source ≡ None
    → leg_of_remote old.legs source ≡ None
new_source old credit name source is = grind (arith, common_steps)

-- a received NEW was accepted: the step is that of the peer before, under the lease
pub taken_in : (view old : PeerView) (lease name : LegName) (number : ℕ) (frame : FullFrame) (now : ℕ) (challenge : List ℕ)
    → view ≡ old → number ≡ name.number → name ≡ lease
    → open_in_step view.rules number frame now challenge ≡ open_in_step old.rules lease.number frame now challenge
taken_in view old lease name number frame now challenge view_is number_is name_is =
    λ i. open_in_step (view_is i).rules ((number_is ∙ ap (λ (n : LegName). n.number) name_is) i) frame now challenge

-- its leg takes its place, and its frames are put into the outbox
pub opened_in : (view old new : PeerView) (lease : LegName) (step opens : Step) (outbox : OutboxView) (replies : List (List ℕ))
    (leg : LegState) → view ≡ old → step ≡ opens
    → new ≡ with_seated (record view { outbox = outbox }) (record { name = lease; leg = leg })
    → outbox ≡ put view.outbox replies → replies ≡ map spelling step.replies → leg ≡ step.leg
    → new ≡ with_opened old (record { name = lease; leg = opens.leg }) (map spelling opens.replies)
opened_in view old new lease step opens outbox replies leg view_is step_is is outbox_is replies_are leg_is =
    is
    ∙ ap (λ (sent : OutboxView). with_seated (record view { outbox = sent }) (record { name = lease; leg = leg }))
    (outbox_is ∙ ap (put view.outbox) replies_are)
    ∙ ap (λ (l : LegState). with_opened view (record { name = lease; leg = l }) (map spelling step.replies)) leg_is
    ∙ (λ i. with_opened (view_is i) (record { name = lease; leg = (step_is i).leg }) (map spelling (step_is i).replies))

-- a leg that was opened under a name takes its place under the lease, which is of that name
pub seated : (old between new : PeerView) (name lease : LegName) (opens : LegName → LegState) (sends : LegName → List (List ℕ))
    (leg : LegState) → name ≡ lease
    → new ≡ with_seated between (record { name = lease; leg = leg })
    → between ≡ record old { outbox = put old.outbox (sends name) }
    → leg ≡ opens name → new ≡ with_opened old (record { name = lease; leg = opens lease }) (sends lease)
seated old between new name lease opens sends leg name_is is between_is leg_is =
    is
    ∙ ap (λ (v : PeerView). with_seated v (record { name = lease; leg = leg })) between_is
    ∙ ap (λ (l : LegState). with_opened old (record { name = lease; leg = l }) (sends name)) leg_is
    ∙ ap (λ (n : LegName). with_opened old (record { name = lease; leg = opens n }) (sends n)) name_is
