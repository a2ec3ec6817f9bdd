-- Laws of the counts of wires, one peer after another.
use Rattle.std.proofs.Common.{◌≡◌, ◌≢◌, ℕ, ◌+◌, ◌-◌, ◌<◌, ◌≤◌, inl, inr, List, length, get_or, Some, sym, subst, ◌∙◌, arith}
use Rattle.std.proofs.lemmas.Option.{get_or_from_slice_get}
use Rattle.std.specs.List.{AllWithin}
use Rattle.std.specs.Prelude.{AllPairs, slice_get}
use Rattle.peer_plan.specs.declared.endpoint.Endpoint.{Endpoint}
use Rattle.udp_wires.specs.Counts.{RiseAlike, RisesBy, RisesByAtMost}
use Rattle.udp_wires.specs.Parcels.{Parcel}
use Rattle.udp_wires.proofs.EndpointLaws.{either_endpoint}
use Rattle.udp_workers.specs.Events.{CountsSends}
use Rattle.udp_workers.specs.declared.report.TurnReport.{TurnReport}

-- ---- one peer after another

-- The counts at first, and before and after the datagrams for the peer at a place. Those for the peers from there on were as
-- they were at first.
module _ (first before after : Endpoint → ℕ) (ends : List Endpoint) (place n : ℕ) (to : Endpoint)
    (at : slice_get ends place ≡ Some to) (others : (other : Endpoint) → other ≢ to → after other ≡ before other)
    (ahead : AllWithin (λ end. before end ≡ first end) ends place (length ends)) (within : place < length ends) where
  pub each_next : n ≤ 256 → RisesBy (before to) (after to) n → ((end : Endpoint) → RisesByAtMost 256 (first end) (before end))
      → (end : Endpoint) → RisesByAtMost 256 (first end) (after end)
  each_next few rises so_far end =
      elim (either_endpoint end to) [
        | inl same ↦
            let here : get_or ends place to ≡ to = get_or_from_slice_get ends place to to at in
            let unchanged : before to ≡ first to = subst (λ e. before e ≡ first e) here (ahead place to (omega arith) within) in
            subst (λ e. RisesByAtMost 256 (first e) (after e)) (sym same) (
              n,
              few,
              subst (λ count. RisesBy count (after to) n)
                  unchanged rises,
            )
        | inr differ ↦ subst (RisesByAtMost 256 (first end)) (sym (others end differ)) (so_far end)
      ]

  pub ahead_next : AllPairs (λ one other. one ≢ other) ends → AllWithin (λ end. after end ≡ first end) ends (place + 1)
      (length ends)
  ahead_next apart k d low high =
      let here : get_or ends place d ≡ to = get_or_from_slice_get ends place to d at in
      others (get_or ends k d) (λ same. apart place k d (omega arith) high (here ∙ sym same)) ∙ ahead k d (omega arith) high

-- ---- two counts that went up by as much

pub by_as_much : (before after old new : ℕ) → RiseAlike before after old new → old ≤ new → RisesBy before after (new - old)
by_as_much before after old new alike more = omega (arith, alike, more)

-- ---- what a wire sent

pub counts_on : (old mid new : TurnReport) (went then_went now_went sent then_sent now_sent : List Parcel)
    → CountsSends old mid went then_went sent then_sent → CountsSends mid new then_went now_went then_sent now_sent
    → CountsSends old new went now_went sent now_sent
counts_on old mid new went then_went now_went sent then_sent now_sent before after =
    record { sent = omega (arith, before.sent, after.sent); given = omega (arith, before.given, after.given) }
