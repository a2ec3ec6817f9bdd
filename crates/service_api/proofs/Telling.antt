-- Rows, one after another.
use Rattle.std.proofs.Common.{◌≡◌, ◌<◌, ◌⊎◌, ℕ, ◌+◌, List, refl, sym, ap, subst, add-one, inl, inr}
use Rattle.peer_plan.specs.declared.number_range.NumberRange.{NumberRange}
use Rattle.peer_plan.specs.Plan.{PlanView, counts_of, range_of}
use Rattle.service_api.specs.Calls.{FindsNone, TellsCalls, Walk, Walks}
use Rattle.service_api.specs.Peers.{TellsPeer, TellsPeers}
use Rattle.step_log.specs.Notes.{Noted}

-- as many legs as the peer has numbers
pub tells_through : (plan : PlanView) (peer now : ℕ) (range : NumberRange) (old : Noted) (rows : List ℕ) (last : Walk)
    → range ≡ range_of (counts_of plan.peers) peer
    → Walks plan peer now range.count (record { pass = old; rows = rows; next = range.first }) last
    → TellsCalls plan peer now old last.pass rows last.rows
tells_through plan peer now range old rows last is walks = record {
  legs = range.count;
  last = last;
  walks = subst (λ (n : ℕ). Walks plan peer now range.count (record { pass = old; rows = rows; next = n }) last)
      (ap (λ (r : NumberRange). r.first) is) walks;
  ends = inl (ap (λ (r : NumberRange). r.count) is, refl, refl);
}

-- fewer, and then none was found
pub tells_to_end : (plan : PlanView) (peer now : ℕ) (range : NumberRange) (legs : ℕ) (old new : Noted) (rows more : List ℕ)
    (last : Walk) → range ≡ range_of (counts_of plan.peers) peer → legs < range.count
    → Walks plan peer now legs (record { pass = old; rows = rows; next = range.first }) last → FindsNone peer last new more
    → TellsCalls plan peer now old new rows more
tells_to_end plan peer now range legs old new rows more last is fewer walks none = record {
  legs = legs;
  last = last;
  walks = subst (λ (n : ℕ). Walks plan peer now legs (record { pass = old; rows = rows; next = n }) last)
      (ap (λ (r : NumberRange). r.first) is) walks;
  ends = inr (subst (λ (n : ℕ). legs < n) (ap (λ (r : NumberRange). r.count) is) fewer, none);
}

-- the row of one peer more
pub peers_more : (plan : PlanView) (place peer : ℕ) (old mid new : Noted) (rows so_far more : List ℕ)
    → TellsPeers plan place old mid rows so_far → peer ≡ place → TellsPeer plan peer mid new so_far more
    → TellsPeers plan (place + 1) old new rows more
peers_more plan place peer old mid new rows so_far more before same tells =
    subst (λ (n : ℕ). TellsPeers plan n old new rows more) (sym (add-one place))
    (mid, so_far, before, subst (λ (n : ℕ). TellsPeer plan n mid new so_far more) same tells)
