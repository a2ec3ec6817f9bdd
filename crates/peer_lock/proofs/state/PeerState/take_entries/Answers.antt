use Rattle.std.proofs.Common.{◌≡◌, ◌≤◌, ◌-◌, ◌+◌, [], None, ap, false, length, map, rules, subst, sym, true, ◌∙◌}
use Rattle.iax_frames.specs.TrunkFrame.{entry_item, is_timed}
use Rattle.call_signals.specs.declared.signal.MediaSpan.{MediaSpan}
use Rattle.peer_legs.specs.Legs.{AreLegs, has_remote, leg_at, leg_of_remote}
use Rattle.peer_lock.specs.Arrivals.{trunk_media, entry_span}
use Rattle.peer_lock.specs.Peer.{PeerView}
use Rattle.peer_lock.specs.TrunkEntries.{CountsEntry, drops_entries}
use Rattle.peer_lock.proofs.Entries.{MayTake, beyond_share, none_counted, of_none, takes_share}
use Rattle.peer_lock.proofs.state.PeerState.take_entries.Goals as goal
use Rattle.peer_lock.proofs.state.PeerState.take_entries.Goals.{else-is_limited-via-then-is_limited+else-not-counts_entry}
use Rattle.peer_lock.proofs.state.PeerState.take_entries.Goals.{else-is_limited-via-else-is_limited}

pub loop-entry-init : goal.loop-entry-init
loop-entry-init g c =
    let counted = none_counted c.args.self.now.legs.first c.no_counts-counts.result c.no_counts-counts.ensures in (
      tt,
      tt,
      record {
        done = 0;
        taken = [];
        here = search rules;
        signals = search rules;
        octets = search rules;
        credit = search rules;
        offer = search rules;
        room = search rules;
        short = search rules;
        len = search rules;
        counted = λ _. counted;
        dropping = search rules;
      },
    )

pub loop-entry-preserved : goal.loop-entry-preserved
loop-entry-preserved g c =
    let span : MediaSpan =
    record {
      start = c.loop-entry.at + c.entry_head_len-head.result;
      end = c.loop-entry.at + c.entry_head_len-head.result
          + length c.in-Some.entry.2.now;
    } in
    let here : entry_span (is_timed c.args.trunk.now.command_data) c.loop-entry.at (
      c.in-Some.entry.0,
      c.in-Some.entry.1,
      c.in-Some.entry.2.now,
    ) ≡ span = search rules in
    let none : leg_of_remote c.loop-entry.self.legs c.in-Some.entry.0 ≡ None = search rules in (
      tt,
      tt,
      of_none _ _ _ _ _ _ _ span _ _ _ _ _ _ _ _ c.loop-entry.invariant.2 (record {
        these = c.in-Some.ensures.steps;
        here =
            here;
      })
          none,
    )

pub loop-entry-preserved-then-not-counts_entry : goal.loop-entry-preserved-then-not-counts_entry
loop-entry-preserved-then-not-counts_entry g c =
    let span : MediaSpan =
    record {
      start = c.loop-entry.at + c.entry_head_len-head.result;
      end = c.loop-entry.at + c.entry_head_len-head.result
          + length c.in-Some.entry.2.now;
    } in
    let here : entry_span (is_timed c.args.trunk.now.command_data) c.loop-entry.at (
      c.in-Some.entry.0,
      c.in-Some.entry.1,
      c.in-Some.entry.2.now,
    ) ≡ span = search rules in
    let number = c.in-Some-of_remote.number in
    let is = c.self-in-Some.view_is in
    let found = subst (λ (v : PeerView). leg_at v.legs number ≡ leg_of_remote v.legs c.in-Some.entry.0) is
    c.in-Some-of_remote.ensures.found in
    let there = subst (λ (v : PeerView). has_remote (leg_at v.legs number) c.in-Some.entry.0 ≡ true) is
    c.in-Some-of_remote.ensures.remote in
    let are = subst (λ (v : PeerView). AreLegs v.legs) is c.in-Some-of_remote.ensures.sound in
    let from = subst (λ (v : PeerView). v.legs.first ≤ number) is c.place_of.ensures.from in
    let place = subst (λ (v : PeerView). c.place_of.result ≡ number - v.legs.first) is c.place_of.ensures.place in
    let limited = subst (λ (v : PeerView). v.rules.is_hardened ≡ true) c.self.view_is c.if-is_limited.true in (
      tt,
      tt,
      beyond_share _ _ _ _ _ _ _ span _ _ _ _ _ _ _ _ _ number _ _ c.loop-entry.invariant.2
          (record { these = c.in-Some.ensures.steps; here = here }) are found there limited c.counts_entry.ensures.counted
          c.if-not-counts_entry.true c.counts_entry.ensures.len from place,
    )

pub loop-entry-preserved-else-is_limited : goal.loop-entry-preserved-else-is_limited
loop-entry-preserved-else-is_limited g c =
    let span : MediaSpan =
    record {
      start = c.loop-entry.at + c.entry_head_len-head.result;
      end = c.loop-entry.at + c.entry_head_len-head.result
          + length c.in-Some.entry.2.now;
    } in
    let here : entry_span (is_timed c.args.trunk.now.command_data) c.loop-entry.at (
      c.in-Some.entry.0,
      c.in-Some.entry.1,
      c.in-Some.entry.2.now,
    ) ≡ span = search rules in
    let number = c.in-Some-of_remote.number in
    let is = c.self-in-Some.view_is in
    let found = subst (λ (v : PeerView). leg_at v.legs number ≡ leg_of_remote v.legs c.in-Some.entry.0) is
    c.in-Some-of_remote.ensures.found in
    let there = subst (λ (v : PeerView). has_remote (leg_at v.legs number) c.in-Some.entry.0 ≡ true) is
    c.in-Some-of_remote.ensures.remote in
    let are = subst (λ (v : PeerView). AreLegs v.legs) is c.in-Some-of_remote.ensures.sound in
    let may : MayTake g.J.LedgerSet.first_octets c.args.self.now c.args.pass.now (trunk_media g.J.LedgerSet.first_octets
    c.args.self.now c.args.trunk.now) (drops_entries c.args.self.now.legs c.args.self.now.rules.is_hardened []
    (map entry_item c.args.trunk.now.entries)) (is_timed c.args.trunk.now.command_data) c.loop-entry.self.legs
    c.loop-entry.counts c.else-is_limited.counts number =
    elim c.else-is_limited.branch [
      | else-is_limited-via-then-is_limited+else-not-counts_entry w ↦ record {
        counted = λ _. record {
          place = w.place_of.result;
          is_counted = w.counts_entry.result;
          taken = w.if-not-counts_entry.false;
          counted = subst (CountsEntry w.place_of.result w.counts_entry.result c.loop-entry.counts) (sym w.counts-is)
              w.counts_entry.ensures.counted;
          from = subst (λ (v : PeerView). v.legs.first ≤ number) is w.place_of.ensures.from;
          place_is = subst (λ (v : PeerView). w.place_of.result ≡ number - v.legs.first) is w.place_of.ensures.place;
        };
        len = ap length w.counts-is ∙ w.counts_entry.ensures.len;
      }
      | else-is_limited-via-else-is_limited w ↦ record {
        counted = λ e.
            let never : true ≡ false =
            sym e ∙ subst (λ (v : PeerView). v.rules.is_hardened ≡ false) c.self.view_is w.if-is_limited.false in cc;
        len = ap length w.counts-is ∙ c.loop-entry.invariant.2.len;
      }
    ] in (
      tt,
      tt,
      takes_share _ _ _ _ _ _ _ span _ _ _ _ _ _ _ _ _ _ _ _ number c.loop-entry.invariant.2
          (record { these = c.in-Some.ensures.steps; here = here }) are found there may c.take_media.ensures.peer
          c.take_media.ensures.signals c.take_media.ensures.offer c.take_media.ensures.room c.take_media.ensures.credit,
    )
