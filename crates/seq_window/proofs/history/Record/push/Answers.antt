use Rattle.std.proofs.Common.{◌≡◌, ◌+◌, ◌∙◌, ap, sym, arith, length, length-append, max}
use Rattle.std.proofs.lemmas.List.{length-map}
use Rattle.seq_window.specs.Record.{RecordState, octets_of}
use Rattle.seq_window.specs.RecordFields.{entry_at}
use Rattle.seq_window.proofs.Heads.{pushed, pushed_len, pushed_within}
use Rattle.seq_window.proofs.history.Record.push.Goals as goal

pub returns-clause-ok : goal.returns-clause-ok
returns-clause-ok c =
    pushed c.args.self.now c.reserve.new.self c.self.inside.octets.items _ c.push_head-head.new.octets.items
    c.self.inside.heads.items c.push_reserved.new.self.items _ _ c.self.inside.spare
    c.self.view_is c.in_ok-reserve.ensures.entries c.in_ok-reserve.ensures.spare c.self.invariant.within
    c.push_head-head.ensures.octets c.push_reserved.ensures.items c.push_head-head.ensures.entry

pub invariant_of-self : goal.invariant_of-self
invariant_of-self c =
    let octets = c.self.inside.octets.items in
    let heads = c.self.inside.heads.items in
    let grown : length c.push_head-head.new.octets.items ≡ length octets + length (octets_of c.args.added) =
    ap length c.push_head-head.ensures.octets ∙ length-append octets _ in
    let more : length c.push_reserved.new.self.items ≡ length heads + 1 = ap length c.push_reserved.ensures.items ∙ length-append
    heads _ in
    let spare : c.self.inside.spare ≡ max c.args.self.now.spare 1 = ap (λ (r : RecordState). r.spare) c.self.view_is
    ∙ c.in_ok-reserve.ensures.spare in
    let count : length heads ≡ length c.args.self.now.entries =
    sym (length-map heads (entry_at octets)) ∙ ap (λ (r : RecordState). length r.entries) c.self.view_is ∙ ap length
    c.in_ok-reserve.ensures.entries in
    record {
      within = pushed_within (length octets) _ heads _ _ (omega (arith, grown)) c.self.invariant.within
          c.push_head-head.ensures.within c.push_reserved.ensures.items;
      whole = pushed_len _ _ _ _ _ _ c.self.invariant.whole c.push_head-head.ensures.octets c.push_reserved.ensures.items
          c.push_head-head.ensures.len;
      short = omega (arith, grown, more, c.self.invariant.short, c.requires.short);
      few = omega (arith, more, count, c.requires.few);
      head_room = omega (arith, more, spare, c.self.invariant.head_room, c.push_reserved.ensures.capacity);
      octet_room = omega (arith, grown, spare, c.self.invariant.octet_room, c.push_head-head.ensures.capacity, c.requires.short);
    }
