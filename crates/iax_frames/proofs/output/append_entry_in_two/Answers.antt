use Rattle.std.proofs.Common.{◌≡◌, ◌++◌, ◌∙◌, length, get_or, eqb, ◌%◌, ◌<◌, arith, length-append}
use Rattle.iax_frames.specs.declared.datagram.Datagram.TheVariants.{Trunk}
use Rattle.iax_frames.specs.TrunkFrame.{TrunkFrame, SpellsTrunk, with_entry, entry, entry_of, is_timed}
use Rattle.iax_frames.proofs.WritingLaws.{SpellsTrunk-appended}
use Rattle.iax_frames.proofs.output.append_entry_in_two.Goals as goal
use Rattle.iax_frames.proofs.output.append_entry_in_two.Goals.{After-extend_entry}

octets : (c : After-extend_entry) → c.extend_entry.new.octets.items ≡ c.args.out.now
    ++ entry (entry_of (is_timed (get_or c.args.out.now 3 0)) c.args.number c.args.timestamp
    (c.args.front.now ++ c.args.back.now))
octets c =
    let was = c.as_slice.ensures.value ∙ c.out.view_is in
    c.extend_entry.ensures.items
    ∙ λ i. c.out.view_is i ++ entry (entry_of (eqb (get_or (was i) 3 0 % 2) 1) c.args.number c.args.timestamp
    (c.args.front.now ++ c.args.back.now))

spelled : (c : After-extend_entry) (t : TrunkFrame) → SpellsTrunk c.args.out.now t → SpellsTrunk c.extend_entry.new.octets.items
    (with_entry t (entry_of (is_timed t.command_data) c.args.number c.args.timestamp (c.args.front.now ++ c.args.back.now)))
spelled c t s =
    let room : length (c.args.front.now ++ c.args.back.now) < 65536 = omega (
      arith,
      c.remaining_capacity-room.ensures,
      length-append c.args.front.now c.args.back.now,
    ) in
    SpellsTrunk-appended c.args.out.now c.extend_entry.new.octets.items t c.args.number c.args.timestamp
    (c.args.front.now ++ c.args.back.now)
    c.extend_entry.ensures.number c.ranges.timestamp.fits room (octets c) s

pub invariant_of-out : goal.invariant_of-out
invariant_of-out c = (
  (
    Trunk (with_entry c.requires.trunk.0 (entry_of (is_timed c.requires.trunk.0.command_data) c.args.number
        c.args.timestamp (c.args.front.now ++ c.args.back.now))),
    spelled c c.requires.trunk.0 c.requires.trunk.1,
  ),
  c.extend_entry.ensures.fits,
)

pub returns-clause-spelled : goal.returns-clause-spelled
returns-clause-spelled c = spelled c
