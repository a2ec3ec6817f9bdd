use Rattle.std.proofs.Common.{◌≡◌, drop}
use Rattle.serde_json.specs.View.{members_view}
use Rattle.control_requests.specs.Members.{with_shown}
use Rattle.control_requests.proofs.json_text.put_members.Given as goal

abbrev pub invariant-loop-name : goal.invariant-loop-name
invariant-loop-name l =
    with_shown (drop l.name-index l.members) (members_view l.map.entries) ≡ with_shown l.members
    (members_view l.initial.map.entries)
