use Rattle.laws_of_peers.proofs.Following.{AreFollowed, reached, each_way, taken_as, acked_as, legal_as, bytes_as}
use Rattle.seq_window.specs.Network.{TakesInOrder, AcksTaken, HasLegalRecord, BytesSayNumbers}
use Rattle.laws_of_peers.proofs.opposite_legs.opposite_legs_stay_in_step.Goals as goal

followed : goal.After-network_is_safe → AreFollowed
followed c =
    let law = c.steps_are_actions.ensures in
    reached law.sendings law.frames law.orders law.ticks law.calls_in law.calls_out

pub returns-clause-prefix : goal.returns-clause-prefix
returns-clause-prefix c = each_way TakesInOrder taken_as c.network_is_safe.ensures.prefix (followed c)

pub returns-clause-acked : goal.returns-clause-acked
returns-clause-acked c = each_way AcksTaken acked_as c.network_is_safe.ensures.acked (followed c)

pub returns-clause-legal : goal.returns-clause-legal
returns-clause-legal c = each_way HasLegalRecord legal_as c.network_is_safe.ensures.legal (followed c)

pub returns-clause-bytes : goal.returns-clause-bytes
returns-clause-bytes c = each_way BytesSayNumbers bytes_as c.network_is_safe.ensures.bytes (followed c)
