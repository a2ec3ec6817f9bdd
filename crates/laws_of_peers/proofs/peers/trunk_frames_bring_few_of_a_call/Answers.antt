use Rattle.std.proofs.Common.{◌∙◌, [], Bool, None, Some, ap, cond, map}
use Rattle.iax_frames.specs.TrunkFrame.{entry_item, is_timed}
use Rattle.peer_lock.specs.TrunkEntries.{drops_entries}
use Rattle.peer_lock.specs.declared.steps.Rejection.TheVariants.{ManyEntries}
use Rattle.laws_of_peers.proofs.FewEntries.{few_entries_by, none_dropped}
use Rattle.laws_of_peers.proofs.peers.trunk_frames_bring_few_of_a_call.Goals as goal

pub returns-clause-few : goal.returns-clause-few
returns-clause-few c =
    λ first peer trunk now number must.
    few_entries_by number first peer.legs peer.rules.is_hardened (is_timed trunk.command_data) 8 peer.accounts.accepted
    (map entry_item trunk.entries) must

pub returns-clause-others : goal.returns-clause-others
returns-clause-others c =
    λ peer trunk older.
    ap (λ (b : Bool). cond (drops_entries peer.legs b [] (map entry_item trunk.entries)) (Some ManyEntries) None) older
    ∙ ap (λ (b : Bool). cond b (Some ManyEntries) None) (none_dropped peer.legs [] (map entry_item trunk.entries))
