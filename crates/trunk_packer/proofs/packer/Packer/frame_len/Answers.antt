use Rattle.std.proofs.Common.{ℕ, ◌+◌, ◌*◌, ◌≤◌, arith}
use Rattle.std.proofs.lemmas.Nat.{mul-le}
use Rattle.trunk_packer.proofs.WholeLaws.{counted_octets}
use Rattle.trunk_packer.proofs.packer.Packer.frame_len.Goals as goal

pub returns-clause-len : goal.returns-clause-len
returns-clause-len c =
    counted_octets _ _ _ _ _ _ c.entry_head_len.ensures.len c.self.invariant.1.entries_counted c.self.invariant.1.media_counted
    c.self.view_is

few : (head entries media : ℕ) → head ≤ 6 → entries ≤ 256 → media ≤ 16384 → 8 + entries * head + media ≤ 17928
few head entries media short some little =
    let most : entries * head ≤ 256 * 6 = mul-le entries head 256 6 some short in omega arith

pub returns-clause-few : goal.returns-clause-few
returns-clause-few c = few _ _ _ c.entry_head_len.ensures.few c.self.invariant.1.few_entries c.self.invariant.1.little_media
