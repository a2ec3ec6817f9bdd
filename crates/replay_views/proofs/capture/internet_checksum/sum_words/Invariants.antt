use Rattle.std.proofs.Common.{◌≡◌, ◌+◌, ◌*◌, ◌≤◌, length, ℕ}
use Rattle.replay_views.specs.InternetChecksum.{word_sum}
use Rattle.replay_views.proofs.capture.internet_checksum.sum_words.Given as goal

abbrev pub invariant-loop-rest : goal.invariant-loop-rest
invariant-loop-rest l = record {
  summed : l.sum + word_sum l.rest ≡ word_sum l.octets;
  small : l.sum + 65535 * length l.rest ≤ 65535 * length l.octets;
}

abbrev pub decreases-loop-rest : goal.decreases-loop-rest
decreases-loop-rest l = length l.rest
