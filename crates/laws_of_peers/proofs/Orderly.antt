-- What steps carry on, one step after another.
use Rattle.std.specs.Prelude.{map}
use Rattle.std.specs.List.{AllByRecursion}
use Rattle.std.proofs.Common.{ℕ, ◌≡◌, ◌==◌, zero, suc, ◌+◌, Bool, cond, List, [], ◌∷◌, ◌++◌}
use Rattle.std.proofs.Common.{slice_index}
use Rattle.std.proofs.Common.{take, drop, ap, sym, subst, refl, ◌∙◌, arith}
use Rattle.std.proofs.lemmas.List.{append_assoc, append-nil, map-append}
use Rattle.outbox.specs.Outbox.{put, lose, with_lost}
use Rattle.outbox.specs.declared.losses.Losses.{Losses}
use Rattle.laws_of_peers.specs.CarriedOn.{CarriedOn, Full, IsOutgoing}
use Rattle.laws_of_peers.specs.CarriedOn.{Piece, pieces_of, queued_of, sent_of}
use Rattle.laws_of_peers.specs.CarriedOn.{KeepsOrder, Outgoing, Trunk, Voice, Mini, Without, entries_in, followed_by, nothing}
use Rattle.laws_of_peers.specs.CarriedOn.{octets_of, ordered_in}
use Rattle.peer_lock.specs.Peer.{PeerView}
use Rattle.trunk_packer.specs.Queue.{QueueEntry}

abbrev Octets : Type 0
Octets = List (List ℕ)

-- ---- lists without some elements

without_then : (all some others : Octets) (more : Octets) (last : Octets) → Without all some others → Without others more last
    → Without all (some ++ more) last
without_then all [] others more last first second = subst (λ (l : Octets). Without l more last) first second
without_then all (one ∷ some) others more last first second =
    (first.0, first.1, first.2, without_then (first.0 ++ first.1) some others more last first.3 second)

-- the same with more ahead and behind
without_behind : (all some others more : Octets) → Without all some others → Without (all ++ more) some (others ++ more)
without_behind all [] others more is = ap (λ (l : Octets). l ++ more) is
without_behind all (one ∷ some) others more is = (
  is.0,
  is.1 ++ more,
  ap (λ (l : Octets). l ++ more) is.2 ∙ append_assoc is.0 (one ∷ is.1) more,
  subst (λ (l : Octets). Without l some (others ++ more)) (append_assoc is.0 is.1 more)
      (without_behind (is.0 ++ is.1) some others more is.3),
)

without_ahead : (more all some others : Octets) → Without all some others → Without (more ++ all) some (more ++ others)
without_ahead more all [] others is = ap (λ (l : Octets). more ++ l) is
without_ahead more all (one ∷ some) others is = (
  more ++ is.0,
  is.1,
  ap (λ (l : Octets). more ++ l) is.2 ∙ sym (append_assoc more is.0 (one ∷ is.1)),
  subst (λ (l : Octets). Without l some (more ++ others)) (sym (append_assoc more is.0 is.1))
      (without_ahead more (is.0 ++ is.1) some others is.3),
)

-- all of an end
without_end : (all end : Octets) → Without (all ++ end) end all
without_end all [] = sym (append-nil all)
without_end all (one ∷ end) = (all, end, refl, without_end all end)

split_at : (n : ℕ) (all : Octets) → take n all ++ drop n all ≡ all
split_at zero all = refl
split_at (suc n) [] = refl
split_at (suc n) (x ∷ all) = ap (λ (l : Octets). x ∷ l) (split_at n all)

pub without_cut : (n : ℕ) (all : Octets) → Without all (drop n all) (take n all)
without_cut n all = subst (λ (l : Octets). Without l (drop n all) (take n all)) (split_at n all)
    (without_end (take n all) (drop n all))

lose_both : (lost : Losses) (a b : Octets) → lose (lose lost a) b ≡ lose lost (a ++ b)
lose_both lost [] b = refl
lose_both lost (d ∷ a) b = lose_both (with_lost lost (slice_index d 0) (slice_index d 1)) a b

-- ---- what is carried on, of both

entries_both : (one other : List Outgoing) → entries_in (one ++ other) ≡ entries_in one ++ entries_in other
entries_both [] other = refl
entries_both (Trunk moment entries ∷ one) other =
    ap (λ (l : List QueueEntry). entries ++ l) (entries_both one other)
    ∙ sym (append_assoc entries (entries_in one) (entries_in other))
entries_both (Full frame ∷ one) other = entries_both one other
entries_both (Voice frame ∷ one) other = entries_both one other
entries_both (Mini entry ∷ one) other = entries_both one other

pub ordered_both : (one other : List Outgoing) → ordered_in (one ++ other) ≡ ordered_in one ++ ordered_in other
ordered_both [] other = refl
ordered_both (Trunk moment entries ∷ one) other = ordered_both one other
ordered_both (Full frame ∷ one) other = ordered_both one other
ordered_both (Voice frame ∷ one) other = ap (λ (l : List Outgoing). Voice frame ∷ l) (ordered_both one other)
ordered_both (Mini entry ∷ one) other = ap (λ (l : List Outgoing). Mini entry ∷ l) (ordered_both one other)

-- of the media of one leg

pieces_both : (number : ℕ) (one other : List Piece) → pieces_of number (one ++ other) ≡ pieces_of number one ++ pieces_of number
    other
pieces_both number [] other = refl
pieces_both number (piece ∷ one) other =
    let here : Octets = cond (piece.number == number) (piece.media ∷ []) [] in
    ap (λ (l : Octets). here ++ l) (pieces_both number one other)
    ∙ sym (append_assoc here (pieces_of number one) (pieces_of number other))

pub queued_both : (number : ℕ) (one other : List QueueEntry)
    → queued_of number (one ++ other) ≡ queued_of number one ++ queued_of number other
queued_both number [] other = refl
queued_both number (entry ∷ one) other =
    let here : Octets = cond (entry.number == number) (entry.media ∷ []) [] in
    ap (λ (l : Octets). here ++ l) (queued_both number one other)
    ∙ sym (append_assoc here (queued_of number one) (queued_of number other))

sent_both : (number : ℕ) (one other : List Outgoing) → sent_of number (one ++ other) ≡ sent_of number one ++ sent_of number other
sent_both number [] other = refl
sent_both number (Full frame ∷ one) other = sent_both number one other
sent_both number (Voice frame ∷ one) other =
    let here : Octets = cond (frame.head.source == number) (frame.payload ∷ []) [] in
    ap (λ (l : Octets). here ++ l) (sent_both number one other)
    ∙ sym (append_assoc here (sent_of number one) (sent_of number other))
sent_both number (Mini entry ∷ one) other =
    let here : Octets = cond (entry.number == number) (entry.media ∷ []) [] in
    ap (λ (l : Octets). here ++ l) (sent_both number one other)
    ∙ sym (append_assoc here (sent_of number one) (sent_of number other))
sent_both number (Trunk moment entries ∷ one) other =
    ap (λ (l : Octets). queued_of number entries ++ l) (sent_both number one other)
    ∙ sym (append_assoc (queued_of number entries) (sent_of number one) (sent_of number other))

-- datagrams without media of orders have that of the queue
pub sent_entries : (number : ℕ) (put : List Outgoing) → ordered_in put ≡ []
    → sent_of number put ≡ queued_of number (entries_in put)
sent_entries number [] none = refl
sent_entries number (Full frame ∷ put) none = sent_entries number put none
sent_entries number (Voice frame ∷ put) none = cc
sent_entries number (Mini entry ∷ put) none = cc
sent_entries number (Trunk moment entries ∷ put) none =
    ap (λ (l : Octets). queued_of number entries ++ l) (sent_entries number put none)
    ∙ sym (queued_both number entries (entries_in put))

outgoing_both : (one other : List Outgoing) → AllByRecursion IsOutgoing one → AllByRecursion IsOutgoing other
    → AllByRecursion IsOutgoing (one ++ other)
outgoing_both [] other first second = second
outgoing_both (out ∷ one) other first second = (first.0, outgoing_both one other first.1 second)

pub keeps_none : (peer : PeerView) → KeepsOrder nothing peer peer
keeps_none peer = record {
  rules = refl;
  queue = append-nil peer.queue;
  outbox = sym (append-nil peer.outbox.waiting);
  lost = refl;
  dropped = omega arith;
  outgoing = tt;
  in_turn = λ goes number. append-nil (queued_of number peer.queue);
  ahead = λ goes. goes;
}

turn_both : (a b c first second sent more : Octets) → a ++ first ≡ sent ++ b → b ++ second ≡ more ++ c
    → a ++ (first ++ second) ≡ (sent ++ more) ++ c
turn_both a b c first second sent more one other =
    sym (append_assoc a first second) ∙ ap (λ (l : Octets). l ++ second) one ∙ append_assoc sent b second
    ∙ ap (λ (l : Octets). sent ++ l) other ∙ sym (append_assoc sent more c)

queue_both : (a b c first second sent more : List QueueEntry) → a ++ first ≡ sent ++ b → b ++ second ≡ more ++ c
    → a ++ (first ++ second) ≡ (sent ++ more) ++ c
queue_both a b c first second sent more one other =
    sym (append_assoc a first second) ∙ ap (λ (l : List QueueEntry). l ++ second) one ∙ append_assoc sent b second
    ∙ ap (λ (l : List QueueEntry). sent ++ l) other ∙ sym (append_assoc sent more c)

outbox_both : (a b c first second lost more taken then : Octets) → Without (a ++ first) lost (taken ++ b)
    → Without (b ++ second) more (then ++ c) → Without (a ++ (first ++ second)) (lost ++ more) ((taken ++ then) ++ c)
outbox_both a b c first second lost more taken then one other =
    let start = without_behind (a ++ first) lost (taken ++ b) second one in
    let next = without_ahead taken (b ++ second) more (then ++ c) other in
    subst (λ (l : Octets). Without l (lost ++ more) ((taken ++ then) ++ c)) (append_assoc a first second)
    (subst (λ (l : Octets). Without ((a ++ first) ++ second) (lost ++ more) l) (sym (append_assoc taken then c))
    (without_then ((a ++ first) ++ second) lost (taken ++ (b ++ second)) more (taken ++ (then ++ c))
    (subst (λ (l : Octets). Without ((a ++ first) ++ second) lost l) (append_assoc taken b second) start) next))

pub keeps_then : (one other : CarriedOn) (old mid new : PeerView) → KeepsOrder one old mid → KeepsOrder other mid new
    → KeepsOrder (followed_by one other) old new
keeps_then one other old mid new first second =
    let octets = octets_of old.rules.trunk_timestamps in
    let spelled : map (octets_of mid.rules.trunk_timestamps) other.put ≡ map octets other.put =
    ap (λ (timed : Bool). map (octets_of timed) other.put) (ap (λ rules. rules.trunk_timestamps) first.rules) in
    record {
      rules = second.rules ∙ first.rules;
      queue = queue_both old.queue mid.queue new.queue one.queued other.queued (entries_in one.put)
          (entries_in other.put) first.queue
          second.queue ∙ ap (λ (l : List QueueEntry). l ++ new.queue) (sym (entries_both one.put other.put));
      outbox = subst (λ (l : Octets). Without (old.outbox.waiting ++ l) (one.lost ++ other.lost)
          ((one.taken ++ other.taken) ++ new.outbox.waiting)) (sym (map-append octets one.put other.put))
          (outbox_both old.outbox.waiting mid.outbox.waiting new.outbox.waiting (map octets one.put)
          (map octets other.put) one.lost
          other.lost one.taken other.taken first.outbox
          (subst (λ (l : Octets). Without (mid.outbox.waiting ++ l) other.lost (other.taken ++ new.outbox.waiting)) spelled
          second.outbox));
      lost = second.lost ∙ ap (λ (l : Losses). lose l other.lost) first.lost ∙ lose_both old.outbox.lost one.lost other.lost;
      dropped = omega (arith, first.dropped, second.dropped);
      outgoing = outgoing_both one.put other.put first.outgoing second.outgoing;
      in_turn = λ goes number.
          ap (λ (l : Octets). queued_of number old.queue ++ l) (pieces_both number one.kept other.kept)
          ∙ turn_both (queued_of number old.queue) (queued_of number mid.queue) (queued_of number new.queue)
          (pieces_of number one.kept) (pieces_of number other.kept) (sent_of number one.put) (sent_of number other.put)
          (first.in_turn goes number) (second.in_turn (first.ahead goes) number)
          ∙ ap (λ (l : Octets). l ++ queued_of number new.queue) (sym (sent_both number one.put other.put));
      ahead = λ goes. second.ahead (first.ahead goes);
    }
