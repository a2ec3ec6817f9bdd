-- What the steps of a trail carry on at a peer, one step after another.
use Rattle.std.proofs.Common.{◌≡◌, ℕ, ◌+◌, arith, List, [], ◌∷◌, ◌++◌}
use Rattle.std.proofs.Common.{refl, sym, ap, subst, ◌∙◌}
use Rattle.std.proofs.lemmas.List.{append-nil, append_assoc}
use Rattle.call_book.specs.declared.leg_name.LegName.{LegName}
use Rattle.call_signals.specs.Order.{kind_of, media_of, Order}
use Rattle.call_signals.specs.declared.order.Command.TheVariants as commands
use Rattle.laws_of_peers.specs.Trails.{AreWaysOf, OrderedMedia, dropped_by_all, media_by, put_by_all, queued_by_all}
use Rattle.laws_of_peers.specs.CarriedOn.{CarriedOn, CarriesByOrder, CarriesOn, CarriesOrder}
use Rattle.laws_of_peers.specs.CarriedOn.{KeepsOrder, Outgoing, QueueEntry, Way, followed_by}
use Rattle.laws_of_peers.specs.CarriedOn.{nothing, ordered_in, put_by, queued_by}
use Rattle.laws_of_peers.specs.CarriedOn as outs
use Rattle.laws_of_peers.specs.CarriedOn.{GoesAhead, Piece, kept_by, queued_of}
use Rattle.laws_of_peers.specs.Trails.{kept_by_all}
use Rattle.peer_lock.specs.Peer.{PeerView, TakesOut}

-- ---- ways one after another

-- media, taken datagrams and what was carried on, of some steps
pub record Goes (media : List OrderedMedia) (taken : List (List ℕ)) (first last : PeerView) : Type 0 where
  pub carried : CarriedOn
  pub order : KeepsOrder carried first last
  pub taken_are : carried.taken ≡ taken
  pub ways : List Way
  pub whole : AreWaysOf media ways
  pub kept : carried.kept ≡ kept_by_all media ways
  pub queued : carried.queued ≡ queued_by_all ways
  pub put : ordered_in carried.put ≡ put_by_all ways
  pub dropped : carried.dropped ≡ dropped_by_all media ways

ordered_both : (one other : List Outgoing) → ordered_in (one ++ other) ≡ ordered_in one ++ ordered_in other
ordered_both [] other = refl
ordered_both (outs.Trunk moment entries ∷ one) other = ordered_both one other
ordered_both (outs.Full frame ∷ one) other = ordered_both one other
ordered_both (outs.Voice frame ∷ one) other = ap (λ (l : List Outgoing). outs.Voice frame ∷ l) (ordered_both one other)
ordered_both (outs.Mini entry ∷ one) other = ap (λ (l : List Outgoing). outs.Mini entry ∷ l) (ordered_both one other)

queued_both : (one other : List Way) → queued_by_all (one ++ other) ≡ queued_by_all one ++ queued_by_all other
queued_both [] other = refl
queued_both (way ∷ one) other =
    ap (λ (l : List QueueEntry). queued_by way ++ l) (queued_both one other)
    ∙ sym (append_assoc (queued_by way) (queued_by_all one) (queued_by_all other))

put_both : (one other : List Way) → put_by_all (one ++ other) ≡ put_by_all one ++ put_by_all other
put_both [] other = refl
put_both (way ∷ one) other =
    ap (λ (l : List Outgoing). put_by way ++ l) (put_both one other)
    ∙ sym (append_assoc (put_by way) (put_by_all one) (put_by_all other))

ways_both : (media more : List OrderedMedia) (one other : List Way) → AreWaysOf media one → AreWaysOf more other
    → AreWaysOf (media ++ more) (one ++ other)
ways_both [] more one other first second =
    subst (λ (l : List Way). AreWaysOf more (l ++ other)) (sym first) second
ways_both (ordered ∷ media) more [] other first second = absurd first
ways_both (ordered ∷ media) more (way ∷ one) other first second = (first.0, ways_both media more one other first.1 second)

no_kept : (ways : List Way) → kept_by_all [] ways ≡ []
no_kept [] = refl
no_kept (way ∷ ways) = refl

kept_both : (media more : List OrderedMedia) (one other : List Way) → AreWaysOf media one
    → kept_by_all (media ++ more) (one ++ other) ≡ kept_by_all media one ++ kept_by_all more other
kept_both [] more one other first =
    ap (λ (l : List Way). kept_by_all more (l ++ other)) first
    ∙ ap (λ (l : List Piece). l ++ kept_by_all more other) (sym (no_kept one))
kept_both (ordered ∷ media) more [] other first = absurd first
kept_both (ordered ∷ media) more (way ∷ one) other first =
    let here : List Piece = kept_by way ordered.name.number ordered.media in
    ap (λ (l : List Piece). here ++ l) (kept_both media more one other first.1)
    ∙ sym (append_assoc here (kept_by_all media one) (kept_by_all more other))

dropped_both : (media more : List OrderedMedia) (one other : List Way) → AreWaysOf media one
    → dropped_by_all (media ++ more) (one ++ other) ≡ dropped_by_all media one + dropped_by_all more other
dropped_both [] more one other first =
    let none : dropped_by_all [] one ≡ 0 = none_dropped one in
    ap (λ (l : List Way). dropped_by_all more (l ++ other)) first ∙ omega (arith, none)
  where
    none_dropped : (ways : List Way) → dropped_by_all [] ways ≡ 0
    none_dropped [] = refl
    none_dropped (way ∷ ways) = refl
dropped_both (ordered ∷ media) more [] other first = absurd first
dropped_both (ordered ∷ media) more (way ∷ one) other first =
    let later = dropped_both media more one other first.1 in omega (arith, later)

module _ (together : (one other : CarriedOn) (old mid new : PeerView) → KeepsOrder one old mid → KeepsOrder other mid new
    → KeepsOrder (followed_by one other) old new) where
  pub goes_then : (media more : List OrderedMedia) (taken out : List (List ℕ)) (old mid new : PeerView) → Goes media taken old mid
      → Goes more out mid new → Goes (media ++ more) (taken ++ out) old new
  goes_then media more taken out old mid new first second = record {
    carried = followed_by first.carried second.carried;
    order = together first.carried second.carried old mid new first.order second.order;
    taken_are = λ i. first.taken_are i ++ second.taken_are i;
    ways = first.ways ++ second.ways;
    whole = ways_both media more first.ways second.ways first.whole second.whole;
    kept = (λ i. first.kept i ++ second.kept i) ∙ sym (kept_both media more first.ways second.ways first.whole);
    queued = (λ i. first.queued i ++ second.queued i) ∙ sym (queued_both first.ways second.ways);
    put = ordered_both first.carried.put second.carried.put ∙ (λ i. first.put i ++ second.put i)
        ∙ sym (put_both first.ways second.ways);
    dropped =
        let both = dropped_both media more first.ways second.ways first.whole in
        omega (arith, both, first.dropped, second.dropped);
  }

-- ---- one step

pub no_media : (old new : PeerView) → CarriesOn old new → Goes [] [] old new
no_media old new carries = record {
  carried = carries.carried;
  order = carries.order;
  taken_are = carries.none_taken;
  ways = [];
  whole = refl;
  kept = carries.no_media.kept;
  queued = carries.no_media.queued;
  put = carries.no_media.put;
  dropped = carries.no_media.dropped;
}

one_media : (name : LegName) (media : List ℕ) (old new : PeerView) → CarriesOrder name.number media old new
    → Goes (record { name = name; media = media } ∷ []) [] old new
one_media name media old new carries = record {
  carried = carries.carried;
  order = carries.order;
  taken_are = carries.none_taken;
  ways = carries.goes.way ∷ [];
  whole = (carries.goes.whole, refl);
  kept = carries.goes.kept ∙ sym (append-nil (kept_by carries.goes.way name.number media));
  queued = carries.goes.queued ∙ sym (append-nil (queued_by carries.goes.way));
  put = carries.goes.put ∙ sym (append-nil (put_by carries.goes.way));
  dropped = omega (arith, carries.goes.dropped);
}

pub one_taken : (out : List ℕ) (old new : PeerView) → TakesOut out old new → Goes [] (out ∷ []) old new
one_taken out old new takes = record {
  carried = record nothing { taken = out ∷ [] };
  order = record {
    rules = ap (λ (p : PeerView). p.rules) takes.becomes;
    queue = append-nil old.queue ∙ ap (λ (p : PeerView). p.queue) (sym takes.becomes);
    outbox = sym takes.oldest ∙ sym (append-nil old.outbox.waiting);
    lost = ap (λ (p : PeerView). p.outbox.lost) takes.becomes;
    dropped = let same : new.accounts.dropped ≡ old.accounts.dropped = ap (λ (p : PeerView). p.accounts.dropped) takes.becomes in
        omega (arith, same);
    outgoing = tt;
    in_turn = λ goes number.
        append-nil (queued_of number old.queue) ∙ ap (λ (p : PeerView). queued_of number p.queue) (sym takes.becomes);
    ahead = λ goes. subst GoesAhead (sym takes.becomes) goes;
  };
  taken_are = refl;
  ways = [];
  whole = refl;
  kept = refl;
  queued = refl;
  put = refl;
  dropped = refl;
}

-- an order, by its kind and its media
pub order_goes : (name : LegName) (order : Order) (old new : PeerView) → CarriesByOrder order name.number old new
    → Goes (media_by (kind_of order) name (media_of order)) [] old new
order_goes name (commands.Media media) old new carries = one_media name media.now old new carries
order_goes name (commands.Accept format) old new carries = no_media old new carries
order_goes name (commands.Reject cause) old new carries = no_media old new carries
order_goes name (commands.Indicate indication) old new carries = no_media old new carries
order_goes name commands.Answer old new carries = no_media old new carries
order_goes name (commands.Dtmf digit) old new carries = no_media old new carries
order_goes name (commands.Hangup cause) old new carries = no_media old new carries
order_goes name (commands.Doom cause) old new carries = no_media old new carries
order_goes name commands.Paid old new carries = no_media old new carries
