-- The media of the entries of a trunk frame, one after another.
use native.Mathlib.Omega.{arith}
use Rattle.std.proofs.Common.{◌≡◌, ◌≤◌, ◌<◌, ℕ, zero, suc, ◌+◌, ◌*◌, Bool, true, List, [], ◌∷◌, ◌++◌, Option, None, length}
use Rattle.std.proofs.Common.{append-nil, ap, refl, ◌∙◌, sym, subst, cond, false, Some, nat_le, replicate, slice_get, ◌&&◌}
use Rattle.std.proofs.Common.{◌||◌, ◌-◌}
use Rattle.std.specs.Prelude.{not}
use Rattle.std.proofs.lemmas.List.{append_assoc}
use Rattle.std.proofs.Math.Nat.{add_assoc}
use Rattle.iax_frames.specs.TrunkFrame.{head_len}
use Rattle.call_signals.specs.declared.signal.MediaSpan.{MediaSpan}
use Rattle.peer_accounts.specs.Accounts.{Credit, with_accepted}
use Rattle.peer_lock.specs.Arrivals.{MediaTaken, media_at, entry_span, entries_len, entries_media}
use Rattle.peer_accounts.specs.HandedUp.{HandedUp}
use Rattle.peer_legs.specs.Legs.{NamedLeg, PeerLegs, AreLegs, has_remote, leg_at, leg_of_remote}
use Rattle.peer_lock.specs.Peer.{PeerView}
use Rattle.peer_lock.specs.TrunkEntries.{AreCounts, CountsEntry, count_of, drops_entries, has_its_share, taken_by, taker}
use Rattle.peer_legs.proofs.PlaceLaws.{own_number}

-- These entries are left, and this is the media that all of them give. The counts are those of the entries that were taken. Some
-- entries are dropped in all, or none.
pub record AreLeft (first : ℕ) (start : PeerView) (before : Credit) (total : MediaTaken) (dropped : Bool) (timed : Bool) (at : ℕ)
    (items : List (ℕ × Option ℕ × List ℕ)) (counts : List ℕ) (drops : Bool) (peer : PeerView) (pass : Credit) (onwards : HandedUp)
    : Type 0 where
  pub done : ℕ
  pub taken : List ℕ
  pub here : peer ≡ record start { accounts = with_accepted start.accounts done }
  pub signals : onwards.signals ++ (entries_media first peer.legs start.rules.is_hardened taken timed at peer.accounts.accepted
      items).signals ≡ total.signals
  pub octets : done + (entries_media first peer.legs start.rules.is_hardened taken timed at peer.accounts.accepted items).octets
      ≡ total.octets
  pub credit : pass ≡ record before { octets = before.octets + done }
  pub offer : onwards.offer ≡ None
  pub room : length items ≤ onwards.room
  pub short : at + entries_len timed items ≤ 2048
  pub len : length counts ≡ 512
  pub counted : start.rules.is_hardened ≡ true → AreCounts peer.legs.first counts taken
  pub dropping : (drops || drops_entries peer.legs start.rules.is_hardened taken items) ≡ dropped

-- ---- the counts

zero_at : (n place : ℕ) → place < n → slice_get {X = ℕ} (replicate n 0) place ≡ Some 0
zero_at zero place fewer = absurd (omega (arith, fewer))
zero_at (suc n) zero fewer = refl
zero_at (suc n) (suc place) fewer = zero_at n place (omega (arith, fewer))

pub none_counted : (first : ℕ) (counts : List ℕ) → counts ≡ replicate 512 0 → AreCounts first counts []
none_counted first counts is number from few =
    ap (λ (c : List ℕ). slice_get c (number - first)) is ∙ zero_at 512 (number - first) few

-- ---- the leg of an entry

its_share : (limited : Bool) (taken : List ℕ) (legs : PeerLegs) (number remote : ℕ) (o : Option NamedLeg) → AreLegs legs
    → leg_at legs number ≡ o → has_remote o remote ≡ true
    → has_its_share limited taken o ≡ (limited && nat_le 16 (count_of number taken))
its_share limited taken legs number remote None are at there = cc
its_share limited taken legs number remote (Some named) are at there =
    ap (λ (n : ℕ). limited && nat_le 16 (count_of n taken)) (own_number legs number named are at)

its_number : (taken : List ℕ) (legs : PeerLegs) (number remote : ℕ) (o : Option NamedLeg) → AreLegs legs → leg_at legs number ≡ o
    → has_remote o remote ≡ true → taken_by taken o ≡ number ∷ taken
its_number taken legs number remote None are at there = cc
its_number taken legs number remote (Some named) are at there =
    ap (λ (n : ℕ). n ∷ taken) (own_number legs number named are at)

not_true : (a b : Bool) → a ≡ not b → a ≡ true → b ≡ false
not_true a true is e = cc
not_true a false is e = refl

not_false : (a b : Bool) → a ≡ not b → a ≡ false → b ≡ true
not_false a true is e = refl
not_false a false is e = cc

-- the leg that takes an entry
taker_of : (share : Bool) (o : Option NamedLeg) → share ≡ false → o ≡ cond share None o
taker_of share o e = ap (λ (b : Bool). cond b None o) (sym e)

no_taker : (share : Bool) (o : Option NamedLeg) → share ≡ true → None ≡ cond share None o
no_taker share o e = ap (λ (b : Bool). cond b None o) (sym e)

or_none : (a b : Bool) → b ≡ false → a ≡ (a || b)
or_none true b e = refl
or_none false b e = sym e

or_some : (a b : Bool) → b ≡ true → true ≡ (a || b)
or_some true b e = refl
or_some false b e = sym e

module _ (first : ℕ) (start : PeerView) (before : Credit) (total : MediaTaken) (dropped timed : Bool) where
  abbrev Left : ℕ → List (ℕ × Option ℕ × List ℕ) → List ℕ → Bool → PeerView → Credit → HandedUp → Type 0
  Left = AreLeft first start before total dropped timed

  abbrev limited : Bool
  limited = start.rules.is_hardened

  sum_on : (a b c : ℕ) → a + b + c ≡ a + (b + c)
  sum_on a b c = add_assoc a b c

  room_less : (n old new : ℕ) → suc n ≤ old → old ≤ new + 1 → n ≤ new
  room_less n old new many kept = omega arith

  short_on : (at head media rest : ℕ) → at + (head + media + rest) ≤ 2048 → at + head + media + rest ≤ 2048
  short_on at head media rest short = omega arith

  or_on : (a b c : Bool) → ((a || b) || c) ≡ (a || (b || c))
  or_on true b c = refl
  or_on false b c = refl

  -- one entry is handled, and this leg takes it
  one_less : (at : ℕ) (item : ℕ × Option ℕ × List ℕ) (items : List (ℕ × Option ℕ × List ℕ)) (counts now_counts : List ℕ)
      (drops now_drops : Bool) (peer next : PeerView) (pass after : Credit) (onwards more : HandedUp) (leg : Option NamedLeg)
      (left : Left at (item ∷ items) counts drops peer pass onwards)
      → leg ≡ taker limited left.taken (leg_of_remote peer.legs item.0)
      → now_drops ≡ (drops || has_its_share limited left.taken (leg_of_remote peer.legs item.0))
      → length now_counts ≡ 512
      → (limited ≡ true → AreCounts peer.legs.first now_counts (taken_by left.taken leg))
      → next ≡ record peer {
        accounts = with_accepted peer.accounts (media_at first peer.accounts.accepted leg (entry_span timed at item)).octets;
      }
      → more.signals ≡ onwards.signals ++ (media_at first peer.accounts.accepted leg (entry_span timed at item)).signals
      → more.offer ≡ onwards.offer
      → onwards.room ≤ more.room + 1
      → after ≡ record pass {
        octets = pass.octets + (media_at first peer.accounts.accepted leg (entry_span timed at item)).octets;
      }
      → Left (entry_span timed at item).end items now_counts now_drops next after more
  one_less at item items counts now_counts drops now_drops peer next pass after onwards more leg left leg_is drops_is len counted
      went signals offer room credit =
      subst (λ n. Left (entry_span timed at item).end items now_counts now_drops n after more) (sym went)
      (subst (λ c. Left (entry_span timed at item).end items now_counts now_drops moved c more) (sym credit)
      (record {
        done = left.done + now.octets;
        taken = taken_by left.taken leg;
        here = ap more_accepted left.here
            ∙ (λ i. record start {
              accounts = record start.accounts
                  { accepted = (sum_on start.accounts.accepted left.done now.octets) i };
            });
        signals = ap (λ s. s ++ later.signals) signals ∙ append_assoc onwards.signals now.signals later.signals
            ∙ subst (λ (o : Option NamedLeg). onwards.signals ++ (with_leg o).signals ≡ total.signals) (sym leg_is) left.signals;
        octets = sum_on left.done now.octets later.octets
            ∙ subst (λ (o : Option NamedLeg). left.done + (with_leg o).octets ≡ total.octets) (sym leg_is) left.octets;
        credit = ap more_credit left.credit
            ∙ (λ i. record before { octets = (sum_on before.octets left.done now.octets) i });
        offer = offer ∙ left.offer;
        room = room_less (length items) onwards.room more.room left.room room;
        short = short_on at (head_len timed) (length item.2) (entries_len timed items) left.short;
        len = len;
        counted = counted;
        dropping = (λ i. drops_is i || drops_entries peer.legs limited (taken_by left.taken (leg_is i)) items)
            ∙ or_on drops (has_its_share limited left.taken (leg_of_remote peer.legs item.0))
            (drops_entries peer.legs limited (taken_by left.taken (taker limited left.taken (leg_of_remote peer.legs item.0)))
            items) ∙ left.dropping;
      }))
    where
      now : MediaTaken
      now = media_at first peer.accounts.accepted leg (entry_span timed at item)

      -- the media of this entry and the later ones, if this leg takes the entry
      with_leg : Option NamedLeg → MediaTaken
      with_leg o =
          let its = media_at first peer.accounts.accepted o (entry_span timed at item) in
          let others = entries_media first peer.legs limited (taken_by left.taken o) timed (entry_span timed at item).end
          (peer.accounts.accepted + its.octets) items in
          record { signals = its.signals ++ others.signals; octets = its.octets + others.octets }

      more_accepted : PeerView → PeerView
      more_accepted p = record p { accounts = with_accepted p.accounts now.octets }

      more_credit : Credit → Credit
      more_credit c = record c { octets = c.octets + now.octets }

      moved : PeerView
      moved = more_accepted peer

      later : MediaTaken
      later = entries_media first peer.legs limited (taken_by left.taken leg) timed (entry_span timed at item).end
          (peer.accounts.accepted + now.octets) items

  -- the next entries as the loop has them
  pub record IsNext (at : ℕ) (span : MediaSpan) (item : ℕ × Option ℕ × List ℕ) (items all : List (ℕ × Option ℕ × List ℕ))
      : Type 0 where
    pub these : all ≡ item ∷ items
    pub here : entry_span timed at item ≡ span

  next_left : (at : ℕ) (span : MediaSpan) (item : ℕ × Option ℕ × List ℕ) (items all : List (ℕ × Option ℕ × List ℕ))
      (counts : List ℕ) (drops : Bool) (peer : PeerView) (pass : Credit) (onwards : HandedUp)
      → Left at all counts drops peer pass onwards → IsNext at span item items all
      → Left at (item ∷ items) counts drops peer pass onwards
  next_left at span item items all counts drops peer pass onwards left is =
      subst (λ entries. Left at entries counts drops peer pass onwards) is.these left

  -- an entry that no leg takes
  none_takes : (at : ℕ) (span : MediaSpan) (item : ℕ × Option ℕ × List ℕ) (items all : List (ℕ × Option ℕ × List ℕ))
      (counts now_counts : List ℕ) (drops now_drops : Bool) (peer : PeerView) (pass : Credit) (onwards : HandedUp)
      (left : Left at (item ∷ items) counts drops peer pass onwards) → IsNext at span item items all
      → None ≡ taker limited left.taken (leg_of_remote peer.legs item.0)
      → now_drops ≡ (drops || has_its_share limited left.taken (leg_of_remote peer.legs item.0))
      → length now_counts ≡ 512
      → (limited ≡ true → AreCounts peer.legs.first now_counts left.taken)
      → Left span.end items now_counts now_drops peer pass onwards
  none_takes at span item items all counts now_counts drops now_drops peer pass onwards left is none drops_is len counted =
      let accepted : peer.accounts.accepted ≡ peer.accounts.accepted + 0 = omega arith in
      let octets : pass.octets ≡ pass.octets + 0 = omega arith in
      subst (λ (s : MediaSpan). Left s.end items now_counts now_drops peer pass onwards) is.here
      (one_less at item items counts now_counts drops now_drops peer peer pass pass onwards onwards None left none drops_is len
      counted (ap (λ n. record peer { accounts = record peer.accounts { accepted = n } }) accepted)
      (sym (append-nil onwards.signals)) refl (omega arith) (ap (λ n. record pass { octets = n }) octets))

  -- an entry of no leg
  pub of_none : (at : ℕ) (span : MediaSpan) (item : ℕ × Option ℕ × List ℕ) (items all : List (ℕ × Option ℕ × List ℕ))
      (counts : List ℕ) (drops : Bool) (peer : PeerView) (pass : Credit) (onwards : HandedUp)
      → Left at all counts drops peer pass onwards → IsNext at span item items all → leg_of_remote peer.legs item.0 ≡ None
      → Left span.end items counts drops peer pass onwards
  of_none at span item items all counts drops peer pass onwards whole is none =
      let left = next_left at span item items all counts drops peer pass onwards whole is in
      let no_share : has_its_share limited left.taken (leg_of_remote peer.legs item.0) ≡ false =
      ap (has_its_share limited left.taken) none in
      none_takes at span item items all counts counts drops drops peer pass onwards left is
      (sym none ∙ taker_of (has_its_share limited left.taken (leg_of_remote peer.legs item.0)) (leg_of_remote peer.legs item.0)
      no_share) (or_none drops (has_its_share limited left.taken (leg_of_remote peer.legs item.0)) no_share) left.len left.counted

  -- an entry of a leg that has taken 16
  pub beyond_share : (at : ℕ) (span : MediaSpan) (item : ℕ × Option ℕ × List ℕ) (items all : List (ℕ × Option ℕ × List ℕ))
      (counts now_counts : List ℕ) (drops : Bool) (peer : PeerView) (pass : Credit) (onwards : HandedUp) (number place : ℕ)
      (is_counted : Bool)
      → Left at all counts drops peer pass onwards → IsNext at span item items all → AreLegs peer.legs
      → leg_at peer.legs number ≡ leg_of_remote peer.legs item.0 → has_remote (leg_at peer.legs number) item.0 ≡ true
      → limited ≡ true → CountsEntry place is_counted counts now_counts → is_counted ≡ false → length now_counts ≡ 512
      → peer.legs.first ≤ number → place ≡ number - peer.legs.first
      → Left span.end items now_counts true peer pass onwards
  beyond_share at span item items all counts now_counts drops peer pass onwards number place is_counted whole is are found there
      must did not_counted len from place_is =
      let left = next_left at span item items all counts drops peer pass onwards whole is in
      let its = did peer.legs.first number left.taken (left.counted must) from place_is in
      let share : has_its_share limited left.taken (leg_of_remote peer.legs item.0) ≡ true =
      ap (has_its_share limited left.taken) (sym found)
      ∙ its_share limited left.taken peer.legs number item.0 (leg_at peer.legs number) are refl there
      ∙ (λ i. must i && not_false is_counted (nat_le 16 (count_of number left.taken)) its.0 not_counted i) in
      none_takes at span item items all counts now_counts drops true peer pass onwards left is
      (no_taker (has_its_share limited left.taken (leg_of_remote peer.legs item.0)) (leg_of_remote peer.legs item.0) share)
      (or_some drops (has_its_share limited left.taken (leg_of_remote peer.legs item.0)) share) len
      (λ _. subst (λ (b : Bool). AreCounts peer.legs.first now_counts (cond b (number ∷ left.taken) left.taken)) not_counted
      its.1)

  -- an entry of the leg of a number was counted
  pub record IsCounted (legs : PeerLegs) (counts now_counts : List ℕ) (number : ℕ) : Type 0 where
    pub place : ℕ
    pub is_counted : Bool
    pub taken : is_counted ≡ true
    pub counted : CountsEntry place is_counted counts now_counts
    pub from : legs.first ≤ number
    pub place_is : place ≡ number - legs.first

  -- .. or entries aren't limited
  pub record MayTake (legs : PeerLegs) (counts now_counts : List ℕ) (number : ℕ) : Type 0 where
    pub counted : limited ≡ true → IsCounted legs counts now_counts number
    pub len : length now_counts ≡ 512

  -- an entry of a leg that takes it
  pub takes_share : (at : ℕ) (span : MediaSpan) (item : ℕ × Option ℕ × List ℕ) (items all : List (ℕ × Option ℕ × List ℕ))
      (counts now_counts : List ℕ) (drops : Bool) (peer next : PeerView) (pass after : Credit) (onwards more : HandedUp)
      (number : ℕ)
      → Left at all counts drops peer pass onwards → IsNext at span item items all → AreLegs peer.legs
      → leg_at peer.legs number ≡ leg_of_remote peer.legs item.0 → has_remote (leg_at peer.legs number) item.0 ≡ true
      → MayTake peer.legs counts now_counts number
      → next ≡ record peer {
        accounts = with_accepted peer.accounts
            (media_at first peer.accounts.accepted (leg_at peer.legs number) span).octets;
      }
      → more.signals ≡ onwards.signals ++ (media_at first peer.accounts.accepted (leg_at peer.legs number) span).signals
      → more.offer ≡ onwards.offer
      → onwards.room ≤ more.room + 1
      → after ≡ record pass {
        octets = pass.octets + (media_at first peer.accounts.accepted (leg_at peer.legs number) span).octets;
      }
      → Left span.end items now_counts drops next after more
  takes_share at span item items all counts now_counts drops peer next pass after onwards more number whole is are found
      there may went signals offer room credit =
      subst (λ (s : MediaSpan). next ≡ record peer {
        accounts = with_accepted peer.accounts (media_at first peer.accounts.accepted leg s).octets;
      }
      → more.signals ≡ onwards.signals ++ (media_at first peer.accounts.accepted leg s).signals
      → after ≡ record pass { octets = pass.octets + (media_at first peer.accounts.accepted leg s).octets }
      → Left s.end items now_counts drops next after more) is.here
      (λ went signals credit. one_less at item items counts now_counts drops drops peer next pass after onwards more leg left
      (found ∙ taker_of (has_its_share limited left.taken (leg_of_remote peer.legs item.0)) (leg_of_remote peer.legs item.0)
      no_share) (or_none drops (has_its_share limited left.taken (leg_of_remote peer.legs item.0)) no_share) may.len counted went
      signals offer room credit) went signals credit
    where
      leg : Option NamedLeg
      leg = leg_at peer.legs number

      left : Left at (item ∷ items) counts drops peer pass onwards
      left = next_left at span item items all counts drops peer pass onwards whole is

      did : (e : limited ≡ true) → ((may.counted e).is_counted ≡ not (nat_le 16 (count_of number left.taken)))
          × AreCounts peer.legs.first now_counts (cond (may.counted e).is_counted (number ∷ left.taken) left.taken)
      did e = let its = may.counted e in its.counted peer.legs.first number left.taken (left.counted e) its.from its.place_is

      below : (b : Bool) → limited ≡ b → (b && nat_le 16 (count_of number left.taken)) ≡ false
      below false e = refl
      below true e = let its = may.counted e in
          not_true its.is_counted (nat_le 16 (count_of number left.taken)) (did e).0 its.taken

      no_share : has_its_share limited left.taken (leg_of_remote peer.legs item.0) ≡ false
      no_share = ap (has_its_share limited left.taken) (sym found)
          ∙ its_share limited left.taken peer.legs number item.0 (leg_at peer.legs number) are refl there
          ∙ below limited refl

      counted : limited ≡ true → AreCounts peer.legs.first now_counts (taken_by left.taken leg)
      counted e =
          subst (AreCounts peer.legs.first now_counts)
          (ap (λ (b : Bool). cond b (number ∷ left.taken) left.taken) (may.counted e).taken
          ∙ sym (its_number left.taken peer.legs number item.0 (leg_at peer.legs number) are refl there)) (did e).1

more : (n head media rest : ℕ) → 4 * n ≤ rest → 4 ≤ head → 4 * suc n ≤ head + media + rest
more n head media rest enough four = omega arith

count : (n all : ℕ) → 4 * n ≤ all → 8 + all ≤ 2048 → n ≤ 512
count n all enough short = omega arith

-- each entry has four octets or more
least : (timed : Bool) (items : List (ℕ × Option ℕ × List ℕ)) → 4 * length items ≤ entries_len timed items
least timed [] = omega arith
least true (item ∷ items) = let rest = least true items in more (length items) 6 (length item.2) (entries_len true items) rest
    (omega arith)
least false (item ∷ items) = let rest = least false items in more (length items) 4 (length item.2) (entries_len false items) rest
    (omega arith)

pub few_entries : (timed : Bool) (items : List (ℕ × Option ℕ × List ℕ)) → 8 + entries_len timed items ≤ 2048 → length items ≤ 512
few_entries timed items short = let all = least timed items in count (length items) (entries_len timed items) all short
