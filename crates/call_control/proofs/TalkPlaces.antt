-- The legs that get an order of a continuing call: legs that are challenged or offered, and the places that lead to one.
use Rattle.call_control.specs.declared.need.Need.TheVariants as needs
use Rattle.call_control.specs.declared.place.Place.TheVariants as places
use Rattle.call_signals.specs.declared.stage.Stage.TheVariants as stages
use Rattle.call_control.proofs.Prelude.{◌≡◌, Some, Bool, true, false, refl, ℕ, ◌+◌, ◌≤◌, List, [], ◌∷◌, ap, arith, inl, inr, ◌⊎◌}
use Rattle.call_control.proofs.Prelude.{Option, ◌&&◌, sym, subst, ◌∙◌, ◌<◌, cond_both, cases_Bool, true≢false, AllByRecursion, Ok}
use Rattle.call_control.proofs.Prelude.{Err, Result, is_same, Book, has_name, reserve_answer, partner_of, IsBook, after_reserve}
use Rattle.call_control.proofs.Prelude.{ReserveError, LegName, kind_of, times, Leg, Scene, Choice, leg_at, brought, is_leased}
use Rattle.call_control.proofs.Prelude.{carried, reserves, releases, is_stale, answered, let_lapse, Rest, told_at, advance_from}
use Rattle.call_control.proofs.Prelude.{in_hand, after_accept, Need, Place, Reply, Format, Kind, Signal, Stage, SeenFrame}
use Rattle.call_control.proofs.Prelude.{frame_effect, stage_after, Lapse, IsReserved, reserved, same_name, bit, has_name_is}
use Rattle.call_control.proofs.Prelude.{partner_has, released_before, reserved_none, reserved_before}
use Rattle.call_control.proofs.Held.{some_bit, found_if}
use Rattle.call_control.proofs.Onward.{onward_at}
use Rattle.call_control.proofs.Safe.{fresh_at, all_without, all_turned, all_at_lapses, and_second, lapsed_name}
use Rattle.call_control.proofs.Steps.{order_ways, open_in_ways, open_out_ways, retire_ways, datagram_ways, tick_ways, same_book}
use Rattle.call_control.proofs.Steps.{same_legs}

-- the leg is challenged or offered
abbrev pub is_pending : Stage → Bool
is_pending stages.Challenged = true
is_pending stages.Offered = true
is_pending stage = false

-- the leg of this name is neither
abbrev pub NotPending : LegName → Leg → Type 0
NotPending p leg = is_same leg.name p ≡ true → is_pending leg.seen.stage ≡ false

abbrev pub NonePending : LegName → List Leg → Type 0
NonePending p legs = AllByRecursion (NotPending p) legs

-- ---- stages

carried_not_pending : (kind : Kind) (leg : Leg) (after : Stage) → stage_after kind leg.seen.stage ≡ Some after
    → is_pending leg.seen.stage ≡ false → is_pending (carried kind leg after).seen.stage ≡ false
carried_not_pending kind leg after ok not_pending = grind arith

effect_not_pending : (frame : SeenFrame) (stage : Stage) → is_pending stage ≡ false → is_pending (frame_effect frame stage).stage
    ≡ false
effect_not_pending frame stage not_pending = grind arith

lapsed_not_pending : (lapse : Lapse) (leg : Leg) → is_pending leg.seen.stage ≡ false → is_pending (let_lapse lapse leg).seen.stage
    ≡ false
lapsed_not_pending lapse leg not_pending = grind arith

-- ---- steps

abbrev pub is_bridge : Need → Bool
is_bridge (needs.Bridge a b) = true
is_bridge need = false

abbrev pub opens_name : LegName → Need → Bool
opens_name p (needs.OpenIn name) = is_same name p
opens_name p need = false

module _ (p : LegName) (s : Scene) where
  -- a step leaves the leg so, unless it opens an incoming leg of the name
  pub need_not_pending : (need : Need) (called : Bool) (choice : Choice) → opens_name p need ≡ false → NonePending p s.legs
      → NonePending p (answered s need called choice).scene.legs
  need_not_pending (needs.Datagram peer) called choice apart h = datagram_ways (λ a. NonePending p a.scene.legs) s peer choice
      (λ error. h) (λ media. h)
      (λ leg number frame is. all_turned (NotPending p) s.legs peer number leg (brought frame leg) is
      (λ own same. effect_not_pending frame leg.seen.stage (own same)) h)
  need_not_pending (needs.OpenIn name) called choice apart h = open_in_ways (λ a. NonePending p a.scene.legs) s name choice
      (λ error. h) (λ opening. ((λ same. absurd (true≢false (sym same ∙ apart))), h))
  need_not_pending (needs.OpenOut name) called choice apart h = open_out_ways (λ a. NonePending p a.scene.legs) s name called
      choice (λ error. h) ((λ same. refl), h)
  need_not_pending (needs.Order name command) called choice apart h = order_ways (λ a. NonePending p a.scene.legs) s name
      (kind_of command) choice (λ error. h)
      (λ leg stage found ok. all_turned (NotPending p) s.legs name.peer name.number leg (carried (kind_of command) leg stage)
      (found_if name (leg_at s.legs name.peer name.number) leg found).0
      (λ own same. carried_not_pending (kind_of command) leg stage ok (own same)) h)
  need_not_pending (needs.Tick peer) called choice apart h = tick_ways (λ a. NonePending p a.scene.legs) s peer choice h h
      (λ lapses quiet. all_at_lapses (NotPending p) (λ lapse leg own same. lapsed_not_pending lapse leg
      (own (ap (λ n. is_same n p) (sym (lapsed_name lapse leg)) ∙ same))) peer lapses s.legs h)
  need_not_pending (needs.Retire name) called choice apart h = retire_ways (λ a. NonePending p a.scene.legs) s name choice h
      (λ done. all_without (NotPending p) s.legs name h)
  need_not_pending need called choice apart h = subst (NonePending p) (sym (same_legs s need called choice refl)) h

  -- it adds no partner, unless it makes a bridge
  pub need_partners : IsBook s.book → (need : Need) (called : Bool) (choice : Choice) → is_bridge need ≡ false → (x q : LegName)
      → partner_of (answered s need called choice).scene.book x ≡ Some q → partner_of s.book x ≡ Some q
  need_partners sound (needs.Reserve peer) called choice apart x q has = go (reserve_answer s.book peer) refl has
    where
      go : (r : Result LegName ReserveError) → reserve_answer s.book peer ≡ r
          → partner_of (reserves s peer r).scene.book x ≡ Some q → partner_of s.book x ≡ Some q
      go (Err error) is has = has
      go (Ok name) is has =
          let did : IsReserved s.book peer name = reserved s.book peer name sound is in
          let known : bit (has_name (after_reserve s.book peer) x) ≡ 1 =
          ap bit (partner_has (after_reserve s.book peer) x q has) in
          elim (cases_Bool (is_same name x)) [
            | inl same ↦ absurd (reserved_none s.book peer name sound did q (ap (partner_of (after_reserve s.book peer))
                (same_name name x same) ∙ has))
            | inr other ↦ reserved_before s.book peer name sound did x q (some_bit (has_name s.book x) (omega (
              arith,
              did.gained x,
              ap bit other,
            ))) has
          ]
  need_partners sound (needs.Release name) called choice apart x q has = cond_both
      (is_leased s.leases name && has_name s.book name) (releases s name) (is_stale s name)
      (λ a. partner_of a.scene.book x ≡ Some q → partner_of s.book x ≡ Some q)
      (λ both has. released_before s.book name sound (has_name_is s.book name (and_second (is_leased s.leases name)
      (has_name s.book name) both)) x q has) (λ _ has. has) has
  need_partners sound (needs.Bridge a b) called choice apart x q has = absurd (cc)
  need_partners sound need called choice apart x q has = subst (λ b. partner_of b x ≡ Some q) (same_book s need called choice
      refl) has

-- ---- places

-- the leases for incoming legs that are opened here
abbrev pub opening_at : Place → LegName → ℕ
opening_at (places.OpenIn name) x = times x (name ∷ [])
opening_at place x = 0

pub opening_fresh : (place : Place) (x : LegName) → opening_at place x ≤ fresh_at place x
opening_fresh place x = grind arith

-- no incoming or outgoing leg is opened here, and no order of a continuing call is given
abbrev pub is_plain : Place → Bool
is_plain (places.OpenIn name) = false
is_plain (places.OpenOut offered target) = false
is_plain (places.Passing partner command) = false
is_plain place = true

-- ---- the place after each answer

pub onward_plain : (onward : List (LegName × Signal)) (touched : Option LegName) (looks : List (ℕ × ℕ))
    → is_plain (advance_from onward touched looks).place ≡ true
onward_plain = onward_at is_plain (λ n. refl) (λ n a. refl) (λ n. refl) (λ p n. refl)

-- all places but these three lead to plain ones
abbrev pub leads_on : Place → Bool
leads_on (places.ReserveIn peer) = false
leads_on (places.Accepting offered target format) = false
leads_on (places.Finding name command) = false
leads_on place = true

pub leads_to_plain : (place : Place) (reply : Reply) (rest : Rest) → leads_on place ≡ true
    → is_plain (told_at place reply rest).place ≡ true
leads_to_plain place reply rest on = grind (arith, onward_plain)

onward_opening : (onward : List (LegName × Signal)) (touched : Option LegName) (looks : List (ℕ × ℕ)) (x : LegName)
    → opening_at (advance_from onward touched looks).place x ≡ 0
onward_opening onward touched looks x = onward_at (λ p. opening_at p x) (λ n. refl) (λ n a. refl) (λ n. refl) (λ p n. refl)
    onward touched looks

-- an incoming leg is opened with a lease that was just taken
pub opened_from : (place : Place) (reply : Reply) (rest : Rest) (x : LegName) → 1 ≤ opening_at (told_at place reply rest).place x
    → in_hand place ≡ []
opened_from place reply rest x some = grind (arith, onward_opening)

-- a lease for an outgoing leg is still held after its offered leg was accepted, or wasn't
pub accept_fresh : (reply : Reply) (offered target : LegName) (format : Format) (rest : Rest) (x : LegName)
    → 1 ≤ times x (target ∷ []) → 1 ≤ fresh_at (after_accept reply offered target format rest).place x
accept_fresh reply offered target format rest x some = grind arith

-- ---- settled names

-- the name was given out, and no incoming leg is opened under it any more; its leg is neither challenged nor offered
pub record IsSettled (book : Book) (legs : List Leg) (opening : LegName → ℕ) (p : LegName) : Type 0 where
  pub known : p.serial < book.next
  pub not_pending : NonePending p legs
  pub unopened : opening p ≡ 0

-- a settled name stays settled with other leases for incoming legs, unless one of them is for it
pub resettled : {book : Book} {legs : List Leg} {old : LegName → ℕ} {p : LegName} (new : LegName → ℕ)
    → IsSettled book legs old p → new p ≡ 0 → IsSettled book legs new p
resettled new s none = record { known = s.known; not_pending = s.not_pending; unopened = none }

-- the leg that gets an order of a continuing call is settled, and so is the offered leg whose far leg is opened
abbrev pub Asks : (LegName → Type 0) → Place → Type 0
Asks Settled (places.Passing partner command) = Settled partner
Asks Settled (places.OpenOut offered target) = Settled offered
Asks Settled place = Unit {0}

pub asks_map : (P Q : LegName → Type 0) (place : Place) → ((p : LegName) → P p → Q p) → Asks P place → Asks Q place
asks_map P Q (places.Passing partner command) f h = f partner h
asks_map P Q (places.OpenOut offered target) f h = f offered h
asks_map P Q place f h = tt

pub asks_plain : (P : LegName → Type 0) (place : Place) → is_plain place ≡ true → Asks P place
asks_plain P (places.Passing partner command) plain = absurd (cc)
asks_plain P (places.OpenOut offered target) plain = absurd (cc)
asks_plain P place plain = tt

-- of a caller among others
abbrev pub SettledAt : (LegName → ℕ) → Book → List Leg → Place → LegName → Type 0
SettledAt others_opening book legs place p = IsSettled book legs (λ x. opening_at place x + others_opening x) p

-- each partner is settled, unless the other name of the bridge is still that of a lease
abbrev pub PartnersAt : (LegName → ℕ) → (LegName → ℕ) → Book → List Leg → Place → Type 0
PartnersAt others_opening others_fresh book legs place =
    (x p : LegName) → partner_of book x ≡ Some p → (1 ≤ fresh_at place x + others_fresh x) ⊎
    SettledAt others_opening book legs place p

-- the state after a step from a place
pub record IsTalkStep (others_opening others_fresh : LegName → ℕ) (book : Book) (legs : List Leg) (place : Place) (new : Scene)
    (to : Place) : Type 0 where
  pub settled : (p : LegName) → SettledAt others_opening book legs place p → SettledAt others_opening new.book new.legs to p
  pub asks : Asks (SettledAt others_opening new.book new.legs to) to
  pub partners : PartnersAt others_opening others_fresh new.book new.legs to
