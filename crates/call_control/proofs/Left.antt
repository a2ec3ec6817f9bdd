-- The media and the datagrams that a call has left, and those that a datagram brings.
use Rattle.call_signals.specs.declared.order.Command.TheVariants as commands
use Rattle.call_control.specs.declared.place.Place.TheVariants as places
use Rattle.call_control.specs.declared.reply.Reply.TheVariants as replies
use Rattle.call_signals.specs.declared.signal.Signal.TheVariants as signals
use Rattle.peer_lock.specs.Seen as peer
use Rattle.call_control.specs.MediaLeft.{media_at, media_left, media_needed, handed_by, media_of}
use Rattle.peer_lock.specs.CarriedMedia.{LiesWithin, handed_octets}
use Rattle.call_control.proofs.Prelude.{◌≡◌, Some, None, Bool, true, false, refl, ℕ, ◌+◌, ◌≤◌, List, [], ◌∷◌, ◌++◌, arith, inl}
use Rattle.call_control.proofs.Prelude.{inr, ◌⊎◌, Option, cond, sym, subst, AllByRecursion, Ok, Err, is_same}
use Rattle.call_control.proofs.Prelude.{LegName}
use Rattle.call_control.proofs.Prelude.{Work, Rest, next_of, advance, after_status}
use Rattle.call_control.proofs.Prelude.{told_at, after_told, place_for, passed_on, advance_from, Command, Place, Reply, Cause}
use Rattle.call_control.proofs.Prelude.{MediaSpan, Signal}

-- ---- the media is within the range of all signals, and has at most their octets, less those already ordered

abbrev Within : ℕ → List (LegName × Signal) → Type 0
Within len signals = AllByRecursion (LiesWithin len) signals

onward_within : (len : ℕ) (onward : List (LegName × Signal)) (touched : Option LegName) (looks : List (ℕ × ℕ))
    → Within len onward → Within len (media_left (advance_from onward touched looks))
onward_within len [] None [] all = tt
onward_within len [] None (look ∷ looks) all = tt
onward_within len [] (Some name) looks all = tt
onward_within len (up ∷ onward) touched looks all = passed up.1 all (onward_within len onward touched looks all.1)
  where
    further : Work
    further = advance_from onward touched looks

    passed : (signal : Signal) → Within len ((up.0, signal) ∷ onward) → Within len (media_left further)
        → Within len (media_left (passed_on (place_for up.0 signal) (record {
          onward = onward;
          touched = touched;
          looks = looks;
        }) further))
    passed (signals.Media span) all more = all
    passed signals.Hangup all more = more
    passed signal all more = all.1

onward_octets : (onward : List (LegName × Signal)) (touched : Option LegName) (looks : List (ℕ × ℕ))
    → handed_octets (media_left (advance_from onward touched looks)) ≤ handed_octets onward
onward_octets [] touched looks = grind arith
onward_octets (up ∷ onward) touched looks = grind (arith, onward_octets onward touched looks)

pub left_octets : (work : Work) (reply : Reply)
    → handed_octets (media_left (after_told work reply)) + handed_octets (media_needed (next_of work)) ≤ handed_octets
    (media_left work) + handed_octets (handed_by reply)
left_octets work reply = grind (arith, onward_octets)

-- the media of a place is carried away, or stays
rest_within : (len : ℕ) (place : Place) (onward : List (LegName × Signal)) → Within len (media_at place ++ onward)
    → Within len onward
rest_within len (places.Finding name (commands.Media span)) onward all = all.1
rest_within len (places.Passing partner (commands.Media span)) onward all = all.1
rest_within len place onward all = all

found_within : (len : ℕ) (name partner : LegName) (command : Command MediaSpan) (onward : List (LegName × Signal))
    → Within len (media_of name command ++ onward) → Within len (media_of partner command ++ onward)
found_within len name partner (commands.Media span) onward all = all
found_within len name partner command onward all = all

-- these answers hand up signals, or find the partner that the media is for
abbrev brings_media : Place → Reply → Bool
brings_media (places.Datagram peer) (replies.Datagram (Ok heard)) = true
brings_media (places.OpenIn name) (replies.OpenIn (Ok heard)) = true
brings_media (places.Finding name command) reply = true
brings_media place reply = false

-- after all others the media is what was left, or none
abbrev IsOneOf : Rest → List (LegName × Signal) → Type 0
IsOneOf rest left = (left ≡ rest.onward) ⊎ (left ≡ media_left (advance rest)) ⊎ (left ≡ [])

looked : (same owes : Bool) (name : LegName) (cause : Cause) (rest : Rest)
    → IsOneOf rest (media_left (cond same (after_status name owes cause rest) (advance rest)))
looked true true name cause rest = inl refl
looked true false name cause rest = inl refl
looked false owes name cause rest = inr (inl refl)

one_of : (place : Place) (reply : Reply) (rest : Rest) → brings_media place reply ≡ false
    → IsOneOf rest (media_left (told_at place reply rest))
one_of place (replies.Datagram result) rest apart = grind arith
one_of (places.Looking name) (replies.Look (Some status)) rest apart = looked (is_same status.name name) status.owes status.name
    status.cause rest
one_of (places.Passing partner command) (replies.Order (Err error)) rest apart = grind arith
one_of place reply rest apart = grind arith

one_within : (len : ℕ) (rest : Rest) (left : List (LegName × Signal)) → IsOneOf rest left → Within len rest.onward
    → Within len left
one_within len rest left (inl same) all = subst (Within len) (sym same) all
one_within len rest left (inr (inl on)) all = subst (Within len) (sym on)
    (onward_within len rest.onward rest.touched rest.looks all)
one_within len rest left (inr (inr none)) all = subst (Within len) (sym none) tt

pub told_within : (len : ℕ) (place : Place) (reply : Reply) (rest : Rest) → Within len (media_at place ++ rest.onward)
    → Within len (handed_by reply) → Within len (media_left (told_at place reply rest))
told_within len (places.Datagram peer) (replies.Datagram (Ok heard)) rest all more = onward_within len heard.onwards.signals
    heard.touched rest.looks more
told_within len (places.OpenIn name) (replies.OpenIn (Ok heard)) rest all more = onward_within len heard.onwards.signals
    heard.touched rest.looks more
told_within len (places.Finding name command) (replies.Partner (Some partner)) rest all more =
    found_within len name partner command
    rest.onward all
told_within len (places.Finding name command) reply rest all more = onward_within len rest.onward rest.touched rest.looks
    (rest_within len (places.Finding name command) rest.onward all)
told_within len place reply rest all more = one_within len rest _ (one_of place reply rest refl)
    (rest_within len place rest.onward all)
