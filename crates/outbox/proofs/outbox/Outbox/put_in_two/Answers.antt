use Rattle.std.proofs.Common.{◌≡◌, ◌<◌, ◌≤◌, ◌+◌, ◌++◌, List, ℕ, [], ◌∷◌, length, drop, ap, sym, ◌∙◌, arith, refl, length-append}
use Rattle.std.proofs.Common.{append_assoc, ltb}
use Rattle.std.proofs.lemmas.List.{drop-append-le, get_or_append_left, length-drop}
use Rattle.circular_buffer.specs.Buffer.{Buffer}
use Rattle.outbox.specs.Outbox.{OutboxView, put, with_lost}
use Rattle.outbox.specs.Stored.{datagrams_in}
use Rattle.outbox.specs.declared.losses.Losses.{Losses}
use Rattle.outbox.proofs.Puts.{put_fits, put_full}
use Rattle.outbox.proofs.StoredLaws.{HasPut, HasPut-pushed, HoldsDatagrams-length, as_many, full_at}
use Rattle.outbox.proofs.outbox.Outbox.put_in_two.Goals as goal
use Rattle.outbox.proofs.outbox.Outbox.put_in_two.Goals.{After-extend}

pub make_room-requires-clause-fits : goal.make_room-requires-clause-fits
make_room-requires-clause-fits c =
    let waiting = length-drop c.self.inside.taken c.self.inside.octets.items in
    omega (
      arith,
      HoldsDatagrams-length _ _ c.self.invariant.4,
      waiting,
      c.self.invariant.1,
      c.self.invariant.2,
      c.in-Ok.ensures.variant.0 refl,
      c.requires.fits,
    )

has_put : (c : After-extend) → HasPut c.self.inside.lens.items (drop c.self.inside.taken c.self.inside.octets.items)
    c.try_push_back.new.self.items (drop c.make_room.new.taken c.extend.new.octets.items) (c.args.front.now ++ c.args.back.now)
has_put c =
    let datagram = c.args.front.now ++ c.args.back.now in
    let size = length-append c.args.front.now c.args.back.now in
    let joined = append_assoc c.make_room.new.octets.items c.args.front.now c.args.back.now in
    let behind = ap (drop c.make_room.new.taken) (c.extend.ensures.items ∙ joined)
    ∙ drop-append-le c.make_room.new.taken c.make_room.new.octets.items datagram c.make_room.ensures.taken
    ∙ ap (λ (l : List ℕ). l ++ datagram) c.make_room.ensures.left in
    HasPut-pushed _ _ _ _ _ _
    (ap (λ (b : Buffer ℕ). b.items) c.in-Ok.ensures.ok) behind
    c.self.invariant.4 (c.requires.frame, omega (arith, size, c.requires.fits)) (sym size)
    (omega (arith, c.self.invariant.1, c.in-Ok.ensures.variant.0 refl))

-- the length of the octets then
size_of : (c : After-extend)
    → length c.extend.new.octets.items ≡ length c.make_room.new.octets.items + length c.args.front.now + length c.args.back.now
size_of c =
    let before = c.make_room.new.octets.items in
    omega (
      arith,
      ap length c.extend.ensures.items,
      length-append (before ++ c.args.front.now) c.args.back.now,
      length-append before c.args.front.now,
    )

pub invariant_of-self : goal.invariant_of-self
invariant_of-self c =
    let size = size_of c in (
      c.extend.ensures.capacity,
      ap (λ (b : Buffer ℕ). b.capacity) c.in-Ok.ensures.ok ∙ c.self.invariant.1,
      omega (arith, size, c.make_room.ensures.taken),
      omega (arith, size, c.make_room.ensures.room),
      (has_put c).holds,
    )

pub returns-in-Ok : goal.returns-in-Ok
returns-in-Ok c =
    let datagram = c.args.front.now ++ c.args.back.now in
    let lens = c.self.inside.lens.items in
    let octets = drop c.self.inside.taken c.self.inside.octets.items in
    let view : OutboxView = record { waiting = datagrams_in lens octets; lost = c.self.inside.lost } in
    let room : length (datagrams_in lens octets) < 256 = omega (
      arith,
      as_many lens octets,
      c.self.invariant.1,
      c.in-Ok.ensures.variant.0 refl,
    ) in
    ap (λ (w : List (List ℕ)). record view { waiting = w }) (has_put c).datagrams
    ∙ put_fits view datagram room
    ∙ ap (λ (o : OutboxView). put o (datagram ∷ [])) c.self.view_is

pub returns-in-Err : goal.returns-in-Err
returns-in-Err c =
    let front : List ℕ = c.args.front.now in
    let back : List ℕ = c.args.back.now in
    let lens = c.self.inside.lens.items in
    let octets = drop c.self.inside.taken c.self.inside.octets.items in
    let view : OutboxView = record { waiting = datagrams_in lens octets; lost = c.self.inside.lost } in
    let full = full_at (length lens) c.self.inside.lens.capacity (ltb (length lens) c.self.inside.lens.capacity) refl
    c.in-Err.ensures.variant.1 in
    let short : length (datagrams_in lens octets) ≤ 256 = omega (arith, as_many lens octets, c.self.invariant.4.few) in
    let long : 256 ≤ length (datagrams_in lens octets) = omega (arith, as_many lens octets, c.self.invariant.1, full) in
    ap (λ (b : Buffer ℕ). record { waiting = datagrams_in b.items octets; lost = c.with-self-inside.result })
    c.in-Err.ensures.err.1
    ∙ ap (λ (l : Losses). record view { lost = l }) (c.with-self-inside.ensures
    ∙ (λ i. with_lost c.self.inside.lost (sym (get_or_append_left front back 0 0 (omega (arith, c.requires.first))) i)
    (sym (get_or_append_left front back 0 1 (omega (arith, c.requires.first))) i)))
    ∙ put_full view (front ++ back) short long
    ∙ ap (λ (o : OutboxView). put o ((front ++ back) ∷ [])) c.self.view_is
