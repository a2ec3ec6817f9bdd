-- The leg of a name.
use Rattle.std.proofs.Common.{◌≡◌, true, Option, Some, None, refl, inl, inr}
use Rattle.std.proofs.lemmas.Bool.{cases_Bool}
use Rattle.call_book.specs.Book.{is_same}
use Rattle.call_book.specs.declared.leg_name.LegName.{LegName}
use Rattle.peer_lock.specs.Legs.{PeerLegs, NamedLeg, leg_at, leg_named, if_named}
use Rattle.peer_lock.specs.Statuses.{is_done}
use Rattle.call_book.proofs.NameLaws.{same_name}

-- the leg of a name, at its peer
pub record IsNamedThere (legs : PeerLegs) (name : LegName) : Type 0 where
  pub named : NamedLeg
  pub at : leg_at legs name.number ≡ Some named
  pub name_is : named.name ≡ name

pub done_there : (legs : PeerLegs) (name : LegName) → is_done (leg_named legs name) ≡ true → IsNamedThere legs name
done_there legs name done = go (leg_at legs name.number) refl done
  where
    go : (o : Option NamedLeg) → leg_at legs name.number ≡ o → is_done (if_named name o) ≡ true → IsNamedThere legs name
    go None at is = absurd (cc)
    go (Some named) at is = elim (cases_Bool (is_same named.name name)) [
      | inl e ↦ record { named = named; at = at; name_is = same_name named.name name e }
      | inr e ↦ absurd (let f = rw e at is in cc)
    ]
