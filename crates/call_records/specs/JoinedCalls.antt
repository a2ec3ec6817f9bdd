-- The two legs of a call, and the legs that are taken out between them.
use Rattle.std.specs.Prelude.{◌≢◌, ℕ, List, [], ◌∷◌, Option, IfSome}
use Rattle.std.specs.List.{AllByRecursion}
use Rattle.call_book.specs.declared.leg_name.LegName.{LegName}
use Rattle.call_records.specs.Numbering.{Numbering, after_leg}

-- a leg that is taken out, and the partner that it had until then
pub record TakenOut : Type 0 where
  pub name : LegName
  pub partner : Option LegName

-- after all of these legs were taken out, one after another
abbrev pub after_legs : Numbering → List TakenOut → Numbering
after_legs n [] = n
after_legs n (leg ∷ legs) = after_legs (after_leg n leg.name leg.partner) legs

-- neither the leg nor its partner has this local number
abbrev pub HasOtherNumbers : ℕ → TakenOut → Type 0
HasOtherNumbers number leg = (number ≢ leg.name.number) × IfSome leg.partner (λ p. number ≢ p.number)

abbrev pub AllHaveOtherNumbers : ℕ → List TakenOut → Type 0
AllHaveOtherNumbers number legs = AllByRecursion (HasOtherNumbers number) legs
