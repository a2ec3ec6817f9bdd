-- A choice between two.
use Rattle.std.proofs.Common.{Bool, true, false, cond}

-- a property of both holds for the chosen one
pub either : {A : Type 0} (P : A → Type 0) (b : Bool) (x y : A) → P x → P y → P (cond b x y)
either P true x y first second = first
either P false x y first second = second
