-- What follows of an answer, if there is one.
use Rattle.std.proofs.Common.{Result, Ok, Err, IfOk}

pub if_ok_then : {T E : Type 0} (result : Result T E) (P Q : T → Type 0) → ((answer : T) → P answer → Q answer) → IfOk result P
    → IfOk result Q
if_ok_then (Ok answer) P Q leads p = leads answer p
if_ok_then (Err error) P Q leads p = p
