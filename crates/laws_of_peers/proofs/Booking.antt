-- The promise of a call of the book gives the effect of its note.
use Rattle.std.proofs.Common.{◌≡◌, Bool, true, false, Option, ap, refl}
use Rattle.std.specs.Prelude.{◌↔◌, Result, Ok, Err, IfOk, IsErr, OnErr, OnOk}
use Rattle.call_book.specs.Book.{Book, bridge_answer, bridged, has_name, partner_of, released}
use Rattle.call_book.specs.declared.errors.BridgeError.{BridgeError}
use Rattle.call_book.specs.declared.errors.Stale.{Stale}
use Rattle.call_book.specs.declared.leg_name.LegName.{LegName}
use Rattle.laws_of_peers.specs.Followed.{LeadsBook}
use Rattle.step_log.specs.Notes.{without_lease}
use Rattle.step_log.specs.declared.made.Made.TheVariants as mades

pub bridge_leads : (a b : LegName) (result : Result (Unit {0}) BridgeError) (old new : Book) → result ≡ bridge_answer old a b
    → OnOk result (new ≡ bridged old a b) → OnErr result (new ≡ old) → LeadsBook (mades.Bridge a b result) old new
bridge_leads a b (Ok done) old new answer ok err = (answer, ok)
bridge_leads a b (Err error) old new answer ok err = (answer, err)

pub release_leads : (name : LegName) (result : Result (Option LegName) (LegName × Stale)) (old new : Book)
    → (IsErr result ↔ (has_name old name ≡ false)) → IfOk result (λ partner. partner ≡ partner_of old name)
    → OnOk result (new ≡ released old name) → OnErr result (new ≡ old)
    → LeadsBook (mades.Release name (without_lease result)) old new
release_leads name (Ok partner) old new stale partner_is ok err =
    let known : has_name old name ≡ true = had (has_name old name) refl in
    rw known (ap Ok (rw known at partner_is), ok)
  where
    had : (b : Bool) → has_name old name ≡ b → b ≡ true
    had true is = refl
    had false is = let refused = stale.1 is in absurd (cc)
release_leads name (Err back) old new stale partner_is ok err =
    let unknown : has_name old name ≡ false = stale.0 refl in rw unknown (refl, err)
