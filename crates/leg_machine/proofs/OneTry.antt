-- One more try.
use Rattle.std.proofs.Common.{◌≡◌, ℕ, suc, ◌≤◌, ◌++◌, true, false, refl, ap, arith}
use Rattle.seq_window.specs.Window.{WindowState, resent, after_resent, entry_count}
use Rattle.seq_window.specs.declared.judgements.Resent.TheVariants as resents
use Rattle.seq_window.specs.declared.judgements.Resent.{Resent}
use Rattle.leg_machine.specs.Leg.{LegState, whole_leg, capacity_of, HasRoom}
use Rattle.leg_machine.specs.declared.machine.Machine.{Machine}
use Rattle.leg_machine.specs.Tries.{tries, tried, after_try, frames_again}

pub tries-again : (more : ℕ) (leg : LegState) (now place : ℕ) → resent leg.window now leg.rules.retry_ms leg.rules.max_retries
    ≡ resents.Again place
    → tries (suc more) leg now ≡ record {
      leg = (tries more (after_try leg place now) now).leg;
      replies = frames_again (after_try leg place now) place ++ (tries more (after_try leg place now) now).replies;
      spent = (tries more (after_try leg place now) now).spent;
    }
tries-again more leg now place is = rw is refl

pub tries-nothing : (more : ℕ) (leg : LegState) (now : ℕ) → resent leg.window now leg.rules.retry_ms leg.rules.max_retries
    ≡ resents.Nothing
    → tries (suc more) leg now ≡ tried leg false
tries-nothing more leg now is = rw is refl

pub tries-spent : (more : ℕ) (leg : LegState) (now : ℕ) → resent leg.window now leg.rules.retry_ms leg.rules.max_retries
    ≡ resents.Spent
    → tries (suc more) leg now ≡ tried leg true
tries-spent more leg now is = rw is refl

entries_kept : (r : Resent) (w : WindowState) (now : ℕ) → (entry_count (after_resent r w now) ≡ entry_count w) ×
    ((after_resent r w now).limit ≡ w.limit)
entries_kept resents.Nothing w now = (refl, refl)
entries_kept (resents.Again place) w now = (refl, refl)
entries_kept resents.Spent w now = (refl, refl)

-- a try takes no entry
pub room_kept : (old new : Machine) (r : Resent) (now : ℕ) → new.window.state ≡ after_resent r old.window.state now
    → new.window.spare ≡ old.window.spare → HasRoom 1 old → HasRoom 1 new
room_kept old new r now state spare room =
    let kept = entries_kept r old.window.state now in
    record {
      limit = omega (arith, room.limit, kept.0, kept.1, ap entry_count state, ap (λ (w : WindowState). w.limit) state);
      spare = omega (arith, room.spare, spare);
    }

pub capacity_kept : (old new : Machine) (r : Resent) (now : ℕ) → new.window.state ≡ after_resent r old.window.state now
    → new.window.spare ≡ old.window.spare
    → capacity_of (whole_leg old) ≤ capacity_of (whole_leg new)
capacity_kept old new r now state spare =
    omega (arith, ap entry_count state, (entries_kept r old.window.state now).0, spare)
