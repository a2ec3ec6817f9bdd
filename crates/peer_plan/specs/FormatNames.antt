-- The formats as a plan names them.
use Rattle.std.specs.Prelude.{ℕ, List, codes}
use Rattle.call_signals.specs.declared.format.Format.{Format}
use Rattle.call_signals.specs.declared.format.Format.TheVariants.{Gsm, Ulaw, Alaw}

abbrev pub format_name : Format → List ℕ
format_name Gsm = codes "gsm"
format_name Ulaw = codes "ulaw"
format_name Alaw = codes "alaw"
