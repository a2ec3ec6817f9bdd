-- Settings of a plan that may not be intended.
use Rattle.std.specs.Prelude.{Bool, ◌&&◌, not}
use Rattle.call_signals.specs.Format.{has_format}
use Rattle.call_signals.specs.declared.format.Format.{Format}
use Rattle.call_signals.specs.declared.format.Formats.{Formats}

-- one peer may call in a format that another doesn't have
abbrev pub lacks : Formats → Formats → Format → Bool
lacks caller target format = has_format caller format && not (has_format target format)
