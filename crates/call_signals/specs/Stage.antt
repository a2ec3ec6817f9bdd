-- The stages of a leg.
use Rattle.std.specs.Prelude.{◌||◌, Bool, true, false}
use Rattle.call_signals.specs.declared.stage.Stage.{Stage}
use Rattle.call_signals.specs.declared.stage.Stage.TheVariants.{Waiting, Challenged, Offered, Linked, Up, Closing, Ended}

-- the two stages are the same
abbrev pub is_stage : Stage → Stage → Bool
is_stage Waiting Waiting = true
is_stage Challenged Challenged = true
is_stage Offered Offered = true
is_stage Linked Linked = true
is_stage Up Up = true
is_stage Closing Closing = true
is_stage Ended Ended = true
is_stage _ _ = false

abbrev pub is_waiting : Stage → Bool
is_waiting stage = is_stage Waiting stage

abbrev pub is_offered : Stage → Bool
is_offered stage = is_stage Offered stage

abbrev pub is_linked : Stage → Bool
is_linked stage = is_stage Linked stage

abbrev pub is_closing : Stage → Bool
is_closing stage = is_stage Closing stage

abbrev pub is_ended : Stage → Bool
is_ended stage = is_stage Ended stage

abbrev pub is_over : Stage → Bool
is_over stage = is_closing stage || is_ended stage

abbrev pub is_up : Stage → Bool
is_up stage = is_stage Up stage

abbrev pub is_talking : Stage → Bool
is_talking stage = is_linked stage || is_up stage
