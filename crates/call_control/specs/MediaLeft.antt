-- The media that a call still has to carry, and the media of the order that it needs next ("Mini Frames", "Meta Frames").
use Rattle.std.specs.Prelude.{List, [], ◌∷◌, ◌++◌, Option, Some, Ok}
use Rattle.call_book.specs.declared.leg_name.LegName.{LegName}
use Rattle.call_signals.specs.declared.signal.Signal.{Signal}
use Rattle.call_signals.specs.declared.signal.Signal.TheVariants.{Media}
use Rattle.call_control.specs.Work.{Work}
use Rattle.call_signals.specs.declared.order.Command.{Command}
use Rattle.call_signals.specs.declared.signal.MediaSpan.{MediaSpan}
use Rattle.call_signals.specs.declared.order.Command.TheVariants as commands
use Rattle.call_control.specs.declared.need.Need.{Need}
use Rattle.call_control.specs.declared.need.Need.TheVariants as needs
use Rattle.call_control.specs.declared.place.Place.{Place}
use Rattle.call_control.specs.declared.place.Place.TheVariants as places
use Rattle.call_control.specs.declared.reply.Reply.{Reply}
use Rattle.call_control.specs.declared.reply.Reply.TheVariants as replies

-- the media of an order, with the name of the leg that it is for
abbrev pub media_of : LegName → Command MediaSpan → List (LegName × Signal)
media_of name (commands.Media span) = (name, Media span) ∷ []
media_of name command = []

-- the media at a place whose partner is looked for or gets it
abbrev pub media_at : Place → List (LegName × Signal)
media_at (places.Finding name command) = media_of name command
media_at (places.Passing partner command) = media_of partner command
media_at place = []

-- the media that a call has still to carry: that of its place, and that of signals that aren't passed on yet
abbrev pub media_left : Work → List (LegName × Signal)
media_left work = media_at work.place ++ work.rest.onward

-- the media that the next step sends
abbrev pub media_needed : Option Need → List (LegName × Signal)
media_needed (Some (needs.Order name command)) = media_of name command
media_needed need = []

-- the signals that an answer hands up
abbrev pub handed_by : Reply → List (LegName × Signal)
handed_by (replies.Datagram (Ok heard)) = heard.onwards.signals
handed_by (replies.OpenIn (Ok heard)) = heard.onwards.signals
handed_by reply = []
