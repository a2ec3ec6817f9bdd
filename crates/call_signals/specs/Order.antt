-- Commands of the layer above to a leg. Their media has three forms: the octets, a place in a datagram, and none.
use Rattle.std.specs.Borrow.{Bor}
use Rattle.std.specs.Prelude.{ℕ, ◌≤◌, List, [], slice_range}
use Rattle.call_signals.specs.declared.order.Command.{Command}
use Rattle.call_signals.specs.declared.order.Command.TheVariants as commands
use Rattle.call_signals.specs.declared.signal.MediaSpan.{MediaSpan}

-- a command with the octets of its media
abbrev pub Order : Type 0
Order = Command (Bor (List ℕ))

-- a command without its media
abbrev pub Kind : Type 0
Kind = Command (Unit {0})

-- the same command without its media
abbrev pub kind_of : {M : Type 0} → Command M → Kind
kind_of (commands.Accept format) = commands.Accept format
kind_of (commands.Reject cause) = commands.Reject cause
kind_of (commands.Indicate indication) = commands.Indicate indication
kind_of commands.Answer = commands.Answer
kind_of (commands.Dtmf digit) = commands.Dtmf digit
kind_of (commands.Media media) = commands.Media tt
kind_of (commands.Hangup cause) = commands.Hangup cause
kind_of (commands.Doom cause) = commands.Doom cause
kind_of commands.Paid = commands.Paid

-- the octets of an order's media; any other order has none
abbrev pub media_of : Order → List ℕ
media_of (commands.Media media) = media.now
media_of order = []

-- its media is a part of a datagram of this many octets
abbrev pub LiesWithin : Command MediaSpan → ℕ → Type 0
LiesWithin (commands.Media span) octets = (span.start ≤ span.end) × (span.end ≤ octets)
LiesWithin command octets = Unit {0}

-- the octets of its media in a datagram; any other command has none
abbrev pub media_over : Command MediaSpan → List ℕ → List ℕ
media_over (commands.Media span) octets = slice_range octets span.start span.end
media_over command octets = []
