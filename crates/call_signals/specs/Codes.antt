-- The codes of frames, by their names ("Frame Types", "Control Frames", "IAX Frames").
use Rattle.std.specs.Prelude.{ℕ}

abbrev pub FRAME_DTMF : ℕ
FRAME_DTMF = 1

abbrev pub FRAME_VOICE : ℕ
FRAME_VOICE = 2

abbrev pub FRAME_CONTROL : ℕ
FRAME_CONTROL = 4

abbrev pub FRAME_IAX : ℕ
FRAME_IAX = 6

abbrev pub CONTROL_HANGUP : ℕ
CONTROL_HANGUP = 1

abbrev pub CONTROL_RINGING : ℕ
CONTROL_RINGING = 3

abbrev pub CONTROL_ANSWER : ℕ
CONTROL_ANSWER = 4

abbrev pub CONTROL_BUSY : ℕ
CONTROL_BUSY = 5

abbrev pub CONTROL_CONGESTION : ℕ
CONTROL_CONGESTION = 8

abbrev pub CONTROL_PROGRESS : ℕ
CONTROL_PROGRESS = 0x0e

abbrev pub CONTROL_PROCEEDING : ℕ
CONTROL_PROCEEDING = 0x0f

abbrev pub IAX_NEW : ℕ
IAX_NEW = 1

abbrev pub IAX_PING : ℕ
IAX_PING = 2

abbrev pub IAX_PONG : ℕ
IAX_PONG = 3

abbrev pub IAX_ACK : ℕ
IAX_ACK = 4

abbrev pub IAX_HANGUP : ℕ
IAX_HANGUP = 5

abbrev pub IAX_REJECT : ℕ
IAX_REJECT = 6

abbrev pub IAX_ACCEPT : ℕ
IAX_ACCEPT = 7

abbrev pub IAX_AUTHREQ : ℕ
IAX_AUTHREQ = 8

abbrev pub IAX_AUTHREP : ℕ
IAX_AUTHREP = 9

abbrev pub IAX_INVAL : ℕ
IAX_INVAL = 0x0a

abbrev pub IAX_LAGRQ : ℕ
IAX_LAGRQ = 0x0b

abbrev pub IAX_LAGRP : ℕ
IAX_LAGRP = 0x0c

abbrev pub IAX_REGREQ : ℕ
IAX_REGREQ = 0x0d

abbrev pub IAX_REGREJ : ℕ
IAX_REGREJ = 0x10

abbrev pub IAX_REGREL : ℕ
IAX_REGREL = 0x11

abbrev pub IAX_VNAK : ℕ
IAX_VNAK = 0x12

abbrev pub IAX_TXCNT : ℕ
IAX_TXCNT = 0x17

abbrev pub IAX_TXACC : ℕ
IAX_TXACC = 0x18

abbrev pub IAX_QUELCH : ℕ
IAX_QUELCH = 0x1c

abbrev pub IAX_UNQUELCH : ℕ
IAX_UNQUELCH = 0x1d

abbrev pub IAX_POKE : ℕ
IAX_POKE = 0x1e

abbrev pub IAX_UNSUPPORT : ℕ
IAX_UNSUPPORT = 0x21

-- chan_iax2's; RFC 5456 has none
abbrev pub IAX_CALLTOKEN : ℕ
IAX_CALLTOKEN = 0x28
