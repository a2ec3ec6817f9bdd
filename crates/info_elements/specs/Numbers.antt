-- The numbers of information elements ("Information Elements").
use Rattle.std.specs.Prelude.{ℕ}

abbrev pub CALLED_NUMBER : ℕ
CALLED_NUMBER = 0x01

abbrev pub CALLING_NUMBER : ℕ
CALLING_NUMBER = 0x02

abbrev pub CALLING_NAME : ℕ
CALLING_NAME = 0x04

abbrev pub USERNAME : ℕ
USERNAME = 0x06

abbrev pub CAPABILITY : ℕ
CAPABILITY = 0x08

abbrev pub FORMAT : ℕ
FORMAT = 0x09

abbrev pub VERSION : ℕ
VERSION = 0x0b

abbrev pub AUTHMETHODS : ℕ
AUTHMETHODS = 0x0e

abbrev pub CHALLENGE : ℕ
CHALLENGE = 0x0f

abbrev pub MD5_RESULT : ℕ
MD5_RESULT = 0x10

abbrev pub CAUSE : ℕ
CAUSE = 0x16

abbrev pub IAX_UNKNOWN : ℕ
IAX_UNKNOWN = 0x17

abbrev pub CALLINGPRES : ℕ
CALLINGPRES = 0x26

abbrev pub CALLINGTON : ℕ
CALLINGTON = 0x27

abbrev pub CALLINGTNS : ℕ
CALLINGTNS = 0x28

abbrev pub CAUSECODE : ℕ
CAUSECODE = 0x2a

-- chan_iax2's; RFC 5456 has none
abbrev pub CALLTOKEN : ℕ
CALLTOKEN = 0x36
