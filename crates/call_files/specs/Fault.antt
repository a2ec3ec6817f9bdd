-- A fault as a number, for threads that share it.
use Rattle.std.specs.Prelude.{ℕ, ◌+◌, ℤ, Option, Some, None}
use Rattle.std.specs.Int.{w32, cast_unsigned}
use Rattle.call_files.specs.declared.fault.Fault.{Fault}

-- 1 without an error number; otherwise that number's 32 bits, from 2 on
abbrev pub number_of_code : Option ℤ → ℕ
number_of_code None = 1
number_of_code (Some code) = 2 + cast_unsigned w32 code

abbrev pub number_of : Fault → ℕ
number_of fault = number_of_code fault.code
