-- Formats of voice ("Media Formats").
use Rattle.std.specs.Prelude.{ℕ, Bool, ◌==◌, ◌&&◌, true, false, Option, None, Some, if◌then◌else◌}
use Rattle.call_signals.specs.declared.format.Format.{Format}
use Rattle.call_signals.specs.declared.format.Format.TheVariants.{Gsm, Ulaw, Alaw}
use Rattle.call_signals.specs.declared.format.Formats.{Formats}

-- the one bit of a format, in a FORMAT, a CAPABILITY and a voice frame's subclass
abbrev pub format_bit : Format → ℕ
format_bit Gsm = 0x02
format_bit Ulaw = 0x04
format_bit Alaw = 0x08

-- the format of a bit
abbrev pub format_of_bit : ℕ → Option Format
format_of_bit bit =
    if bit == format_bit Gsm then Some Gsm
    else if bit == format_bit Ulaw then Some Ulaw
    else if bit == format_bit Alaw then Some Alaw
    else None

abbrev pub has_format : Formats → Format → Bool
has_format formats Gsm = formats.gsm
has_format formats Ulaw = formats.ulaw
has_format formats Alaw = formats.alaw

-- the format of the lowest bit
abbrev pub lowest_format : Formats → Option Format
lowest_format formats =
    if formats.gsm then Some Gsm else if formats.ulaw then Some Ulaw else if formats.alaw then Some Alaw else None

-- the two formats are the same
abbrev pub same_format : Format → Format → Bool
same_format Gsm Gsm = true
same_format Ulaw Ulaw = true
same_format Alaw Alaw = true
same_format _ _ = false

-- one format and no other
abbrev pub format_alone : Format → Formats
format_alone format = record { gsm = same_format format Gsm; ulaw = same_format format Ulaw; alaw = same_format format Alaw }

-- the formats that both have
abbrev pub formats_of_both : Formats → Formats → Formats
formats_of_both formats other = record {
  gsm = formats.gsm && other.gsm;
  ulaw = formats.ulaw && other.ulaw;
  alaw = formats.alaw && other.alaw;
}

-- a format if it is one of them, otherwise the one of the lowest bit
abbrev pub format_among : Formats → Format → Option Format
format_among formats format = if has_format formats format then Some format else lowest_format formats
