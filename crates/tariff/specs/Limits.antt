-- The limits of days and temperatures, each named once here and once in src/limits.rt.
use Rattle.std.specs.Prelude.{from_bits, Float, ℕ}
use Rattle.std.specs.Float.{binary64}

-- the days of the longest month, and the lines of a period
abbrev pub most_days : ℕ
most_days = 31

-- a temperature in °C is from -50 to 50: the float 50
abbrev pub most_degrees : Float
most_degrees = from_bits binary64 0x4049_0000_0000_0000

-- the same in tenths
abbrev pub most_tenths : ℕ
most_tenths = 500
