-- The limits of the quantities, each named once here and once in src/limits.rt.
use Rattle.std.specs.Prelude.{ℕ}

-- a month's heat (MJ) or water (litres), and a weight
abbrev pub most_quantity : ℕ
most_quantity = 100_000_000

-- ordered power, kW
abbrev pub most_power : ℕ
most_power = 100_000

-- floor area, m²
abbrev pub most_area : ℕ
most_area = 1_000_000

-- the objects of one node
abbrev pub most_objects : ℕ
most_objects = 64

-- what a rounding rule is asked: a number
abbrev pub most_dividend : ℕ
most_dividend = 3_000_000_000_000_000_000

-- over a divisor of at least 1
abbrev pub most_divisor : ℕ
most_divisor = 30_000_000_000
