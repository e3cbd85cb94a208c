-- The limits of tables and stored numbers, each named once here and once in src/limits.rt.
use Rattle.std.specs.Prelude.{ℕ}

-- the places that a table may have at most: rows
abbrev pub most_rows : ℕ
most_rows = 256

-- recipients
abbrev pub most_recipients : ℕ
most_recipients = 4_096

-- nodes
abbrev pub most_nodes : ℕ
most_nodes = 1_024

-- objects of all nodes together
abbrev pub most_objects_in_all : ℕ
most_objects_in_all = 8_192

-- journal lines
abbrev pub most_lines : ℕ
most_lines = 65_536

-- how many months there are, from January 2000; months are numbered below it
abbrev pub month_count : ℕ
month_count = 1_200

-- a register, MJ
abbrev pub most_register : ℕ
most_register = 1_000_000_000_000

-- faults and repairs of a node since its last posting
abbrev pub most_events : ℕ
most_events = 62

-- the heat (MJ) and each amount (grosz) of a journal line, either way
abbrev pub most_amount : ℕ
most_amount = 1_000_000_000_000

-- a balance, either way, grosz
abbrev pub most_balance : ℕ
most_balance = 100_000_000_000_000_000
