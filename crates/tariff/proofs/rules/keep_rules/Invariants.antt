use Rattle.std.proofs.Common.{◌≡◌, true, take, drop}
use Rattle.tariff.specs.Rows.{rows_good, rows_good_above}
use Rattle.tariff.proofs.rules.keep_rules.Given as goal

abbrev pub invariant-loop-i : goal.invariant-loop-i
invariant-loop-i l = (rows_good (take l.i l.rows) ≡ true) × (rows_good_above (take l.i l.rows) (drop l.i l.rows) ≡ rows_good l.rows)
