use Rattle.std.proofs.lemmas.Result.{err_from_is_err_and}
use Rattle.readings.specs.Texts.{text}
use Rattle.readings.proofs.Saying.{second_bad, third_bad, all_good}
use Rattle.readings.proofs.reading.read_values.Goals as goal

pub returns-in_err-value-2 : goal.returns-in_err-value-2
returns-in_err-value-2 c =
    let p = err_from_is_err_and c.from_residual-in_err-value-2.result c.from_residual-in_err-value-2.ensures.1 in
    rw (p.1, p.2) (second_bad c.args.columns (text c.args.line) _ _ _ c.in-Some.ensures _ _ c.in_ok-value.ensures c.in_err-value-2.ensures)

pub returns-in_err-value-3 : goal.returns-in_err-value-3
returns-in_err-value-3 c =
    let p = err_from_is_err_and c.from_residual-in_err-value-3.result c.from_residual-in_err-value-3.ensures.1 in
    rw (p.1, p.2) (third_bad c.args.columns (text c.args.line) _ _ _ c.in-Some.ensures _ _ _ c.in_ok-value.ensures c.in_ok-value-2.ensures c.in_err-value-3.ensures)

pub returns : goal.returns
returns c =
    simp (c.of.ensures, c.of-2.ensures, c.of-3.ensures)
    (all_good c.args.columns (text c.args.line) _ _ _ c.in-Some.ensures _ _ _ c.in_ok-value.ensures c.in_ok-value-2.ensures c.in_ok-value-3.ensures)
