use Rattle.std.proofs.Common.{Err, ap, ◌∙◌, arith}
use Rattle.std.proofs.lemmas.Result.{err_from_is_err_and}
use Rattle.std.proofs.lemmas.Int.{ints}
use Rattle.sharing.specs.declared.refusal.Refusal.{Refusal}
use Rattle.tariff.proofs.Period.{accepted_bounded, one_day, no_more, bad_line}
use Rattle.tariff.proofs.weather.period_mean.Goals as goal
use Rattle.tariff.proofs.weather.period_mean.Goals.{in-Some, in_default}

pub returns-in_err-tenths-clause-value : goal.returns-in_err-tenths-clause-value
returns-in_err-tenths-clause-value c =
    let p = err_from_is_err_and c.from_residual.result c.from_residual.ensures.1 in
    p.1 ∙ ap (λ (f : Refusal). Err f) p.2 ∙ bad_line c.args.lines.now c.loop-line.line-index _ _ c.loop-line.invariant _ c.loop-line-test.true _ c.in_err-tenths.ensures

pub overflow_add-sum : goal.overflow_add-sum
overflow_add-sum c =
    let bounded = accepted_bounded _ _ c.in-Some.tenths c.in_ok-tenths.ensures c.in-Some.is in
    omega (arith, ints, c.loop-line.invariant.few)

pub loop-line-preserved : goal.loop-line-preserved
loop-line-preserved c =
    let ls = c.args.lines.now in
    let i = c.loop-line.line-index in
    elim c.match-branch-2.branch [
      | in-Some w ↦
          let bounded = accepted_bounded _ _ w.in-Some.tenths c.in_ok-tenths.ensures w.in-Some.is in
          one_day ls i _ _ c.loop-line.invariant _ c.loop-line-test.true _ c.in_ok-tenths.ensures w.in-Some.tenths _ _ w.in-Some.is (omega (arith, ints, w.sum-is)) w.days-is
      | in_default w ↦
          rw (w.sum-is, w.days-is) (no_more ls i _ _ c.loop-line.invariant _ c.loop-line-test.true _ c.in_ok-tenths.ensures w.in_default.is)
    ]
