use Rattle.std.proofs.Common.{Err, ap, ◌∙◌}
use Rattle.std.proofs.lemmas.Result.{err_from_is_err_and}
use Rattle.clerk.proofs.Heats.{heat-refused}
use Rattle.clerk.proofs.paper.Readout.heat_estimated.Goals as goal

pub returns-in_err-estimated_heat : goal.returns-in_err-estimated_heat
returns-in_err-estimated_heat c =
    let p = err_from_is_err_and c.from_residual.result c.from_residual.ensures.1 in
    p.1 ∙ ap Err p.2 ∙ heat-refused c.args.self.now.estimate c.in-Some.estimate c.in_err-estimated_heat.field-0.0 c.in-Some.is c.requires c.in_err-estimated_heat.ensures
