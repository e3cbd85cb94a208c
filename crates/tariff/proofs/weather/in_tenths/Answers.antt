use Rattle.std.proofs.Common.{◌≡◌, ◌∙◌, w32, SFits, rules}
use Rattle.std.proofs.lemmas.Int.{to_z-of_z}
use Rattle.tariff.specs.Weather.{tenths}
use Rattle.tariff.proofs.Floats.{tenths-whole}
use Rattle.tariff.proofs.weather.in_tenths.Goals as goal

pub returns : goal.returns
returns c =
    let r = c.saturating_f64_to_i32.result in
    let fits : SFits w32 r = search rules in
    let whole = tenths-whole c.args.celsius c.requires in
    let same : r ≡ tenths c.args.celsius = cc in
    to_z-of_z w32 r fits ∙ same
