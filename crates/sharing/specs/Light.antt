-- The weights of sub-meters are within the limit of a weight.
use Rattle.std.proofs.lemmas.Bool.{cond_both, leb-true}
use Rattle.std.specs.Prelude.{List, ℕ, ◌≤◌, eqb, leb, Option, Some, None, option_and_then, IfSome, find}
use Rattle.sharing.specs.Keys.{allowed, by_sub_meter}
use Rattle.sharing.specs.Limits.{most_quantity}
use Rattle.sharing.specs.declared.key.SubReading.{SubReading}

allowed_light : (heat : ℕ) → IfSome (allowed heat) (λ w. w ≤ most_quantity)
allowed_light heat =
    cond_both (leb heat most_quantity) (Some heat) None (λ o. IfSome o (λ w. w ≤ most_quantity)) (λ e. leb-true heat most_quantity e) (λ _. tt)

-- of what was found
found_light : (found : Option SubReading) → IfSome (option_and_then (λ r. allowed r.heat.0) found) (λ w. w ≤ most_quantity)
found_light None = tt
found_light (Some r) = allowed_light r.heat.0

-- of every list of readings
pub by_sub_meter_light : (rs : List SubReading) (object power area : ℕ) → IfSome (by_sub_meter rs object power area) (λ w. w ≤ most_quantity)
by_sub_meter_light rs object power area = found_light (find (λ r. eqb r.object object) rs)
