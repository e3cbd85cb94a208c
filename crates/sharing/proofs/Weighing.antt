-- The weights that a key gives to objects.
use Rattle.std.proofs.Common.{◌≡◌, ℕ, ◌≤◌, Bool, true, false, not, List, [], ◌∷◌, is_some, IfSome, Some, None, Ok, Option, unwrap_or, arith}
use Rattle.std.specs.List.{list_all, AllByRecursion}
use Rattle.std.proofs.ByRecursion.{All-map}
use Rattle.std.proofs.lemmas.Bool.{and_parts, leb-true}
use Rattle.arrayvec.specs.ArrayVec.{ArrayVec}
use Rattle.sharing.specs.Amounts.{per_object}
use Rattle.sharing.specs.Keys.{Key, asked, in_range, weights_of}
use Rattle.sharing.specs.Limits.{most_quantity, most_power, most_area}
use Rattle.sharing.specs.Refusals.{NoWeight, decided}
use Rattle.sharing.specs.declared.key.Basis.{Basis}
use Rattle.sharing.proofs.Passing.{all_from_pass}

found_low : (o : Option ℕ) → IfSome o (λ w. w ≤ most_quantity) → unwrap_or o 0 ≤ most_quantity
found_low None h = omega arith
found_low (Some w) h = h

-- the weights of objects within their limits are within theirs
pub weights-light : (key : Key) (objects : List Basis)
    → ((object power area : ℕ) → power ≤ most_power → area ≤ most_area → IfSome (key object power area) (λ w. w ≤ most_quantity))
    → list_all in_range objects ≡ true → AllByRecursion (λ w. w ≤ most_quantity) (weights_of key objects)
weights-light key objects light range =
    let low : (o : Basis) → in_range o ≡ true → unwrap_or (asked key o) 0 ≤ most_quantity =
    λ o e. let both = and_parts _ _ e in
    found_low (asked key o) (light o.object o.power o.area (leb-true o.power most_power both.0) (leb-true o.area most_area both.1)) in
    All-map (λ w. w ≤ most_quantity) (λ o. unwrap_or (asked key o) 0) objects (all_from_pass in_range (λ o. unwrap_or (asked key o) 0 ≤ most_quantity) low objects range)

-- what the weights are, where every object has one
pub weighed : (key : Key) (objects : List Basis) (weights : ArrayVec ℕ)
    → Ok weights ≡ decided ((not (list_all (λ o. is_some (asked key o)) objects), NoWeight) ∷ []) (per_object (weights_of key objects)) → weights.items ≡ weights_of key objects
weighed key objects weights e = by (list_all (λ o. is_some (asked key o)) objects) e
  where
    by : (b : Bool) → Ok weights ≡ decided ((not b, NoWeight) ∷ []) (per_object (weights_of key objects)) → weights.items ≡ weights_of key objects
    by true e = cc
    by false e = cc
