-- The weights that sharing keys give to objects.
use Rattle.std.specs.Prelude.{Bool, cond, not, ◌&&◌, ◌||◌, List, [], ◌∷◌, map, ℕ, ◌≤◌, eqb, leb, ltb, length, Option, Some, None, is_some, unwrap_or, option_and_then, IfSome, sum, find}
use Rattle.std.specs.List.{list_all}
use Rattle.sharing.specs.Limits.{most_quantity, most_power, most_area, most_objects}
use Rattle.sharing.specs.Refusals.{Refusal, OutOfRange, NodeFull, NoWeight}
use Rattle.sharing.specs.declared.key.Basis.{Basis}
use Rattle.sharing.specs.declared.key.SubReading.{SubReading}

-- a key by its meaning: for an object's number, power and area one weight or none
abbrev pub Key : Type 0
Key = ℕ → ℕ → ℕ → Option ℕ

-- by ordered power
abbrev pub by_power : Key
by_power object power area = Some power

-- by floor area
abbrev pub by_area : Key
by_area object power area = Some area

-- the heat of a sub-meter, unless it is above the limit of a weight
abbrev pub allowed : ℕ → Option ℕ
allowed heat = cond (leb heat most_quantity) (Some heat) None

-- by sub-meter: the first reading that names the object counts, and an object that none names has no weight
abbrev pub by_sub_meter : List SubReading → Key
by_sub_meter readings object power area = option_and_then (λ r. allowed r.heat.0) (find (λ r. eqb r.object object) readings)

-- what every key must show: its weights are within the limit wherever power and area are within theirs
abbrev pub Light : {X : Type 0} → (X → Key) → Type 0
Light {X} weight = (x : X) (object power area : ℕ) → power ≤ most_power → area ≤ most_area → IfSome (weight x object power area) (λ w. w ≤ most_quantity)

-- the weight that a key has for an object
abbrev pub asked : Key → Basis → Option ℕ
asked key o = key o.object o.power o.area

-- the weights of objects, in their order
abbrev pub weights_of : Key → List Basis → List ℕ
weights_of key objects = map (λ o. unwrap_or (asked key o) 0) objects

-- power and area are within their limits
abbrev pub in_range : Basis → Bool
in_range o = leb o.power most_power && leb o.area most_area

-- why objects are not weighed
abbrev pub weighing_why : Key → List Basis → List (Bool × Refusal)
weighing_why key objects =
    (not (list_all in_range objects), OutOfRange)
    ∷ (ltb most_objects (length objects), NodeFull)
    ∷ (not (list_all (λ o. is_some (asked key o)) objects) || eqb (sum (weights_of key objects)) 0, NoWeight)
    ∷ []
