-- A total shared by weights: when it is refused, and what holds of every sharing.
use Rattle.std.specs.Prelude.{◌≡◌, Bool, not, ◌||◌, List, [], ◌∷◌, map, ℕ, ◌+◌, ◌*◌, ◌<◌, eqb, leb, ltb, length, get_or, sum}
use Rattle.std.specs.List.{list_all}
use Rattle.sharing.specs.Cuts.{Cuts}
use Rattle.sharing.specs.Limits.{most_quantity, most_objects}
use Rattle.sharing.specs.Refusals.{Refusal, OutOfRange, NodeFull, NoWeight}
use Rattle.sharing.specs.Rounds.{Rule}

-- why a total is not shared by weights
abbrev pub sharing_why : ℕ → List ℕ → List (Bool × Refusal)
sharing_why total weights =
    (ltb most_quantity total || not (list_all (λ w. leb w most_quantity) weights), OutOfRange)
    ∷ (ltb most_objects (length weights), NodeFull)
    ∷ (eqb (sum weights) 0, NoWeight)
    ∷ []

-- a part is less than 2 from total × weight / all, both sides taken times the sum of all weights
abbrev pub Close : ℕ → ℕ → ℕ → ℕ → Type 0
Close total all weight part = (part * all < total * weight + 2 * all) × (total * weight < part * all + 2 * all)

-- what holds of every sharing, by every rounding rule
pub record Fair (rule : Rule) (total : ℕ) (weights parts : List ℕ) : Type 0 where
  -- the parts are those of the cut: none is negative, and no rounding builds on another
  pub cuts : Cuts (λ n. rule n (sum weights)) (map (λ w. total * w) weights) parts
  -- they add up to the total
  pub adds : sum parts ≡ total
  -- and each is less than 2 from its exact share
  pub near : (i : ℕ) → i < length weights → Close total (sum weights) (get_or weights i 0) (get_or parts i 0)
