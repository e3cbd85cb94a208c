-- Worked cases of sharing, computed from the definitions.
use Rattle.std.specs.Prelude.{◌≡◌, [], ◌∷◌}
use Rattle.sharing.specs.Cuts.{shared}
use Rattle.sharing.specs.Whole.{down, nearest}

-- each case by what it shows
pub record Worked : Type 0 where
  -- 100,000 over three equal weights, by nearest: the odd unit goes to the second
  pub thirds_nearest : shared nearest 100_000 (1 ∷ 1 ∷ 1 ∷ []) ≡ 33_333 ∷ 33_334 ∷ 33_333 ∷ []
  -- and by down: it goes to the third
  pub thirds_down : shared down 100_000 (1 ∷ 1 ∷ 1 ∷ []) ≡ 33_333 ∷ 33_333 ∷ 33_334 ∷ []
