-- The conditions of every call of this crate stand in the order of their numbers, so that the smallest is answered.
use Rattle.std.specs.Prelude.{List, ℕ}
use Rattle.sharing.specs.Cuts.{cut_why}
use Rattle.sharing.specs.Keys.{Key, weighing_why}
use Rattle.sharing.specs.Refusals.{Ascending}
use Rattle.sharing.specs.Sharings.{sharing_why}
use Rattle.sharing.specs.declared.key.Basis.{Basis}

-- each call's conditions ascend, whatever it is given
pub record Ascend : Type 0 where
  -- a cut's
  pub cutting : (addends : List ℕ) → Ascending (cut_why addends)
  -- a sharing's
  pub sharing : (total : ℕ) (weights : List ℕ) → Ascending (sharing_why total weights)
  -- a weighing's
  pub weighing : (key : Key) (objects : List Basis) → Ascending (weighing_why key objects)
