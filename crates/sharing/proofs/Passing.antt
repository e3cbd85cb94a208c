-- A loop that looks for an element which fails a test.
use Rattle.std.proofs.Common.{◌≡◌, ℕ, suc, ◌+◌, ◌<◌, ◌≤◌, Bool, true, false, ◌&&◌, List, [], ◌∷◌, length, get_or, drop, refl, ap, ◌∙◌, arith}
use Rattle.std.specs.List.{list_all, AllByRecursion}
use Rattle.std.proofs.ByRecursion.{All-get_or}
use Rattle.std.proofs.lemmas.List.{at_drop_more}
use Rattle.std.proofs.lemmas.Bool.{and_from, and_parts}

module _ {X : Type 0} (p : X → Bool) (xs : List X) (i : ℕ) where
  pub one_fails : (d : X) → i < length xs → p (get_or xs i d) ≡ false → list_all p (drop i xs) ≡ false
  one_fails d within fails = at_drop_more (list_all p) xs i d within ∙ ap (λ b. b && list_all p (drop (i + 1) xs)) fails

  pub one_passes : (d : X) → i < length xs → p (get_or xs i d) ≡ true → list_all p (drop i xs) ≡ list_all p (drop (i + 1) xs)
  one_passes d within passes = at_drop_more (list_all p) xs i d within ∙ ap (λ b. b && list_all p (drop (i + 1) xs)) passes

-- where all pass, each does
pub all_from_pass : {X : Type 0} (p : X → Bool) (P : X → Type 0) → ((x : X) → p x ≡ true → P x) → (xs : List X) → list_all p xs ≡ true → AllByRecursion P xs
all_from_pass p P each [] e = tt
all_from_pass p P each (x ∷ xs) e = let both = and_parts (p x) (list_all p xs) e in (each x both.0, all_from_pass p P each xs both.1)

-- and the other way round
pub pass_from_all : {X : Type 0} (p : X → Bool) → (xs : List X) → AllByRecursion (λ x. p x ≡ true) xs → list_all p xs ≡ true
pass_from_all p [] each = refl
pass_from_all p (x ∷ xs) each = and_from (p x) (list_all p xs) each.0 (pass_from_all p xs each.1)

-- where all pass, the one at a place does
pub pass_at : {X : Type 0} (p : X → Bool) (xs : List X) (i : ℕ) (d : X) → i < length xs → list_all p xs ≡ true → p (get_or xs i d) ≡ true
pass_at p xs i d within e = All-get_or (λ x. p x ≡ true) xs i d within (all_from_pass p (λ x. p x ≡ true) (λ x h. h) xs e)

-- all pass where each does
pub pass_from_each : {X : Type 0} (p : X → Bool) (d : X) (xs : List X) → ((i : ℕ) → i < length xs → p (get_or xs i d) ≡ true) → list_all p xs ≡ true
pass_from_each p d [] each = refl
pass_from_each p d (x ∷ xs) each = and_from (p x) (list_all p xs) (each 0 (omega arith)) (pass_from_each p d xs (λ i within. each (suc i) (omega arith)))
