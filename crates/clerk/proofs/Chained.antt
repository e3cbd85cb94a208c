-- Conditions of calls that follow one another.
use Rattle.std.proofs.Common.{◌≡◌, Bool, true, false, cond, List, [], ◌∷◌, ◌++◌, Option, Some, None, sym, refl, ap, ◌∙◌}
use Rattle.std.specs.Option.{option_or}
use Rattle.sharing.specs.Refusals.{refusal}
use Rattle.sharing.specs.declared.refusal.Refusal.{Refusal}

-- of two lists of conditions the first is picked from, and else the second
refusal-append : (xs ys : List (Bool × Refusal)) → refusal (xs ++ ys) ≡ option_or (refusal xs) (refusal ys)
refusal-append [] ys = refl
refusal-append (x ∷ xs) ys = by x.0 (refusal-append xs ys)
  where
    by : (b : Bool) → refusal (xs ++ ys) ≡ option_or (refusal xs) (refusal ys) → cond b (Some x.1) (refusal (xs ++ ys)) ≡ option_or (cond b (Some x.1) (refusal xs)) (refusal ys)
    by true e = refl
    by false e = e

-- one that holds settles it
pub refused_first : (xs ys : List (Bool × Refusal)) (f : Refusal) → refusal xs ≡ Some f → refusal (xs ++ ys) ≡ Some f
refused_first xs ys f e = refusal-append xs ys ∙ ap (λ o. option_or o (refusal ys)) e

-- those that come later are looked at where none before holds
pub refused_later : (xs ys : List (Bool × Refusal)) → refusal xs ≡ None → refusal (xs ++ ys) ≡ refusal ys
refused_later xs ys e = refusal-append xs ys ∙ ap (λ o. option_or o (refusal ys)) e

-- where none holds at all, none does before and none after
pub refused_nowhere : (xs ys : List (Bool × Refusal)) → refusal (xs ++ ys) ≡ None → (refusal xs ≡ None) × (refusal ys ≡ None)
refused_nowhere xs ys e = apart (refusal xs) (refusal ys) (sym (refusal-append xs ys) ∙ e)
  where
    apart : (o p : Option Refusal) → option_or o p ≡ None → (o ≡ None) × (p ≡ None)
    apart None p e = (refl, e)
    apart (Some f) p e = absurd cc
