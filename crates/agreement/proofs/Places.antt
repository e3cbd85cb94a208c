-- What holds place by place of lists that get an item more, or another one.
use Rattle.std.proofs.Common.{◌≡◌, ℕ, ◌<◌, List, [], ◌∷◌, ◌++◌, length, get_or, set, sym, refl, ◌∙◌, ⊎_elim, arith}
use Rattle.std.proofs.lemmas.List.{places, get_or_past, get_or_push, get_or-set_same, get_or-set_other, length_push}
use Rattle.std.proofs.lemmas.Bool.{cases_eq}

module _ {X : Type 0} (d : X) where
  -- past the end, one item more changes nothing
  pub push_other : (xs : List X) (v : X) (n : ℕ) → (n ≡ length xs → ⊥) → get_or (xs ++ v ∷ []) n d ≡ get_or xs n d
  push_other xs v n other = grind (arith, places, get_or_past {X = X}, length_push {X = X})

  module _ (xs : List X) (v : X) (P : ℕ → X → Type 0) where
    -- one item more
    pub push_cases : P (length xs) v → ((n : ℕ) → P n (get_or xs n d)) → (n : ℕ) → P n (get_or (xs ++ v ∷ []) n d)
    push_cases new old n =
        ⊎_elim (λ (here : n ≡ length xs). rw (here, get_or_push xs v d (length xs) refl) new)
        (λ (other : n ≡ length xs → ⊥). rw (push_other xs v n other) (old n))
        (cases_eq n (length xs))

    -- another item at k
    pub set_cases : (k : ℕ) → k < length xs → P k v → ((n : ℕ) → (n ≡ k → ⊥) → P n (get_or xs n d)) → (n : ℕ) → P n (get_or (set xs k v) n d)
    set_cases k within new old n =
        ⊎_elim (λ (here : n ≡ k). rw (here, get_or-set_same xs k v d within) new)
        (λ (other : n ≡ k → ⊥). rw (get_or-set_other xs k n v d other) (old n other))
        (cases_eq n k)

-- the same of two lists that are as long
module _ {X Y : Type 0} (d : X) (e : Y) (xs : List X) (ys : List Y) (level : length xs ≡ length ys) (v : X) (u : Y) (P : X → Y → Type 0) (new : P v u) (old : (n : ℕ) → P (get_or xs n d) (get_or ys n e)) where
  pub push_both : (n : ℕ) → P (get_or (xs ++ v ∷ []) n d) (get_or (ys ++ u ∷ []) n e)
  push_both n =
      ⊎_elim (λ (here : n ≡ length xs). rw (get_or_push xs v d n (sym here), get_or_push ys u e n (sym level ∙ sym here)) new)
      (λ (other : n ≡ length xs → ⊥). rw (push_other d xs v n other, push_other e ys u n (λ same. other (same ∙ sym level))) (old n))
      (cases_eq n (length xs))

  pub set_both : (k : ℕ) → k < length xs → (n : ℕ) → P (get_or (set xs k v) n d) (get_or (set ys k u) n e)
  set_both k within =
      set_cases d xs v (λ n x. P x (get_or (set ys k u) n e)) k within (rw (get_or-set_same ys k u e (omega (arith, level))) new)
      (λ n other. rw (get_or-set_other ys k n u e other) (old n))
