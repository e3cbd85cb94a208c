-- Lists by their places, and signed sums.
use Rattle.std.proofs.Common.{◌≡◌, ℕ, suc, ◌<◌, List, [], ◌∷◌, ◌++◌, map, length, get_or, ℤ, pos, ◌+ℤ◌, nat_abs, sum, sym, refl, ap, ◌∙◌, arith}
use Rattle.std.specs.List.{range_with_len, All, AllPairs}
use Rattle.std.proofs.lemmas.List.FromFn.{fill_by_all, get_or-map-range_with_len, get_or-range_with_len, length-map-range_with_len, length-range_with_len}
use Rattle.std.proofs.lemmas.List.{get_or-map, length-map}
use Rattle.std.proofs.lemmas.Int.{ints}
use Rattle.sharing.proofs.Parts.{sum-cons}
use Rattle.book.specs.Journal.{summed}

-- two functions that agree on a list
pub map_same : {X Y : Type 0} (f g : X → Y) (xs : List X) → All (λ x. f x ≡ g x) xs → map f xs ≡ map g xs
map_same f g [] same = refl
map_same f g (x ∷ xs) same = ap (λ y. y ∷ map f xs) (same 0 x (omega arith)) ∙ ap (λ ys. g x ∷ ys) (map_same f g xs (λ k d low. same (suc k) d (omega arith)))

pub map-twice : {X Y Z : Type 0} (g : Y → Z) (f : X → Y) (xs : List X) → map g (map f xs) ≡ map (λ x. g (f x)) xs
map-twice g f [] = refl
map-twice g f (x ∷ xs) = ap (λ ys. g (f x) ∷ ys) (map-twice g f xs)

-- a list read place by place
pub by_place : {X Y : Type 0} (g : X → Y) (xs : List X) (d : X) (n : ℕ) → length xs ≡ n → map (λ i. g (get_or xs i d)) (range_with_len 0 n) ≡ map g xs
by_place g xs d n long =
    sym (fill_by_all (λ i. g (get_or xs i d)) (map g xs) n (g d) (length-map xs g ∙ long) (λ k within. get_or-map g xs k d (g d) (omega arith)))

-- the numbers below n, and what is made of them
pub all_below : (n : ℕ) → All (λ i. i < n) (range_with_len 0 n)
all_below n k d low = let long = length-range_with_len 0 n in omega (arith, get_or-range_with_len 0 n k d (omega arith))

pub all_made_below : {X : Type 0} (P : X → Type 0) (f : ℕ → X) (n : ℕ) → ((i : ℕ) → i < n → P (f i)) → All P (map f (range_with_len 0 n))
all_made_below P f n each k d low =
    let within : k < n = omega (arith, length-map-range_with_len f 0 n) in
    rw (get_or-map-range_with_len f 0 n k k d within (omega arith)) (each k within)

pub ascending : (n : ℕ) → AllPairs (λ i j. i < j) (range_with_len 0 n)
ascending n i j d less low =
    let long = length-range_with_len 0 n in
    omega (arith, get_or-range_with_len 0 n i d (omega arith), get_or-range_with_len 0 n j d (omega arith))

-- signed sums
pub summed-map : {X Y : Type 0} (f : Y → ℤ) (g : X → Y) (xs : List X) → summed f (map g xs) ≡ summed (λ x. f (g x)) xs
summed-map f g [] = refl
summed-map f g (x ∷ xs) = ap (λ z. f (g x) +ℤ z) (summed-map f g xs)

pub summed_same : {X : Type 0} (f g : X → ℤ) (xs : List X) → All (λ x. f x ≡ g x) xs → summed f xs ≡ summed g xs
summed_same f g xs same = sym (summed-map (λ z. z) f xs) ∙ ap (summed (λ z. z)) (map_same f g xs same) ∙ summed-map (λ z. z) g xs

pub summed-append : {X : Type 0} (f : X → ℤ) (xs ys : List X) → summed f (xs ++ ys) ≡ summed f xs +ℤ summed f ys
summed-append f [] ys = omega (arith, ints)
summed-append f (x ∷ xs) ys = let rest = summed-append f xs ys in omega (arith, ints)

pub summed-none : {X : Type 0} (f : X → ℤ) (xs : List X) → All (λ x. f x ≡ pos 0) xs → summed f xs ≡ pos 0
summed-none f [] none = refl
summed-none f (x ∷ xs) none = let here = none 0 x (omega arith) in let rest = summed-none f xs (λ k d low. none (suc k) d (omega arith)) in omega (arith, ints)

pub summed-pos : (xs : List ℕ) → summed (λ z. z) (map pos xs) ≡ pos (sum xs)
summed-pos [] = refl
summed-pos (x ∷ xs) = let rest = summed-pos xs in let more = sum-cons x xs in omega (arith, ints)

pub abs_pos : (xs : List ℕ) → map nat_abs (map pos xs) ≡ xs
abs_pos [] = refl
abs_pos (x ∷ xs) = ap (λ ys. x ∷ ys) (abs_pos xs)
