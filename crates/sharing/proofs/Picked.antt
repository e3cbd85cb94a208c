-- Which refusal is answered.
use Rattle.std.proofs.Common.{◌≡◌, ℕ, ◌<◌, ◌≤◌, sym, refl, ap, ◌∙◌, subst, inl, inr, arith, Bool, true, false, cond, List, [], ◌∷◌, Option, Some, None, Ok, Err}
use Rattle.std.proofs.lemmas.Bool.{cond-false}
use Rattle.sharing.specs.Refusals.{Refusal, number, refusal, unless_refused, decided, Least, Smallest}
use Rattle.std.specs.List.{AllByRecursion}

-- nothing is refused where no condition holds
pub no_refusal : (why : List (Bool × Refusal)) → AllByRecursion (λ p. p.0 ≡ false) why → refusal why ≡ None
no_refusal [] h = refl
no_refusal (p ∷ ps) h = cond-false _ _ _ h.0 ∙ no_refusal ps h.1

pub accepted : {A : Type 0} (why : List (Bool × Refusal)) (x y : A) → AllByRecursion (λ p. p.0 ≡ false) why → x ≡ y → Ok x ≡ decided why y
accepted why x y h same = ap Ok same ∙ ap (λ o. unless_refused o y) (sym (no_refusal why h))

pub refused : {A : Type 0} (why : List (Bool × Refusal)) (f : Refusal) (x : A) → refusal why ≡ Some f → Err f ≡ decided why x
refused why f x e = sym (ap (λ o. unless_refused o x) e)

-- what a refused call says of its conditions
pub refusal_is : {A : Type 0} (why : List (Bool × Refusal)) (f : Refusal) (x : A) → Err f ≡ decided why x → refusal why ≡ Some f
refusal_is why f x e = told (refusal why) e
  where
    told : (o : Option Refusal) → Err f ≡ unless_refused o x → o ≡ Some f
    told None e = let z : ◌≡◌ {A = ℕ} 0 1 = cc in absurd (omega arith)
    told (Some g) e = cc

-- an accepted call has no refusal
pub not_refused : {A : Type 0} (why : List (Bool × Refusal)) (x y : A) → Ok y ≡ decided why x → refusal why ≡ None
not_refused why x y e = told (refusal why) e
  where
    told : (o : Option Refusal) → Ok y ≡ unless_refused o x → o ≡ None
    told None e = refl
    told (Some f) e = let z : ◌≡◌ {A = ℕ} 0 1 = cc in absurd (omega arith)

skipped : (b : Bool) (f : Refusal) (o : Option Refusal) → cond b (Some f) o ≡ None → (b ≡ false) × (o ≡ None)
skipped true f o e = let z : ◌≡◌ {A = ℕ} 0 1 = cc in absurd (omega arith)
skipped false f o e = (refl, e)

-- and no condition holds where nothing is refused
pub none_hold : (why : List (Bool × Refusal)) → refusal why ≡ None → AllByRecursion (λ p. p.0 ≡ false) why
none_hold [] e = tt
none_hold (p ∷ ps) e = let s = skipped p.0 p.1 (refusal ps) e in (s.0, none_hold ps s.1)

-- what holds of every refusal that is listed holds of the one picked
pub picked_from : (P : Refusal → Type 0) (why : List (Bool × Refusal)) (f : Refusal) → AllByRecursion (λ p. P p.1) why → refusal why ≡ Some f → P f
picked_from P [] f all e = let z : ◌≡◌ {A = ℕ} 0 1 = cc in absurd (omega arith)
picked_from P (p ∷ ps) f all e = by p.0 e (picked_from P ps f all.1)
  where
    by : (b : Bool) → cond b (Some p.1) (refusal ps) ≡ Some f → (refusal ps ≡ Some f → P f) → P f
    by true e later = let same : p.1 ≡ f = cc in subst P same all.0
    by false e later = later e

below : (n : ℕ) (ps : List (Bool × Refusal)) → AllByRecursion (λ q. n < number q.1) ps → AllByRecursion (λ q. q.0 ≡ true → n ≤ number q.1) ps
below n [] h = tt
below n (p ∷ ps) h = ((λ _. let k = h.0 in omega arith), below n ps h.1)

skip : (p : Bool × Refusal) (ps : List (Bool × Refusal)) (o : Option Refusal) → p.0 ≡ false → Least ps o → Least (p ∷ ps) o
skip p ps None e h = (e, h)
skip p ps (Some g) e h = (inr h.0, ((λ t. let z : ◌≡◌ {A = ℕ} 0 1 = cc in omega arith), h.1))

pick : (b : Bool) (p : Bool × Refusal) (ps : List (Bool × Refusal)) → p.0 ≡ b → AllByRecursion (λ q. number p.1 < number q.1) ps → Least ps (refusal ps)
    → Least (p ∷ ps) (cond b (Some p.1) (refusal ps))
pick true p ps e low h = (inl (e, refl), ((λ _. omega arith), below (number p.1) ps low))
pick false p ps e low h = skip p ps (refusal ps) e h

-- the first condition that holds has the smallest number, where the numbers ascend
pub smallest : Smallest
smallest [] h = tt
smallest (p ∷ ps) h = pick p.0 p ps refl h.0 (smallest ps h.1)
