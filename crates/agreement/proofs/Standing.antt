-- What stands in a journal to which the lines of one month are added.
use Rattle.std.proofs.Common.{◌≡◌, ℕ, suc, ◌<◌, length, get_or, Bool, true, false, cond, ◌&&◌, eqb, List, [], ◌∷◌, ◌++◌, map, ℤ, pos, ◌+ℤ◌, sym, refl, ap, arith}
use Rattle.std.specs.List.{All, AllPairs}
use Rattle.std.proofs.lemmas.List.Elements.{All-cons}
use Rattle.std.proofs.lemmas.Bool.Decides.{nat_tests}
use Rattle.std.proofs.lemmas.Int.{ints}
use Rattle.std.proofs.lemmas.List.{get_or-map, length-map}
use Rattle.std.proofs.lemmas.Bool.{cond-true, cond-false, false_from_ne_true}
use Rattle.book.specs.Journal.{standing}
use Rattle.book.specs.Sound.{of_a_month}
use Rattle.book.specs.declared.records.Kind.TheVariants.{Month}
use Rattle.book.specs.declared.records.Line.{Line}
use Rattle.agreement.proofs.Lists.{summed-append, summed-none}

-- the line is of the object's month at the node
abbrev pub of_it : ℕ → ℕ → ℕ → Line → Bool
of_it n m o l = of_a_month l.kind && (eqb l.node n && (eqb l.month m && eqb l.object o))

pub standing-append : (f : Line → ℤ) (n m o : ℕ) (xs ys : List Line) → standing f n m o (xs ++ ys) ≡ standing f n m o xs +ℤ standing f n m o ys
standing-append f n m o xs ys = summed-append (λ l. cond (of_it n m o l) (f l) (pos 0)) xs ys

-- nothing stands where no line is of it
pub standing-none : (f : Line → ℤ) (n m o : ℕ) (xs : List Line) → All (λ l. of_it n m o l ≡ false) xs → standing f n m o xs ≡ pos 0
standing-none f n m o xs none = summed-none _ xs (λ k d low. cond-false (of_it n m o (get_or xs k d)) (f (get_or xs k d)) (pos 0) (none k d low))

-- a month line of the node's month
pub record MonthLine (n m : ℕ) (l : Line) : Type 0 where
  pub kind : l.kind ≡ Month
  pub node : l.node ≡ n
  pub month : l.month ≡ m

module _ (n m : ℕ) where
  -- it is not of another node's month
  pub of_another : (n' m' o : ℕ) → (n ≡ n' → m ≡ m' → ⊥) → (l : Line) → MonthLine n m l → of_it n' m' o l ≡ false
  of_another n' m' o apart l is =
      false_from_ne_true (of_it n' m' o l) (λ e. apart (grind (arith, nat_tests)) (grind (arith, nat_tests)))

  of_object : (o : ℕ) (l : Line) → MonthLine n m l → l.object ≡ o → of_it n m o l ≡ true
  of_object o l is same = let kind = ap of_a_month is.kind in grind (arith, nat_tests)

  of_other_object : (o : ℕ) (l : Line) → (l.object ≡ o → ⊥) → of_it n m o l ≡ false
  of_other_object o l other = grind (arith, nat_tests)

  -- to each line's object just that line stands, where the objects ascend
  pub own : (ls : List Line) → All (MonthLine n m) ls → AllPairs (λ i j. i < j) (map (λ l. l.object) ls) → All (λ l. (f : Line → ℤ) → standing f n m l.object ls ≡ f l) ls
  own [] are apart = λ k d low. absurd (omega arith)
  own (l ∷ ls) are apart =
      All-cons (λ x. (f : Line → ℤ) → standing f n m x.object (l ∷ ls) ≡ f x) l ls
      (λ f.
      let here = cond-true (of_it n m l.object l) (f l) (pos 0) (of_object l.object l (are 0 l (omega arith)) refl) in
      let rest = standing-none f n m l.object ls (λ k d low. of_other_object l.object (get_or ls k d) (later k d low)) in
      omega (arith, ints))
      (λ k d low f.
      let here = cond-false (of_it n m (get_or ls k d).object l) (f l) (pos 0) (of_other_object (get_or ls k d).object l (λ e. later k d low (sym e))) in
      let rest = own ls (λ i e within. are (suc i) e (omega arith)) (λ i j e less within. apart (suc i) (suc j) e (omega arith) (omega arith)) k d low f in
      omega (arith, ints))
    where
      later : (k : ℕ) (d : Line) → k < length ls → (get_or ls k d).object ≡ l.object → ⊥
      later k d low e =
          let less = apart 0 (suc k) 0 (omega arith) (omega (arith, length-map ls (λ (l : Line). l.object))) in
          omega (arith, less, e, get_or-map (λ (l : Line). l.object) ls k d 0 low)
