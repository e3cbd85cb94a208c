-- Why a month's heat is refused, and that it is within its limit otherwise.
use Rattle.std.proofs.Common.{◌≡◌, ℕ, ◌+◌, ◌≤◌, sym, refl, ap, ◌∙◌, subst, arith, Bool, true, false, not, ◌||◌, List, [], ◌∷◌, ltb, Option, Some, None, Ok, Err}
use Rattle.std.proofs.lemmas.Bool.{and_from, cond-false, cond-true, false≢true, le-leb, lt-ltb, ltb-false, ltb-true, not_from_false, or_parts}
use Rattle.sharing.specs.Amounts.{megajoules}
use Rattle.sharing.specs.Limits.{most_quantity}
use Rattle.sharing.specs.Refusals.{decided, refusal, unless_refused}
use Rattle.sharing.specs.declared.refusal.Refusal.{Refusal}
use Rattle.sharing.specs.declared.refusal.Refusal.TheVariants.{NotColder, OutOfDate, RegisterFalls, TooMuchHeat}
use Rattle.sharing.proofs.Picked.{none_hold, refusal_is, refused}
use Rattle.tariff.specs.declared.estimate.Estimate.{Estimate}
use Rattle.tariff.specs.Estimates.{estimate_outside, estimate_warm, estimate_why, estimated}
use Rattle.book.specs.Limits.{most_register}
use Rattle.book.specs.World.{World, node_at, unused}
use Rattle.book.specs.declared.records.Node.{Node}
use Rattle.clerk.specs.Fixings.{as_due, estimate_heat, fix_why, fixing_of, rise_to}
use Rattle.clerk.specs.Papers.{OpenedPaper, fixing_good, given}

-- what an accepted call says of its conditions and its answer
pub granted : {A : Type 0} (why : List (Bool × Refusal)) (x y : A) → Ok x ≡ decided why y → (refusal why ≡ None) × (x ≡ y)
granted {A} why x y e = told (refusal why) e
  where
    told : (o : Option Refusal) → Ok x ≡ unless_refused o y → (o ≡ None) × (x ≡ y)
    told None e = (refl, cc)
    told (Some f) e = let z : ◌≡◌ {A = ℕ} 0 1 = cc in absurd (omega arith)

-- a number that is given is outside its limits
abbrev pub outside : ℕ → Option ℕ → Option Estimate → Bool
outside water closing estimate = ltb most_quantity water || (given (λ r. ltb most_register r) closing || given estimate_outside estimate)

-- none is
pub record Inside (water : ℕ) (closing : Option ℕ) (estimate : Option Estimate) : Type 0 where
  pub water-low : water ≤ most_quantity
  pub closing-low : given (λ r. ltb most_register r) closing ≡ false
  pub estimate-in : given estimate_outside estimate ≡ false

pub inside : (water : ℕ) (closing : Option ℕ) (estimate : Option Estimate) → outside water closing estimate ≡ false → Inside water closing estimate
inside water closing estimate e =
    let first = or_parts (ltb most_quantity water) _ e in
    let rest = or_parts (given (λ r. ltb most_register r) closing) _ first.1 in
    record { water-low = ltb-false _ _ first.0; closing-low = rest.0; estimate-in = rest.1 }

-- why an estimate within its limits is refused
abbrev pub heat_why : Option Estimate → List (Bool × Refusal)
heat_why o = (given estimate_warm o, NotColder) ∷ (given (λ e. ltb most_quantity (estimated e)) o, TooMuchHeat) ∷ []

pub heat-refused : (o : Option Estimate) (e : Estimate) (f : Refusal) → o ≡ Some e → given estimate_outside o ≡ false
    → Err f ≡ decided (estimate_why e) (megajoules (estimated e)) → Err f ≡ decided (heat_why o) (estimate_heat o)
heat-refused o e f is within told =
    let P : Option Estimate → Type 0 = λ x. given estimate_outside x ≡ false → Err f ≡ decided (heat_why x) (estimate_heat x) in
    subst P (sym is) (λ inside. refused (heat_why (Some e)) f (estimated e) (sym (cond-false _ _ _ inside) ∙ refusal_is (estimate_why e) f _ told)) within

-- an estimate that is not refused is small
estimate-low : (o : Option Estimate) → given (λ e. ltb most_quantity (estimated e)) o ≡ false → estimate_heat o ≤ most_quantity
estimate-low (Some e) low = ltb-false _ _ low
estimate-low None low = omega arith

pub heat-low : (o : Option Estimate) (h : ℕ) → Ok h ≡ decided (heat_why o) (estimate_heat o) → h ≤ most_quantity
heat-low o h told = let given = granted (heat_why o) h _ told in omega (arith, given.1, estimate-low o (none_hold (heat_why o) given.0).1.0)

-- a rise to a register within its limit is small
rises-low : (n : Node) (closing : Option ℕ) → given (λ r. ltb most_register r) closing ≡ false → rise_to n closing ≤ most_register
rises-low n (Some r) low = omega (arith, ltb-false _ _ low)
rises-low n None low = omega arith

-- why a closing register is refused
abbrev pub rise_why : Node → Option ℕ → List (Bool × Refusal)
rise_why n closing = (given (λ r. ltb r n.register) closing, RegisterFalls) ∷ []

pub rise-low : (n : Node) (closing : Option ℕ) (r : ℕ) → given (λ r. ltb most_register r) closing ≡ false → Ok r ≡ decided (rise_why n closing) (rise_to n closing) → r ≤ most_register
rise-low n closing r low told = omega (arith, (granted (rise_why n closing) r (rise_to n closing) told).1, rises-low n closing low)

-- an estimate that is too much makes the month's heat too much
too_much : (o : Option Estimate) (before : ℕ) → given (λ e. ltb most_quantity (estimated e)) o ≡ true → ltb most_quantity (before + estimate_heat o) ≡ true
too_much (Some e) before high = lt-ltb _ _ (omega (arith, ltb-true _ _ high))
too_much None before high = absurd (false≢true high)

late : (warm high big old : Bool) (f : Refusal) → (high ≡ true → big ≡ true) → refusal ((warm, NotColder) ∷ (high, TooMuchHeat) ∷ []) ≡ Some f
    → refusal ((warm, NotColder) ∷ (big, TooMuchHeat) ∷ (old, OutOfDate) ∷ []) ≡ Some f
late true high big old f more e = e
late false true big old f more e = cond-true big _ _ (more refl) ∙ e
late false false big old f more e = let z : ◌≡◌ {A = ℕ} 0 1 = cc in absurd (omega arith)

module _ (p : OpenedPaper) (water : ℕ) (closing : Option ℕ) (estimate : Option Estimate) (w : World) where
  -- a refused estimate refuses the fixing
  pub fix_refused : (n : Node) (f : Refusal) → n ≡ node_at p.node w → unused p.node w.nodes ≡ false
      → outside water closing estimate ≡ false
      → given (λ r. ltb r n.register) closing ≡ false → as_due n closing estimate ≡ true
      → refusal (heat_why estimate) ≡ Some f → refusal (fix_why p water closing estimate w) ≡ Some f
  fix_refused n f is used within rises due told =
      let at : Node → Type 0 = λ m. given (λ r. ltb r m.register) closing ≡ false → as_due m closing estimate ≡ true → refusal (fix_why p water closing estimate w) ≡ Some f in
      subst at (sym is)
      (λ up set. cond-false _ _ _ used
      ∙ (cond-false _ _ _ within
      ∙ (cond-false _ _ _ up
      ∙ (cond-false _ _ _ (ap not set)
      ∙ late _ _ _ _ f (too_much estimate ((node_at p.node w).carried + rise_to (node_at p.node w) closing)) told))))
      rises due

  -- what is fixed is within its limits
  pub fixing_kept : refusal (fix_why p water closing estimate w) ≡ None → fixing_good (fixing_of p water closing estimate w) ≡ true
  fixing_kept none =
      let held = none_hold (fix_why p water closing estimate w) none in
      let given = inside water closing estimate held.1.0 in
      and_from _ _ (le-leb _ _ (ltb-false _ _ held.1.1.1.1.1.0)) (and_from _ _ (le-leb _ _ given.water-low) (not_from_false _ given.closing-low))
