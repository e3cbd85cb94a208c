-- A desk's papers, slot by slot.
use Rattle.std.proofs.Common.{◌≡◌, ℕ, ◌<◌, List, map, length, get_or, set, Option, Some, IfSome, is_some, ltb, sym, ap, ◌∙◌, arith}
use Rattle.std.proofs.lemmas.List.{get_or-map, set-get_or}
use Rattle.std.proofs.lemmas.Bool.Decides.{nat_tests}
use Rattle.agreement.specs.Desks.{seen}
use Rattle.agreement.specs.Runs.{posted_paper}
use Rattle.agreement.specs.declared.desk.Slot.{Slot}

-- the slot with the number i holds y
pub record Holds (xs : List Slot) (i : ℕ) (y : Slot) : Type 0 where
  -- the paper with the number
  pub there : get_or (map seen xs) i posted_paper ≡ seen y
  -- what was taken out is put back
  pub back : map seen (set xs i y) ≡ map seen xs

-- of the slot b, found as o at the number i and holding y
pub held : {B : Type 0} (xs : List Slot) (now : B → Slot) {i : ℕ} {o : Option B} {b : B} {y : Slot}
    → is_some o ≡ ltb i (length xs) → IfSome o (λ b. now b ≡ get_or xs i (now b)) → o ≡ Some b → y ≡ now b → Holds xs i y
held xs now {i} {o} {b} {y} told value found in_it =
    let at : now b ≡ get_or xs i (now b) = rw found at value in
    let low : i < length xs = grind (arith, nat_tests, told, found) in
    record {
      there = get_or-map seen xs i (now b) posted_paper low ∙ ap seen (sym at ∙ sym in_it);
      back = ap (map seen) (ap (set xs i) (in_it ∙ at) ∙ set-get_or xs i (now b));
    }
