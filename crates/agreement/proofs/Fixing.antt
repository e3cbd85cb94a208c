-- Opening and fixing keep the agreement.
use Rattle.std.proofs.Common.{◌≡◌, ℕ, ◌<◌, Bool, true, false, ltb, List, [], ◌∷◌, ◌++◌, length, get_or, set, None, refl, inr}
use mathlib.Core.Bool.{beq}
use Rattle.std.proofs.lemmas.Bool.{and_parts, eqb-true, false≢true, leb-false, ltb-false, not-false, or_parts}
use Rattle.sharing.specs.Limits.{most_quantity}
use Rattle.sharing.specs.Refusals.{refusal}
use Rattle.sharing.proofs.Picked.{none_hold}
use Rattle.book.specs.World.{World}
use Rattle.clerk.specs.Fixings.{fix_why, fixing_of, opened}
use Rattle.clerk.specs.declared.paper.OpenedPaper.{OpenedPaper}
use Rattle.clerk.specs.declared.paper.Readout.{Readout}
use Rattle.agreement.specs.Facts.{Event, blank, clerk, paper_fixed, paper_opened, papers}
use Rattle.agreement.specs.History.{slip_with}
use Rattle.agreement.specs.Runs.{Paper, blank_paper, fixed_paper, posted_paper}
use Rattle.agreement.proofs.Agrees.{Agrees}
use Rattle.agreement.proofs.Papers.{Written, paper_among, papers-push, papers-set}

pub same_bool : (a b : Bool) → beq a b ≡ true → a ≡ b
same_bool true true e = refl
same_bool true false e = absurd (false≢true e)
same_bool false true e = absurd (false≢true e)
same_bool false false e = refl

-- what a granted fixing writes on a paper of the node n agrees with the nodes
pub fixing-written : (w : World) (p : OpenedPaper) (r : Readout) → refusal (fix_why p r.water r.closing r.estimate w) ≡ None → (n : ℕ) → p.node ≡ n
    → Written w.nodes (fixing_of p r.water r.closing r.estimate w) (slip_with n (fixing_of p r.water r.closing r.estimate w).heat r)
fixing-written w p r granted n same =
    let none = none_hold (fix_why p r.water r.closing r.estimate w) granted in
    record {
      node = same;
      heat = refl;
      water = refl;
      estimate = refl;
      closing = refl;
      used = leb-false _ _ none.0;
      heat-low = ltb-false _ _ none.1.1.1.1.1.0;
      water-low = ltb-false _ _ (or_parts (ltb most_quantity r.water) _ none.1.0).0;
      dated = inr (inr (eqb-true _ _ (not-false _ none.1.1.1.1.1.1.0), refl, record { heat = refl; closing = same_bool _ _ (and_parts _ _ (not-false _ none.1.1.1.0)).0 }));
    }

module _ (h : List Event) (w : World) (ps : List Paper) (a : Agrees h w ps) where
  pub agrees_open : (n : ℕ) → Agrees (clerk (paper_opened n) ∷ h) w (ps ++ blank_paper (opened n w) ∷ [])
  agrees_open n = record {
    rows_are = a.rows_are;
    objects-are = a.objects-are;
    named-are = a.named-are;
    metered = a.metered;
    papers-are = papers-push w.nodes ps (papers h) a.papers-are (opened n w) n refl;
    lines_are = a.lines_are;
    months-are = a.months-are;
    balances = a.balances;
  }

  module _ (i : ℕ) (p : OpenedPaper) (at : get_or ps i posted_paper ≡ blank_paper p) (r : Readout) (granted : refusal (fix_why p r.water r.closing r.estimate w) ≡ None) where
    there : i < length ps
    there = paper_among ps i (λ used. cc)

    pub agrees_fix : Agrees (clerk (paper_fixed i (slip_with (get_or (papers h) i (blank 0)).node (fixing_of p r.water r.closing r.estimate w).heat r)) ∷ h) w (set ps i (fixed_paper (fixing_of p r.water r.closing r.estimate w)))
    agrees_fix =
        let fits : p.node ≡ (get_or (papers h) i (blank 0)).node = rw at at (a.papers-are.each i) in
        record {
          rows_are = a.rows_are;
          objects-are = a.objects-are;
          named-are = a.named-are;
          metered = a.metered;
          papers-are = papers-set w.nodes ps (papers h) a.papers-are i (fixed_paper (fixing_of p r.water r.closing r.estimate w)) _ there (fixing-written w p r granted _ fits);
          lines_are = a.lines_are;
          months-are = a.months-are;
          balances = a.balances;
        }
