use Rattle.std.proofs.Common.{◌≡◌, ◌+◌, Bool, not, ◌&&◌, List, get_or, take, drop, is_some, is_err, Some, None, Option, Result, sym, refl, ap, ◌∙◌}
use Rattle.sharing.specs.Refusals.{decided, refusal, unless_refused}
use Rattle.sharing.specs.declared.refusal.Refusal.{Refusal}
use Rattle.tariff.specs.Rows.{Row, keeps_rules, no_row, row_why, rows_good_above}
use Rattle.tariff.proofs.Prices.{good_more, good_next}
use Rattle.tariff.proofs.rules.keep_rules.Goals as goal

answered : (o : Option Refusal) → is_err (unless_refused o (tt {0})) ≡ is_some o
answered None = refl
answered (Some f) = refl

-- what the check of a row said
kept : (rows : List Row) (r : Row) (checked : Result (Unit {0}) Refusal) (b : Bool) → checked ≡ decided (row_why rows r) tt → b ≡ is_err checked → keeps_rules rows r ≡ not b
kept rows r checked b is told = ap not (sym (told ∙ ap is_err is ∙ answered (refusal (row_why rows r))))

pub returns-then-is_err : goal.returns-then-is_err
returns-then-is_err c =
    let rows = c.args.rows.now in
    let i = c.loop-i.i in
    let no = kept (take i rows) (get_or rows i no_row) _ _ c.check.ensures c.if-is_err.ensures.value in
    sym (good_next rows i no_row c.loop-i-test.true ∙ ap (λ b. b && rows_good_above (take (i + 1) rows) (drop (i + 1) rows)) no) ∙ c.loop-i.invariant.1

pub loop-i-preserved : goal.loop-i-preserved
loop-i-preserved c =
    let rows = c.args.rows.now in
    let i = c.loop-i.i in
    let within = c.loop-i-test.true in
    let yes = kept (take i rows) (get_or rows i no_row) _ _ c.check.ensures c.if-is_err.ensures.value in (
      good_more rows i no_row within c.loop-i.invariant.0 yes,
      sym (good_next rows i no_row within ∙ ap (λ b. b && rows_good_above (take (i + 1) rows) (drop (i + 1) rows)) yes) ∙ c.loop-i.invariant.1,
    )
