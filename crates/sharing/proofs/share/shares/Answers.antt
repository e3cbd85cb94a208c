use Rattle.std.proofs.Common.{◌≡◌, ◌*◌, map, length, sum, sym, ap, ◌∙◌, arith, rules}
use Rattle.std.proofs.lemmas.List.{length-map}
use Rattle.sharing.specs.Amounts.{amount, per_object}
use Rattle.sharing.specs.Cuts.{cut, shared}
use Rattle.sharing.specs.Sharings.{sharing_why}
use Rattle.sharing.proofs.Fairness.{shareable, cut_taken, addends_room, fair}
use Rattle.sharing.proofs.Parts.{counts_amounts}
use Rattle.sharing.proofs.Picked.{accepted, not_refused, none_hold}
use Rattle.sharing.proofs.share.shares.Goals as goal

pub returns-in_err-cut : goal.returns-in_err-cut
returns-in_err-cut g c =
    let t = c.args.total.0 in
    let ws = c.args.weights.now in
    let may = shareable t ws (not_refused (sharing_why t ws) tt _ (sym c.in_ok-check.was ∙ c.check.ensures)) in
    absurd (cut_taken t ws may c.weight_of.result c.weight_of.ensures c.in_err-cut.ensures.test)

pub parts_within-requires : goal.parts_within-requires
parts_within-requires g c =
    let t = c.args.total.0 in
    let ws = c.args.weights.now in
    let may = shareable t ws (not_refused (sharing_why t ws) tt _ (sym c.in_ok-check.was ∙ c.check.ensures)) in
    let given : c.deref.result.now ≡ map (λ w. t * w) ws = c.deref.ensures.0 ∙ ap (λ v. v.items) c.weighted.ensures in
    (search rules, (omega (arith, ap length given, length-map ws (λ w. t * w), may.few), omega (arith, ap sum given, addends_room t ws may)))

pub returns : goal.returns
returns g c =
    let t = c.args.total.0 in
    let ws = c.args.weights.now in
    let rule = c.args.rule.now in
    let f = g.R.Rounding.meaning in
    let none = not_refused (sharing_why t ws) tt _ (sym c.in_ok-check.was ∙ c.check.ensures) in
    let held = c.in_ok-cut.cut in
    let made = c.in_ok-cut.ensures.cases in
    let given : c.deref.result.now ≡ map (λ w. t * w) ws = c.deref.ensures.0 ∙ ap (λ v. v.items) c.weighted.ensures in
    let same : cut (λ n. f held.rule.now n held.divisor) c.deref.result.now ≡ shared (f rule) t ws =
    ap (cut (λ n. f held.rule.now n held.divisor)) given
    ∙ ap (λ r. cut (λ n. f r n held.divisor) (map (λ w. t * w) ws)) made.0
    ∙ ap (λ d. cut (λ n. f rule n d) (map (λ w. t * w) ws)) (made.1 ∙ c.weight_of.ensures) in
    let value = c.parts_within.ensures.value ∙ ap (λ ps. per_object (map amount ps)) same in
    record {
      value = accepted (sharing_why t ws) _ _ (none_hold (sharing_why t ws) none) value;
      fair = rw (value, counts_amounts _ (shared (f rule) t ws)) (fair t ws (shareable t ws none) (f rule) (g.met.R.Rounding.laws rule));
    }
