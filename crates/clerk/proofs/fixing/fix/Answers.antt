use Rattle.std.proofs.Common.{◌≡◌, Some, Ok, Err, sym, ap, ◌∙◌, rules}
use Rattle.std.proofs.lemmas.Result.{err_from_is_err_and}
use Rattle.sharing.specs.Refusals.{refusal}
use Rattle.sharing.proofs.Picked.{refusal_is}
use Rattle.book.specs.World.{world}
use Rattle.clerk.specs.Fixings.{fix_why, fixing_of}
use Rattle.clerk.specs.Papers.{fixing_good}
use Rattle.clerk.proofs.Heats.{fixing_kept, granted}
use Rattle.clerk.proofs.fixing.fix.Goals as goal

pub invariant_of-result : goal.invariant_of-result
invariant_of-result c =
    let w = world c.args.book.now.tables in
    let r = c.args.readout in
    let made : c.fixing.result ≡ Ok c.in_ok-fixing.fixing = search rules in
    let told = granted (fix_why c.args.paper r.water r.closing r.estimate w) c.in_ok-fixing.fixing (fixing_of c.args.paper r.water r.closing r.estimate w) (sym made ∙ c.fixing.ensures) in
    record { good = ap fixing_good told.1 ∙ fixing_kept c.args.paper r.water r.closing r.estimate w told.0 }

pub returns : goal.returns
returns c =
    let w = world c.args.book.now.tables in
    let r = c.args.readout in
    let made : c.fixing.result ≡ Ok c.in_ok-fixing.fixing = search rules in
    granted (fix_why c.args.paper r.water r.closing r.estimate w) c.in_ok-fixing.fixing (fixing_of c.args.paper r.water r.closing r.estimate w) (sym made ∙ c.fixing.ensures)

pub returns-in_err-fixing : goal.returns-in_err-fixing
returns-in_err-fixing c =
    let w = world c.args.book.now.tables in
    let r = c.args.readout in
    let e = c.in_err-fixing.field-0.0 in
    let made : c.fixing.result ≡ Err e.refusal = search rules in
    let back : e.given ≡ c.args.paper = search rules in
    let why : refusal (fix_why c.args.paper r.water r.closing r.estimate w) ≡ Some e.refusal =
    refusal_is (fix_why c.args.paper r.water r.closing r.estimate w) e.refusal (fixing_of c.args.paper r.water r.closing r.estimate w) (sym made ∙ c.fixing.ensures) in
    let p = err_from_is_err_and c.from_residual.result c.from_residual.ensures.1 in
    search rules
