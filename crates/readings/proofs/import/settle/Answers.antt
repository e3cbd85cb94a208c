use Rattle.std.proofs.Common.{Some, None, Err, sym, ap, ◌∙◌, subst, rules}
use Rattle.std.proofs.lemmas.Result.{err_from_is_err_and}
use Rattle.sharing.specs.Refusals.{refusal}
use Rattle.book.specs.Calls.{Outcome}
use Rattle.book.specs.World.{store}
use Rattle.clerk.specs.Fixings.{fix_why, open_why, opened}
use Rattle.clerk.proofs.Heats.{granted}
use Rattle.readings.specs.Imports.{reading_entry}
use Rattle.readings.proofs.Imported.{fix_refused}
use Rattle.readings.proofs.import.settle.Goals as goal

pub returns-in_err-fixed : goal.returns-in_err-fixed
returns-in_err-fixed c =
    let s = store c.args.book.now.tables in
    let r = c.args.reading in
    let paper = granted (open_why r.node s.world) _ (opened r.node s.world) c.in_ok-paper.ensures in
    let told = err_from_is_err_and c.from_residual-in_err-fixed.result c.from_residual-in_err-fixed.ensures.1 in
    subst (Outcome (reading_entry r) s s) (sym (told.1 ∙ ap Err told.2))
    (fix_refused r s _ paper.0 (ap (λ p. refusal (fix_why p r.water (Some r.closing) None s.world)) (sym paper.1) ∙ c.in_err-fixed.ensures.1))

pub returns-in_err-post : goal.returns-in_err-post
returns-in_err-post c =
    let told = err_from_is_err_and c.from_residual-in_err-post.result c.from_residual-in_err-post.ensures.1 in
    subst (Outcome (reading_entry c.args.reading) (store c.args.book.now.tables) (store c.post.new.book.tables)) (sym (told.1 ∙ ap Err told.2)) (search rules)
