use Rattle.std.proofs.Common.{◌≡◌, ◌+◌, List, ◌∷◌, ℕ, None, take, sym, ap, ◌∙◌, rules}
use Rattle.std.proofs.lemmas.List.{take_rest}
use Rattle.readings.specs.Texts.{cut_up, text}
use Rattle.readings.proofs.Cutting.{cut-at, cut-nowhere}
use Rattle.readings.proofs.piece.Piece.split_once.Goals as goal

pub returns-in_err-at : goal.returns-in_err-at
returns-in_err-at c =
    let none : c.from_residual.result ≡ None = search rules in
    rw none (λ blank. cut-nowhere c.args.stop blank (text c.args.self) c.in_err-at.ensures)

pub returns : goal.returns
returns c = λ blank.
    let bs = c.args.self.bytes.now in
    let at = c.in_ok-at.at in
    cut-at c.args.stop blank (text c.args.self) at c.in_ok-at.ensures
    ∙ ap (λ (rest : List ℕ). record { place = c.args.self.place; bytes = take at bs } ∷ cut_up c.args.stop blank (record { place = c.args.self.place + at + 1; bytes = rest })) (sym (take_rest bs (at + 1)))
