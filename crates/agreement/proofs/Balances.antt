-- Balances after lines.
use Rattle.std.proofs.Common.{◌≡◌, ℕ, suc, ◌<◌, cond, eqb, List, [], ◌∷◌, length, get_or, ℤ, pos, ◌+ℤ◌, arith}
use Rattle.std.specs.List.{All}
use Rattle.std.proofs.lemmas.List.{get_or-set_same, get_or-set_other, length-set}
use Rattle.std.proofs.lemmas.Int.{ints}
use Rattle.std.proofs.lemmas.Bool.{cond-true, cond-false, eq-eqb, ne_eqb}
use Rattle.book.specs.World.{new_recipient}
use Rattle.book.specs.declared.records.Line.{Line}
use Rattle.book.specs.declared.records.Recipient.{Recipient}
use Rattle.clerk.specs.Writing.{after_lines, charged_to, owed, together}

-- the balance of a recipient in a list
abbrev pub balance_in : List Recipient → ℕ → ℤ
balance_in rs q = (get_or rs q new_recipient).balance

one_line : (q : ℕ) (l : Line) (rs : List Recipient) → l.recipient < length rs
    → balance_in (charged_to rs l) q ≡ balance_in rs q +ℤ cond (eqb l.recipient q) (together l.amounts) (pos 0)
one_line q l rs within =
    let new : Recipient = record { balance = balance_in rs l.recipient +ℤ together l.amounts } in
    grind (arith, ints, get_or-set_same rs l.recipient new new_recipient within, get_or-set_other rs l.recipient q new new_recipient, cond-true, cond-false, eq-eqb, ne_eqb)

-- every balance rises by what the lines say
pub balance_after : (q : ℕ) (ls : List Line) (rs : List Recipient) → All (λ l. l.recipient < length rs) ls → balance_in (after_lines rs ls) q ≡ balance_in rs q +ℤ owed q ls
balance_after q [] rs known = omega (arith, ints)
balance_after q (l ∷ ls) rs known =
    let same = length-set rs l.recipient (record { balance = balance_in rs l.recipient +ℤ together l.amounts }) in
    let rest = balance_after q ls (charged_to rs l) (λ k d low. let within = known (suc k) d (omega arith) in omega (arith, same, within)) in
    let first = one_line q l rs (known 0 l (omega arith)) in
    omega (arith, ints)
