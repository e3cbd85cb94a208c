-- The journal: what stands in its lines.
use Rattle.std.specs.Prelude.{ℤ, pos, ◌+ℤ◌, Bool, cond, ◌&&◌, List, [], ◌∷◌, ℕ, eqb}
use Rattle.tariff.specs.declared.charge.Charge.{Charge}
use Rattle.tariff.specs.declared.charge.Charge.TheVariants.{Power, Fixed, Energy, Variable, Carrier}
use Rattle.book.specs.Records.{Amounts, Line}
use Rattle.book.specs.Sound.{of_a_month}

-- the amount under a charge
abbrev pub amount_in : Charge → Amounts → ℤ
amount_in Power a = a.power
amount_in Fixed a = a.fixed
amount_in Energy a = a.energy
amount_in Variable a = a.variable
amount_in Carrier a = a.carrier

-- what f comes to over a list
abbrev pub summed : {A : Type 0} → (A → ℤ) → List A → ℤ
summed f [] = pos 0
summed f (x ∷ xs) = f x +ℤ summed f xs

-- what f comes to over those that pass
abbrev pub summed_where : {A : Type 0} → (A → Bool) → (A → ℤ) → List A → ℤ
summed_where p f xs = summed (λ x. cond (p x) (f x) (pos 0)) xs

-- standing: what a posting and its corrections leave together for a node's month and object
abbrev pub standing : (Line → ℤ) → ℕ → ℕ → ℕ → List Line → ℤ
standing f node month object lines =
    summed_where (λ l. of_a_month l.kind && (eqb l.node node && (eqb l.month month && eqb l.object object))) f lines

-- of a line: its heat
abbrev pub heat_of : Line → ℤ
heat_of l = l.heat

-- its water
abbrev pub water_of : Line → ℤ
water_of l = pos l.water

-- its amount under a charge
abbrev pub charge_of : Charge → Line → ℤ
charge_of c l = amount_in c l.amounts
