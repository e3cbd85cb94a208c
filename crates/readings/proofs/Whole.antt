-- Cutting keeps every byte.
use Rattle.std.proofs.Common.{◌≡◌, ℕ, ◌+◌, ◌<◌, Bool, true, false, cond, eqb, List, [], ◌∷◌, ◌++◌, length, sym, refl, ap, ◌∙◌, subst, arith}
use Rattle.std.proofs.lemmas.Bool.{eqb-true}
use Rattle.readings.specs.Texts.{Text, cut_from, led}
use Rattle.readings.specs.Laws.{Cut, Follow, LinesWhole, FieldsWhole, closed}
use Rattle.readings.proofs.Cutting.{fields-some, some_cut}

-- one more byte in front: of the first text, or the end of an empty one
module _ (stop at c : ℕ) (bs : List ℕ) where
  longer : (ts : List Text) → 0 < length ts → eqb c stop ≡ false → Cut stop (at + 1) bs ts → Cut stop at (c ∷ bs) (led at c ts)
  longer [] some e k = absurd (omega arith)
  longer (t ∷ ts) some e k =
      let more : at + 1 + length t.bytes + 1 ≡ at + length (c ∷ t.bytes) + 1 = omega arith in
      record {
        follow = (refl, subst (λ (p : ℕ). Follow p ts) more k.follow.1);
        lack = ((e, k.lack.0), k.lack.1);
        whole = ap (λ (xs : List ℕ). c ∷ xs) k.whole;
      }

  empty : (ts : List Text) → eqb c stop ≡ true → Cut stop (at + 1) bs ts → Cut stop at (c ∷ bs) (record { place = at; bytes = [] } ∷ ts)
  empty ts e k =
      let next : at + 1 ≡ at + 0 + 1 = omega arith in
      record {
        follow = (refl, subst (λ (p : ℕ). Follow p ts) next k.follow);
        lack = (tt, k.lack);
        whole = ap (λ (xs : List ℕ). stop ∷ xs) k.whole ∙ ap (λ (x : ℕ). x ∷ bs) (sym (eqb-true c stop e));
      }

  either : (ts : List Text) → 0 < length ts → (b : Bool) → eqb c stop ≡ b → Cut stop (at + 1) bs ts → Cut stop at (c ∷ bs) (cond b (record { place = at; bytes = [] } ∷ ts) (led at c ts))
  either ts some true e k = empty ts e k
  either ts some false e k = longer ts some e k

fields_cut : (at : ℕ) (bs : List ℕ) → Cut 59 at (bs ++ 59 ∷ []) (cut_from 59 true at bs)
fields_cut at [] = record { follow = (refl, tt); lack = (tt, tt); whole = refl }
fields_cut at (c ∷ cs) = either 59 at c (cs ++ 59 ∷ []) (cut_from 59 true (at + 1) cs) (fields-some 59 (at + 1) cs) (eqb c 59) refl (fields_cut (at + 1) cs)

last_line : (at c : ℕ) (b : Bool) → eqb c 10 ≡ b → Cut 10 at (cond b (c ∷ []) (c ∷ 10 ∷ [])) (cond b (record { place = at; bytes = [] } ∷ []) (led at c []))
last_line at c true e = record { follow = (refl, tt); lack = (tt, tt); whole = ap (λ (x : ℕ). x ∷ []) (sym (eqb-true c 10 e)) }
last_line at c false e = record { follow = (refl, tt); lack = ((e, tt), tt); whole = refl }

lines_cut : (at : ℕ) (bs : List ℕ) → Cut 10 at (closed bs) (cut_from 10 false at bs)
lines_cut at [] = record { follow = tt; lack = tt; whole = refl }
lines_cut at (c ∷ []) = last_line at c (eqb c 10) refl
lines_cut at (c ∷ d ∷ cs) = either 10 at c (closed (d ∷ cs)) (cut_from 10 false (at + 1) (d ∷ cs)) (some_cut 10 false (at + 1) d cs) (eqb c 10) refl (lines_cut (at + 1) (d ∷ cs))

pub lines-whole : LinesWhole
lines-whole file = lines_cut 0 file

pub fields_whole : FieldsWhole
fields_whole l = fields_cut l.place l.bytes
