-- What a line of three fields says.
use Rattle.std.proofs.Common.{◌≡◌, ℕ, Bool, true, false, cond, List, [], ◌∷◌, get_or, Some, Ok, Err, sym, refl, ap}
use Rattle.readings.specs.Faults.{FieldFault, Field, Fields}
use Rattle.readings.specs.Formats.{Columns, column_number, first_fault, is_value, number_of, reading_of, said, unless_faulty, value_of}
use Rattle.readings.specs.Texts.{Text, fields_of, three}

ok_by : {X E : Type 0} (b : Bool) (x y : X) (e : E) → Ok x ≡ cond b (Ok y) (Err e) → (b ≡ true) × (x ≡ y)
ok_by true x y e h = (refl, cc)
ok_by false x y e h = absurd cc

err_by : {X E : Type 0} (b : Bool) (x : X) (d e : E) → Err d ≡ cond b (Ok x) (Err e) → (b ≡ false) × (d ≡ e)
err_by true x d e h = absurd cc
err_by false x d e h = (refl, cc)

pub good : (f : Text) (n : ℕ) → Ok n ≡ value_of f → (is_value f.bytes ≡ true) × (n ≡ number_of f.bytes)
good f n h = ok_by (is_value f.bytes) n (number_of f.bytes) (record { place = f.place }) h

bad : (f : Text) (e : FieldFault) → Err e ≡ value_of f → (is_value f.bytes ≡ false) × (e ≡ record { place = f.place })
bad f e h = err_by (is_value f.bytes) (number_of f.bytes) e (record { place = f.place }) h

module _ (c : Columns) (l f g h : Text) (fields : fields_of l ≡ f ∷ g ∷ h ∷ []) where
  by_fields : unless_faulty (first_fault (f ∷ g ∷ h ∷ [])) (said c (f ∷ g ∷ h ∷ [])) ≡ reading_of c l
  by_fields = ap (λ (fs : List Text). unless_faulty (cond (three fs) (first_fault fs) (Some (Fields l.place))) (said c fs)) (sym fields)

  pub second_bad : (m : ℕ) (e : FieldFault) → Ok m ≡ value_of f → Err e ≡ value_of g → Err (Field e) ≡ reading_of c l
  second_bad m e p q = let u = bad g e q in rw u.1 (rw ((good f m p).0, u.0) at by_fields)

  pub third_bad : (m n : ℕ) (e : FieldFault) → Ok m ≡ value_of f → Ok n ≡ value_of g → Err e ≡ value_of h → Err (Field e) ≡ reading_of c l
  third_bad m n e p q r = let u = bad h e r in rw u.1 (rw ((good f m p).0, (good g n q).0, u.0) at by_fields)

  pub all_good : (m n k : ℕ) → Ok m ≡ value_of f → Ok n ≡ value_of g → Ok k ≡ value_of h
      → Ok (record { node = get_or (m ∷ n ∷ k ∷ []) (column_number c.node) 0; closing = get_or (m ∷ n ∷ k ∷ []) (column_number c.closing) 0; water = get_or (m ∷ n ∷ k ∷ []) (column_number c.water) 0 }) ≡ reading_of c l
  all_good m n k p q r =
      let u = good f m p in
      let v = good g n q in
      let w = good h k r in
      rw (u.1, v.1, w.1) (rw (u.0, v.0, w.0) at by_fields)
