use Rattle.std.proofs.Common.{true, ap, arith, ne_eqb, length}
use Rattle.readings.specs.Texts.{fields_of, text}
use Rattle.readings.proofs.Cutting.{more_fields}
use Rattle.readings.proofs.fields.three_fields.Goals as goal

pub returns-then-is_some : goal.returns-then-is_some
returns-then-is_some c =
    let more = more_fields (text c.in_ok-second.third) c.split_once-3.result (c.split_once-3.ensures true) c.if-is_some.ensures in
    ne_eqb (length (fields_of (text c.args.line))) 3 (λ n. omega (arith, ap length (c.in_ok-first.ensures true), ap length (c.in_ok-second.ensures true)))
