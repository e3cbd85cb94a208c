use Rattle.std.proofs.Common.{◌≡◌, true, arith}
use Rattle.std.proofs.lemmas.Grind.{common_steps}
use Rattle.book.specs.Sound.{counts_good, records_good}
use Rattle.book.specs.World.{world}
use Rattle.book.proofs.Soundness.{nodes-low}
use Rattle.book.proofs.tables.Tables.is_sound.Goals as goal

pub not_crowded-requires : goal.not_crowded-requires
not_crowded-requires c =
    let w = world c.args.self.now in
    let counts : counts_good w ≡ true = grind (arith, common_steps) in
    let records : records_good w ≡ true = grind (arith, common_steps) in
    rw c.deref-then-records_good.ensures.value (nodes-low w counts records)
