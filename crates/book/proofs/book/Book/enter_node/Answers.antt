use Rattle.std.proofs.Common.{rules}
use Rattle.book.specs.Office.{node_entry}
use Rattle.book.specs.World.{store}
use Rattle.book.proofs.Keeping.{keeps_node}
use Rattle.book.proofs.Soundness.{outcome_sound}
use Rattle.book.proofs.book.Book.enter_node.Goals as goal

pub invariant_of-self : goal.invariant_of-self
invariant_of-self c =
    let t = c.args.self.now in
    let after = record t.tables { nodes = c.add.new.table } in
    record { sound = outcome_sound (node_entry c.args.month c.args.register) (store t.tables) (store after) c.add.result (search rules) t.sound (keeps_node _ c.args.month c.args.register) }
