use Rattle.std.proofs.Common.{◌+◌, ◌≤◌, length, drop}
use Rattle.book.specs.World.{Store, store}
use Rattle.readings.specs.Faults.{ImportAnswer}
use Rattle.readings.specs.Imports.{Imported, Taken}
use Rattle.readings.specs.Texts.{lines_from, lines_left}
use Rattle.readings.proofs.import.import.Given as goal

-- whatever ends the rest of the lines ends the import
abbrev pub invariant-loop-line : goal.invariant-loop-line
invariant-loop-line l = record {
  can : goal.iterator-loop-line.can_next l.line-iterator;
  finite : goal.iterator-loop-line.is_finite l.line-iterator;
  ends : (a : ImportAnswer) (s' : Store) → Taken l.columns l.taken (lines_left l.line-iterator) (store l.book.tables) a s' → Imported l.file (store l.fn.book.tables) a s';
  few : l.taken + length (lines_left l.line-iterator) ≤ length (drop 1 (lines_from 0 l.file));
}
