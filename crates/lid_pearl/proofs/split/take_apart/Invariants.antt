use Rattle.std.proofs.Common.{◌≡◌, ◌<◌, ◌++◌, true, false, length, filter}
use Rattle.std.specs.List.{AllByRecursion}
use Rattle.std.specs.Vec.Iter.{into_iter_items, into_iter_len}
use Rattle.lid_design.specs.Flat.{IsFlatCover}
use Rattle.lid_strict_engine.specs.Programs.{program_covers, IsProgram}
use Rattle.lid_strict_engine.specs.Rows.{bit_at}
use Rattle.lid_pearl.specs.Inside.{is_picked}
use Rattle.lid_pearl.proofs.split.take_apart.Given as goal

abbrev pub invariant-loop-cover : goal.invariant-loop-cover
invariant-loop-cover l = record {
  laid : IsProgram l.halves.early × IsProgram l.halves.late;
  nets : (l.halves.early.nets ≡ l.nets) × (l.halves.late.nets ≡ l.nets);
  early : program_covers l.halves.early ++ filter (is_picked (bit_at l.marks) true) (into_iter_items l.cover-iterator) ≡ filter (is_picked (bit_at l.marks) true) l.fn.covers.items;
  late : program_covers l.halves.late ++ filter (is_picked (bit_at l.marks) false) (into_iter_items l.cover-iterator) ≡ filter (is_picked (bit_at l.marks) false) l.fn.covers.items;
  rules : AllByRecursion IsFlatCover (into_iter_items l.cover-iterator);
  below : AllByRecursion (λ c. AllByRecursion (λ k. k < l.nets) c.ins × (c.out < l.nets)) (into_iter_items l.cover-iterator);
  counted : into_iter_len l.cover-iterator ≡ length (into_iter_items l.cover-iterator);
}
