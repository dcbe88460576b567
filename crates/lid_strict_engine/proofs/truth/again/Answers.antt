use Rattle.std.proofs.Common.{ℕ, ◌+◌, ap, arith}
use Rattle.lid_strict_engine.proofs.Tabling.{room_again, shift_small}
use Rattle.lid_strict_engine.proofs.truth.again.Goals as goal

pub overflow_shl-result-2 : goal.overflow_shl-result-2
overflow_shl-result-2 c = shift_small c.args.e c.requires.few

pub overflow_add-result : goal.overflow_add-result
overflow_add-result c = let room = room_again c.args.e c.args.bits c.requires.few c.requires.small in let is = room.0 in let less = room.1 in omega arith

pub returns : goal.returns
returns c = let room = room_again c.args.e c.args.bits c.requires.few c.requires.small in ap (λ (n : ℕ). c.args.bits + n) room.0
