-- The part takes what is taken, and makes what is put.
use Rattle.std.proofs.Common.{◌≡◌, length, ◌∙◌, ap}
use Rattle.std.proofs.Common.{drop}
use Rattle.std.proofs.lemmas.List.{take_at}
use Rattle.lid_shell.proofs.Made.{to_pass, has_made}
use Rattle.lid_shell.proofs.actor.Actor.make.Goals as goal

pub pass-requires : goal.pass-requires
pass-requires c =
    let q = c.requires in
    record { setup = q.setup; number = q.number; passing = to_pass q.setup q.number q.far c.args.self.now c.as_slice-taken.result.now c.as_mut_slice.result.now q.to_make c.as_slice-taken.ensures c.as_mut_slice.ensures.value }

pub returns-clause-made : goal.returns-clause-made
returns-clause-made c = λ m v q h.
    let many : length c.pass.new.into ≡ length c.args.self.now.desk.tokens.items = c.pass.ensures.many ∙ ap length c.as_mut_slice.ensures.value in
    has_made m v q c.args.self.now c.pass.new.into _ c.pass.new.self h
    (c.pass.ensures.passes m v (to_pass m v q c.args.self.now c.as_slice-taken.result.now c.as_mut_slice.result.now h c.as_slice-taken.ensures c.as_mut_slice.ensures.value))
    (take_at c.pass.new.into (drop (length c.pass.new.into) c.args.self.now.desk.tokens.items) (length c.args.self.now.desk.tokens.items) many) many
