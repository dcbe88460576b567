use Rattle.std.proofs.Common.{◌≡◌, ℕ, ◌+◌, length, subst, arith}
use Rattle.lid_emit_cells.specs.declared.shell.Shell.{Shell}
use Rattle.lid_emit_shells.specs.Making.{IsMadeShell}
use Rattle.lid_emit_shells.proofs.Pushing.{pushed_length}
use Rattle.lid_base.proofs.Places.{pushed_each}
use Rattle.lid_emit_shells.proofs.shells.all_shells.Goals as goal

pub loop-v-preserved : goal.loop-v-preserved
loop-v-preserved c =
    let d = c.args.checked.now in
    let s = c.args.system.now in
    let lasts = c.args.lasts.now in
    let place : c.loop-v.v ≡ length c.loop-v.shells.items + 1 = c.loop-v.invariant.counted in
    record {
      counted = (let long = pushed_length c.loop-v.shells.items c.push.new.self.items c.in_ok-shell_at.field-0 c.in_ok-push.ensures.items in omega arith);
      each =
          pushed_each (λ (i : ℕ) (shell : Shell). IsMadeShell d s lasts (i + 1) shell) c.loop-v.shells.items c.push.new.self.items c.in_ok-shell_at.field-0 (length c.loop-v.shells.items) c.in_ok-push.ensures.items (omega arith) c.loop-v.invariant.each (subst (λ (v : ℕ). IsMadeShell d s lasts v c.in_ok-shell_at.field-0) place c.in_ok-shell_at.ensures);
    }
