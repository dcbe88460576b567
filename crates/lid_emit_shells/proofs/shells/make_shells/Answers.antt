use Rattle.std.proofs.Common.{◌≡◌, ◌+◌, ℕ, Bool, List, length, Some, slice_get, sym, subst}
use Rattle.lid_stations.specs.Placed.{Placing, IsPlaced}
use Rattle.lid_emit_cells.specs.declared.shell.Shell.{Shell}
use Rattle.lid_emit_shells.specs.Reading.{lasts_from}
use Rattle.lid_emit_shells.specs.Making.{IsMadeShell, AreBegun}
use Rattle.lid_emit_shells.proofs.Wiring.{are_shells}
use Rattle.lid_emit_shells.proofs.shells.make_shells.Goals as goal

pub returns : goal.returns
returns c =
    let d = c.args.checked.now in
    let s = c.args.placed.now.system in
    let p = c.args.placed.now.placement in
    let placed : IsPlaced s p = subst (λ (v : Placing). IsPlaced v.system v.placement) c.placed.view_is c.placed.invariant in
    let begun = subst (λ (v : Placing). (i : ℕ) (bits : List Bool) → slice_get c.in_ok-begins.begins.items i ≡ Some bits → AreBegun v.system (i + 1) bits) c.placed.view_is c.in_ok-begins.ensures.each in
    let many = subst (λ (v : Placing). length v.system.nodes ≡ length c.in_ok-begins.begins.items + 2) c.placed.view_is c.in_ok-begins.ensures.count in
    are_shells d s c.requires placed.formed p placed.fits (record { shells = c.from_vec.result; begins = c.from_vec-2.result })
    (subst (λ (xs : List Shell). length s.nodes ≡ length xs + 2) (sym c.from_vec.ensures) c.in_ok-shells.ensures.count)
    (subst (λ (xs : List (List Bool)). length s.nodes ≡ length xs + 2) (sym c.from_vec-2.ensures) many)
    (subst (λ (xs : List Shell). (i : ℕ) (shell : Shell) → slice_get xs i ≡ Some shell → IsMadeShell d s (lasts_from 0 p.relays) (i + 1) shell) (sym c.from_vec.ensures) c.in_ok-shells.ensures.each)
    (subst (λ (xs : List (List Bool)). (i : ℕ) (bits : List Bool) → slice_get xs i ≡ Some bits → AreBegun s (i + 1) bits) (sym c.from_vec-2.ensures) begun)
