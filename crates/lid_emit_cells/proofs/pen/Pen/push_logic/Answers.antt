use Rattle.std.proofs.Common.{◌≡◌, ℕ, ◌<◌, Bool, true, false, List, length, get_or, Some, slice_get, sym, ◌∙◌, ap, subst, arith}
use Rattle.std.specs.List.{AllByRecursion}
use Rattle.std.proofs.lemmas.Option.{slice_get-get_or}
use Rattle.lid_base.proofs.Lists.{all_among}
use Rattle.lid_base.proofs.Results.{on_ok}
use Rattle.lid_design.specs.declared.FlatCover.{FlatCover}
use Rattle.lid_emit_cells.specs.declared.wire.Wire.{Wire}
use Rattle.lid_emit_cells.specs.declared.shell.Shell.{Shell}
use Rattle.lid_emit_cells.specs.Matches.{AreWires, IsWhole}
use Rattle.lid_base.specs.Lists.{Among}
use Rattle.lid_emit_cells.proofs.Shells.{cover_skipped, cover_done}
use Rattle.lid_emit_cells.proofs.pen.Pen.push_logic.Goals as goal

below : (shell : Shell) (c : FlatCover) → IsWhole shell → Among c shell.flat.covers → AllByRecursion (λ k. k < shell.flat.nets) c.ins × (c.out < shell.flat.nets)
below shell c whole there = all_among (λ (c : FlatCover). AllByRecursion (λ k. k < shell.flat.nets) c.ins × (c.out < shell.flat.nets)) shell.flat.covers c whole.rules.below.covers there

reads_below : (shell : Shell) (c : FlatCover) (ws : List Wire) → IsWhole shell → Among c shell.flat.covers → length ws ≡ shell.flat.nets → AllByRecursion (λ k. k < length ws) c.ins
reads_below shell c ws whole there long = subst (λ (n : ℕ). AllByRecursion (λ k. k < n) c.ins) (sym long) (below shell c whole there).0

skip_at : (shell : Shell) (c : FlatCover) (bits : List Bool) (b : Bool) → IsWhole shell → Among c shell.flat.covers → bits ≡ shell.skips → get_or bits c.out false ≡ b → slice_get shell.skips c.out ≡ Some b
skip_at shell c bits b whole there same is =
    slice_get-get_or shell.skips c.out false (omega (arith, whole.skips, (below shell c whole there).1))
    ∙ ap (λ (x : Bool). Some x) (ap (λ (xs : List Bool). get_or xs c.out false) (sym same) ∙ is)

pub bounds-as_slice-c : goal.bounds-as_slice-c
bounds-as_slice-c c = let long : length c.as_slice.result.now ≡ length c.args.shell.now.skips = ap length c.as_slice.ensures in omega (arith, c.requires.whole.skips, (below c.args.shell.now c.args.c.now c.requires.whole c.requires.there).1)

pub returns-then-as_slice-c : goal.returns-then-as_slice-c
returns-then-as_slice-c c = λ q is. cover_skipped q c.args.v c.args.shell.now c.requires.whole is c.args.c.now c.requires.there c.args.self.now (is.skips c.args.c.now.out true (skip_at c.args.shell.now c.args.c.now c.as_slice.result.now true c.requires.whole c.requires.there c.as_slice.ensures c.if-as_slice-c.true))

pub push_net-requires : goal.push_net-requires
push_net-requires c = reads_below c.args.shell.now c.args.c.now c.as_slice-2.result.now c.requires.whole c.requires.there (ap length c.as_slice-2.ensures ∙ c.requires.whole.here)

pub push_net-requires-2 : goal.push_net-requires-2
push_net-requires-2 c = reads_below c.args.shell.now c.args.c.now c.as_slice-3.result.now c.requires.whole c.requires.there (ap length c.as_slice-3.ensures ∙ c.requires.whole.after)

pub returns : goal.returns
returns c =
    on_ok c.push_net-2.result (λ h q is.
    cover_done q c.args.v c.args.shell.now c.requires.whole is c.args.c.now c.requires.there c.args.self.now c.push_net.new.self c.push_net-2.new.self
    (is.skips c.args.c.now.out false (skip_at c.args.shell.now c.args.c.now c.as_slice.result.now false c.requires.whole c.requires.there c.as_slice.ensures c.if-as_slice-c.false))
    (c.in_ok-push_net.ensures (q.here c.args.v) (subst (AreWires (q.here c.args.v)) (sym c.as_slice-2.ensures) is.here))
    (h (q.after c.args.v) (subst (AreWires (q.after c.args.v)) (sym c.as_slice-3.ensures) is.after)))
    c.push_net-2.ensures
