-- All cells, put together.
use Rattle.std.proofs.Common.{◌≡◌, ℕ, suc, ◌+◌, ◌<◌, List, [], ◌++◌, length, get_or, flat_map, Some, slice_get, sym, ◌∙◌, ap, arith, append_assoc}
use Rattle.std.proofs.lemmas.List.{append-nil}
use Rattle.std.proofs.lemmas.Option.{slice_get-get_or}
use Rattle.std.proofs.lemmas.Grind.{flat_map-append}
use Rattle.lid_design.specs.declared.FlatLatch.{FlatLatch}
use Rattle.lid_design.specs.declared.FlatCover.{FlatCover}
use Rattle.lid_base.specs.Each.{from_each}
use Rattle.lid_emit_circuit.specs.Wires.{Wire}
use Rattle.lid_emit_circuit.specs.Plans.{CircuitPlan}
use Rattle.lid_emit_circuit.specs.Lists.{outer_wires, station_wires, actor_wires, latch_wires, cover_wires, shell_wires, wires}
use Rattle.lid_emit_cells.specs.declared.all.All.{All}
use Rattle.lid_emit_cells.specs.Drafts.{Draft, with_wires}
use Rattle.lid_emit_cells.specs.Matches.{IsBare, IsAllOf}
use Rattle.lid_emit_cells.proofs.Drafting.{more_wires}
use Rattle.lid_base.proofs.Each.{each_append}

-- an item that was read by its place
pub item_there : {A : Type 0} (xs items : List A) (i : ℕ) (x : A) → items ≡ xs → i < length items → x ≡ get_or items i x → slice_get xs i ≡ Some x
item_there {A} xs items i x same below is = ap (λ (ys : List A). slice_get ys i) (sym same) ∙ slice_get-get_or items i x below ∙ ap (λ (y : A). Some y) (sym is)

module _ (q : CircuitPlan) (all : All) (is : IsAllOf q all) where
  abbrev stations : ℕ → List Wire
  stations n = flat_map (station_wires q) (from_each (λ s. s) 0 n)

  abbrev actors : ℕ → List Wire
  actors n = flat_map (actor_wires q) (from_each (λ v. v) 0 n)

  abbrev shells : ℕ → List Wire
  shells n = flat_map (shell_wires q) (from_each (λ v. v) 1 n)

  none_at : (v : ℕ) → IsBare (q.flat v) → shell_wires q v ≡ []
  none_at v bare =
      ap (λ (ls : List FlatLatch). flat_map (latch_wires v) ls ++ flat_map (cover_wires q v) (q.flat v).covers) bare.latches
      ∙ ap (λ (cs : List FlatCover). flat_map (cover_wires q v) cs) bare.covers

  abbrev many : ℕ
  many = length all.shells

  -- neither the source nor the sink has wires of nets
  shells_are : flat_map (shell_wires q) (from_each (λ v. v) 0 q.nodes) ≡ shells many
  shells_are =
      (let count : q.nodes ≡ suc many + 1 = omega (arith, is.nodes) in ap (λ (n : ℕ). flat_map (shell_wires q) (from_each (λ v. v) 0 n)) count)
      ∙ ap (flat_map (shell_wires q)) (each_append (λ v. v) 0 (suc many) 1)
      ∙ flat_map-append (shell_wires q) (from_each (λ v. v) 0 (suc many)) (from_each (λ v. v) (0 + suc many) 1)
      ∙ ap (λ (ws : List Wire). flat_map (shell_wires q) (from_each (λ v. v) 0 (suc many)) ++ (ws ++ [])) (let last : 0 + suc many ≡ many + 1 = omega arith in ap (shell_wires q) last ∙ none_at (many + 1) is.last_bare)
      ∙ append-nil (flat_map (shell_wires q) (from_each (λ v. v) 0 (suc many)))
      ∙ ap (λ (ws : List Wire). ws ++ shells many) (none_at 0 is.first_bare)

  pub all_done : (old first second third fourth : Draft)
      → first ≡ with_wires q old (outer_wires q) → second ≡ with_wires q first (stations (length all.stations)) → third ≡ with_wires q second (actors (length all.actors)) → fourth ≡ with_wires q third (shells many)
      → fourth ≡ with_wires q old (wires q)
  all_done old first second third fourth one two three last =
      let outer = outer_wires q in
      let some = stations (length all.stations) in
      let others = actors (length all.actors) in
      more_wires q old third fourth ((outer ++ some) ++ others) (shells many) (more_wires q old second third (outer ++ some) others (more_wires q old first second outer some one two) three) last
      ∙ ap (with_wires q old) (append_assoc (outer_wires q ++ stations (length all.stations)) (actors (length all.actors)) (shells many)
      ∙ append_assoc (outer_wires q) (stations (length all.stations)) (actors (length all.actors) ++ shells many)
      ∙ ap (λ (n : ℕ). outer_wires q ++ (stations n ++ (actors (length all.actors) ++ shells many))) (sym is.stations)
      ∙ ap (λ (n : ℕ). outer_wires q ++ (stations q.stations ++ (actors n ++ shells many))) (sym is.actors)
      ∙ ap (λ (ws : List Wire). outer_wires q ++ (stations q.stations ++ (actors q.actors ++ ws))) (sym shells_are))
