-- The pearls of an elaboration in the graph of what its columns read.
use Rattle.std.proofs.Common.{◌≡◌, ◌≤◌, ◌<◌, ◌↔◌, ℕ, Bool, true, List, length, map, sym, subst, ◌∙◌}
use Rattle.std.specs.List.{AllByRecursion}
use Rattle.lid_design.specs.declared.Design.{Design}
use Rattle.lid_design.specs.Feeds.{read_now}
use Rattle.lid_check_digraph.specs.Graphs.{flag}
use Rattle.lid_check_elab.specs.declared.driver.ColumnDriver.{ColumnDriver}
use Rattle.lid_check_elab.specs.Elaborations.{driver_reads, shown_driver, IsElaborated}
use Rattle.lid_check_loops.specs.declared.pearls.Pearl.{Pearl}
use Rattle.lid_check_loops.specs.Pearls.{IsFittingPearl, ArePearls, CutsOff, count_cut}
use Rattle.lid_check_loops.proofs.Numbered.{reads_shown}
use Rattle.lid_check_loops.proofs.Assembly.{cut_within, pearls_fit, all_cut_off}

-- pearls fit into a graph, and a cut of the root's columns keeps walks in them
pub record AreIn (d : Design) (g : List (List ℕ)) (ps : List Pearl) : Type 0 where
  pub within : count_cut d ≤ length g
  pub fit : AllByRecursion (IsFittingPearl d (length g)) ps
  pub apart : (cut : List Bool) → ((k : ℕ) → (flag cut k ≡ true) ↔ (k < count_cut d)) → CutsOff d g cut ps

pub are_in : (d e : Design) → d ≡ e → (ds : List ColumnDriver) (starts : List ℕ) → IsElaborated e (map (shown_driver e) ds) starts → (g : List (List ℕ)) → g ≡ map driver_reads ds → (seen : List ℕ) → seen ≡ starts → (ps : List Pearl) → ArePearls d seen ps → AreIn d g ps
are_in d e same ds starts elaborated g reads seen whole ps pearls =
    let network = map (shown_driver e) ds in
    let is = subst (λ (x : Design). IsElaborated x network starts) (sym same) elaborated in
    let are = subst (λ (xs : List ℕ). ArePearls d xs ps) whole pearls in
    let there : AreIn d (map read_now network) ps = record {
      within = cut_within d network starts is ps are;
      fit = pearls_fit d network starts is ps are;
      apart = λ cut are_cut led are_led. all_cut_off d network starts is ps are cut are_led.0 led are_cut are_led.1 are_led.2;
    } in
    subst (λ (h : List (List ℕ)). AreIn d h ps) (sym (reads ∙ reads_shown e ds)) there
