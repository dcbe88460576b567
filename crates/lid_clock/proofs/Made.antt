-- What a firing makes of the part of an actor of a life, and of its tokens.
use Rattle.std.proofs.Common.{◌≡◌, ℕ, ◌+◌, ◌-◌, ◌<◌, ◌≤◌, Bool, cond, List, length, get_or, sym, ◌∙◌, ap, subst, arith, lt-ltb, le-ltb}
use Rattle.std.specs.Prelude.{Some, slice_get}
use Rattle.std.specs.Global.{Vec}
use Rattle.lid_system.specs.Streams.{output_row}
use Rattle.lid_shell_nodes.specs.Nodes.{tokens_to, tokens_from}
use Rattle.lid_shell_nodes.specs.Wiring.{SourceView, ShellView, SinkView, IsSourceOf, IsSinkOf}
use Rattle.lid_stations.specs.Placements.{links_of}
use Rattle.lid_shell_laws.specs.Runs.{cap_of}
use Rattle.lid_clock.specs.declared.part.Role.{Role}
use Rattle.lid_clock.specs.declared.part.Role.TheVariants.{Source, Shell, Mover, Sink}
use Rattle.lid_clock.specs.Rules.{RunsGoByRules}
use Rattle.lid_clock.specs.Lives.{Life, fired_after, sink, NeedsRow}
use Rattle.lid_clock.specs.Parts.{Passes, row_of}
use Rattle.lid_clock.specs.States.{outs_of, token_of_life, put_after, actors_of, HoldsLast, IsRole, MayBegin}
use Rattle.lid_shell_laws.proofs.Ends.{filled_is}
use Rattle.lid_clock.proofs.Tokens.{tokens_in, offers, node_next, mover_next, sink_fills_none, node_takes, node_puts, mover_puts}
use mathlib.Core.Logic.{dite}
use native.Mathlib.Decide.{ℕ_discrete}

-- what a firing makes
pub record IsMade (l : Life) (k g v : ℕ) (into : List ℕ) (new : Role) : Type 0 where
  pub is : IsRole l g v (fired_after l k v + 1) new
  pub puts : (i station : ℕ) → slice_get (outs_of l v) i ≡ Some station → get_or into i 0 ≡ token_of_life l station (put_after l k station)
  pub row : v ≡ sink l → row_of new ≡ Some (output_row l.setup.system l.setup.table (fired_after l k v))

-- an actor of a life that fires
pub record IsFiring (l : Life) (k g v : ℕ) (taken : List ℕ) : Type 0 where
  pub begins : MayBegin l k g
  pub there : v < actors_of l
  pub below : fired_after l k v < cap_of (links_of l.setup.system) (length l.setup.input) v
  pub takes : taken ≡ tokens_in l v (fired_after l k v)

-- the cap of the source and of the shells
cap_early : (l : Life) (v : ℕ) → v + 1 < length l.setup.system.nodes → cap_of (links_of l.setup.system) (length l.setup.input) v ≡ length l.setup.input - 1
cap_early l v early = ap (λ (b : Bool). cond b (length l.setup.input - 1) (length l.setup.input)) (lt-ltb (v + 1) (length l.setup.system.nodes) early)

-- the cap of the sink
pub cap_late : (l : Life) (v : ℕ) → length l.setup.system.nodes ≤ v + 1 → cap_of (links_of l.setup.system) (length l.setup.input) v ≡ length l.setup.input
cap_late l v late = ap (λ (b : Bool). cond b (length l.setup.input - 1) (length l.setup.input)) (le-ltb (v + 1) (length l.setup.system.nodes) late)

-- a source that may fire holds the next row
row_there : (l : Life) (k g v : ℕ) → v ≡ 0 → ¬ (NeedsRow l k g) → fired_after l k v + 1 < length l.setup.input → fired_after l k v + 1 ≤ g → g ≤ fired_after l k v + 2 → g ≡ fired_after l k v + 2
row_there l k g v first fed more low high =
    let same : fired_after l k v ≡ fired_after l k 0 = ap (fired_after l k) first in
    dite (ℕ_discrete g (fired_after l k v + 1))
    (λ lacks. absurd (fed (record { goes_on = omega arith; lacks = omega arith })))
    (λ other. omega arith)

-- a source that fires keeps its row, which stays the last one
row_stays : (l : Life) (g fired : ℕ) (row line : List Bool) → HoldsLast l g fired row → g ≡ fired + 2 → line ≡ row → HoldsLast l g (fired + 1) line
row_stays l g fired row line holds next same =
    record {
      next = omega arith;
      near = omega arith;
      is = holds.is ∙ ap (λ (xs : List Bool). Some xs) (sym same);
    }

source_made : (r : RunsGoByRules) (l : Life) (k g v : ℕ) (taken into : List ℕ) (node now : SourceView) (row line : Vec Bool)
    → IsFiring l k g v taken → IsRole l g v (fired_after l k v) (Source node row) → Passes (Source node row) taken into (Source now line) → IsMade l k g v into (Source now line)
source_made r l k g v taken into node now row line f is passes =
    let first : v ≡ 0 = is.0 in
    let least : 2 ≤ length l.setup.system.nodes = f.begins.rules.system.least in
    let early : v + 1 < length l.setup.system.nodes = omega arith in
    let below : fired_after l k v < cap_of (links_of l.setup.system) (length l.setup.input) v = f.below in
    let cap : cap_of (links_of l.setup.system) (length l.setup.input) v ≡ length l.setup.input - 1 = cap_early l v early in
    let goes : fired_after l k v + 1 < length l.setup.input = omega arith in
    let holds : HoldsLast l g (fired_after l k v) row.items = is.2 (omega arith) in
    let there : g ≡ fired_after l k v + 2 = row_there l k g v first f.begins.fed goes holds.next holds.near in
    let at : slice_get l.setup.input (fired_after l k v + 1) ≡ Some row.items = subst (λ (n : ℕ). slice_get l.setup.input n ≡ Some row.items) (omega arith) holds.is in
    let made : into ≡ tokens_from l.setup.system l.setup.table 0 (fired_after l k v + 1) = passes.2 l.setup.system l.setup.input l.setup.table (fired_after l k v + 1) f.begins.rules.system is.1 f.begins.rules.table at in
    let own : into ≡ tokens_from l.setup.system l.setup.table v (fired_after l k v + 1) = made ∙ ap (λ (n : ℕ). tokens_from l.setup.system l.setup.table n (fired_after l k v + 1)) (sym first) in
    record {
      is = (first, subst (IsSourceOf l.setup.system) (sym passes.0) is.1, λ some. row_stays l g (fired_after l k v) row.items line.items holds there passes.1);
      puts =
          offers l k v (fired_after l k v + 1) into (own ∙ sym (node_puts r l v (fired_after l k v + 1) f.begins.rules (omega arith)))
          (λ station inside fills. node_next r l k v station f.begins.rules (omega arith) (omega arith) inside fills);
      row = λ last. let sunk : v ≡ length l.setup.system.nodes - 1 = last in absurd (omega arith);
    }

shell_made : (r : RunsGoByRules) (l : Life) (k g v : ℕ) (taken into : List ℕ) (node now : ShellView)
    → IsFiring l k g v taken → IsRole l g v (fired_after l k v) (Shell node) → Passes (Shell node) taken into (Shell now) → IsMade l k g v into (Shell now)
shell_made r l k g v taken into node now f is passes =
    let early : v + 1 < length l.setup.system.nodes = is.1 in
    let below : fired_after l k v < cap_of (links_of l.setup.system) (length l.setup.input) v = f.below in
    let cap : cap_of (links_of l.setup.system) (length l.setup.input) v ≡ length l.setup.input - 1 = cap_early l v early in
    let goes : fired_after l k v + 1 < length l.setup.input = omega arith in
    let takes : taken ≡ tokens_to l.setup.system l.setup.table v (fired_after l k v) = f.takes ∙ node_takes r l v (fired_after l k v) f.begins.rules (omega arith) in
    let made = passes.gives l.setup.system l.setup.input l.setup.table v (fired_after l k v) f.begins.rules.system f.begins.rules.table goes is.2 takes in
    record {
      is = (is.0, is.1, passes.goes l.setup.system l.setup.input l.setup.table v (fired_after l k v) f.begins.rules.system f.begins.rules.table (omega arith) is.2 takes);
      puts =
          offers l k v (fired_after l k v + 1) into (made ∙ sym (node_puts r l v (fired_after l k v + 1) f.begins.rules (omega arith)))
          (λ station inside fills. node_next r l k v station f.begins.rules (omega arith) (omega arith) inside fills);
      row = λ last. let sunk : v ≡ length l.setup.system.nodes - 1 = last in absurd (omega arith);
    }

mover_made : (r : RunsGoByRules) (l : Life) (k g v : ℕ) (taken into : List ℕ)
    → IsFiring l k g v taken → IsRole l g v (fired_after l k v) Mover → Passes Mover taken into Mover → IsMade l k g v into Mover
mover_made r l k g v taken into f is passes =
    let past : length l.setup.system.nodes ≤ v = is in
    let least : 2 ≤ length l.setup.system.nodes = f.begins.rules.system.least in
    record {
      is = past;
      puts =
          offers l k v (fired_after l k v) into (passes ∙ f.takes ∙ mover_puts r l v (fired_after l k v) f.begins.rules past f.there)
          (λ station inside fills. mover_next r l k v station f.begins.rules past inside fills);
      row = λ last. let sunk : v ≡ length l.setup.system.nodes - 1 = last in absurd (omega arith);
    }

sink_made : (r : RunsGoByRules) (l : Life) (k g v : ℕ) (taken into : List ℕ) (node now : SinkView) (row line : Vec Bool)
    → IsFiring l k g v taken → IsRole l g v (fired_after l k v) (Sink node row) → Passes (Sink node row) taken into (Sink now line) → IsMade l k g v into (Sink now line)
sink_made r l k g v taken into node now row line f is passes =
    let last : v + 1 ≡ length l.setup.system.nodes = is.last in
    let below : fired_after l k v < cap_of (links_of l.setup.system) (length l.setup.input) v = f.below in
    let cap : cap_of (links_of l.setup.system) (length l.setup.input) v ≡ length l.setup.input = cap_late l v (omega arith) in
    let takes : taken ≡ tokens_to l.setup.system l.setup.table v (fired_after l k v) = f.takes ∙ node_takes r l v (fired_after l k v) f.begins.rules (omega arith) in
    let made : line.items ≡ output_row l.setup.system l.setup.table (fired_after l k v) = passes.1 l.setup.system l.setup.input l.setup.table v (fired_after l k v) f.begins.rules.system f.begins.rules.table (omega arith) is takes in
    record {
      is = subst (IsSinkOf l.setup.system v) (sym passes.0) is;
      puts = λ i station at. let own = filled_is (links_of l.setup.system) l.setup.placement v i station at in absurd (sink_fills_none r l v station f.begins.rules last own.0 own.1);
      row = λ _. ap (λ (xs : List Bool). Some xs) made;
    }

-- a firing makes what it should
pub made : (r : RunsGoByRules) (l : Life) (k g v : ℕ) (taken into : List ℕ) (old new : Role)
    → IsFiring l k g v taken → IsRole l g v (fired_after l k v) old → Passes old taken into new → IsMade l k g v into new
made r l k g v taken into (Source node row) (Source now line) f is passes = source_made r l k g v taken into node now row line f is passes
made r l k g v taken into (Shell node) (Shell now) f is passes = shell_made r l k g v taken into node now f is passes
made r l k g v taken into Mover Mover f is passes = mover_made r l k g v taken into f is passes
made r l k g v taken into (Sink node row) (Sink now line) f is passes = sink_made r l k g v taken into node now row line f is passes
made r l k g v taken into _ _ f is passes = absurd passes
