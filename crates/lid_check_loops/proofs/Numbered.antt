-- Walks of numbers are walks of the columns that have these numbers.
use Rattle.std.proofs.Common.{◌≡◌, ℕ, zero, suc, ◌<◌, ◌≤◌, List, [], ◌∷◌, ◌++◌, length, map, get_or, reverse, Some, option_map, slice_get, inl, inr, refl, sym, ◌∙◌, ap, subst, arith}
use Rattle.std.proofs.lemmas.List.{length-map, reverse-reverse}
use Rattle.std.proofs.lemmas.Option.{slice_get_within, slice_get-get_or, slice_get-map, get_or_from_slice_get}
use Rattle.lid_base.specs.Lists.{Among}
use Rattle.lid_base.proofs.Lists.{among_left, among_map, map_among, among_get, all_among}
use Rattle.lid_design.specs.declared.Design.{Design}
use Rattle.lid_design.specs.Network.{Driver, from_input, from_latch, from_cover, from_connection}
use Rattle.lid_design.specs.Columns.{Column, column, drivers}
use Rattle.lid_design.specs.Walks.{read_before}
use Rattle.lid_design.specs.Feeds.{read_now, Feeds, EdgesLead as WalkOf}
use Rattle.lid_design.specs.Elaboration.{columns}
use Rattle.lid_design.specs.Loops.{IsOnLoop as IsColumnOnLoop, HasNoLoop as HasNoColumnLoop}
use Rattle.lid_check_digraph.specs.Graphs.{reads_at, IsGraph, EdgesLead, IsOnLoop, HasNoLoop}
use Rattle.lid_check_digraph.specs.Results.{IsFound, IsLeastOnLoop}
use Rattle.lid_check_digraph.specs.declared.topological.Found.{Found}
use Rattle.lid_check_digraph.specs.declared.topological.Found.TheVariants.{Order}
use Rattle.lid_check_elab.specs.Elaborations.{driver_reads, shown_driver, map_driver, column_at, IsElaborated}
use Rattle.lid_check_elab.specs.declared.driver.ColumnDriver.{ColumnDriver}
use Rattle.lid_check_elab.specs.declared.driver.ColumnDriver.TheVariants.{Input, Latch, Cover as OfCover, Connection}
use Rattle.lid_check_rules.specs.declared.fault.CheckFault.TheVariants.{CombLoop}
use Rattle.lid_check_loops.specs.Dependence.{IsFirstOnLoop, TellsLoop}

-- what drivers read does not depend on what their covers are
pub reads_shown : (d : Design) (ds : List ColumnDriver) → map driver_reads ds ≡ map read_now (map (shown_driver d) ds)
reads_shown d [] = refl
reads_shown d (x ∷ ds) =
    let head = one x in
    let tail = reads_shown d ds in
    cc
  where
    one : (x : ColumnDriver) → driver_reads x ≡ read_now (shown_driver d x)
    one (Input place) = refl
    one (Latch first input) = refl
    one (OfCover model cell inputs) = refl
    one (Connection other) = refl

read_now_map : {A B : Type 0} (f : A → B) (s : Driver A) → read_now (map_driver f s) ≡ map f (read_now s)
read_now_map f (from_input j) = refl
read_now_map f (from_latch first input) = refl
read_now_map f (from_cover cover inputs) = refl
read_now_map f (from_connection a) = refl

module _ (d : Design) (network : List (Driver ℕ)) (starts : List ℕ) (is : IsElaborated d network starts) where
  abbrev pub graph : List (List ℕ)
  graph = map read_now network

  pub graph_length : length graph ≡ length network
  graph_length = length-map network read_now

  -- a number below the length is that of a column
  pub column_here : (k : ℕ) → k < length network → slice_get (columns d) k ≡ Some (column_at d k)
  column_here k h = let whole = is.whole in slice_get-get_or (columns d) k (column [] []) (omega arith)

  pub column_is : (k : ℕ) (c : Column) → slice_get (columns d) k ≡ Some c → column_at d k ≡ c
  column_is k c here = get_or_from_slice_get (columns d) k c (column [] []) here

  pub within : (k : ℕ) (c : Column) → slice_get (columns d) k ≡ Some c → k < length network
  within k c here = let h = slice_get_within (columns d) k c here in let whole = is.whole in omega arith

  pub same_number : (j k : ℕ) → j < length network → k < length network → column_at d j ≡ column_at d k → j ≡ k
  same_number j k hj hk equal = is.once j k (column_at d k) (column_here j hj ∙ ap Some equal) (column_here k hk)

  -- what a number reads, from its driver
  reads_are : (k : ℕ) (driver : Driver ℕ) → slice_get network k ≡ Some driver → reads_at graph k ≡ read_now driver
  reads_are k driver here = get_or_from_slice_get graph k (read_now driver) [] (slice_get-map read_now network k ∙ ap (option_map read_now) here)

  none_past : (gs : List (List ℕ)) (k b : ℕ) → Among b (get_or gs k []) → k < length gs
  none_past [] k b among = absurd among
  none_past (g ∷ gs) zero b among = omega arith
  none_past (g ∷ gs) (suc k) b among = let h = none_past gs k b among in omega arith

  pub reader_within : (k b : ℕ) → Among b (reads_at graph k) → k < length network
  reader_within k b among = let h = none_past graph k b among in let long = graph_length in omega arith

  -- an edge of numbers is one of columns
  pub edge_down : (k b : ℕ) → Among b (reads_at graph k) → (b < length network) × Feeds (drivers d) (column_at d b) (column_at d k)
  edge_down k b among =
      let driven = is.each k (column_at d k) (column_here k (reader_within k b among)) in
      let here : Among b (read_now driven.driver) = subst (λ (xs : List ℕ). Among b xs) (reads_are k driven.driver driven.here) among in
      let below = all_among (λ (a : ℕ). a < length network) (read_now driven.driver ++ read_before driven.driver) b driven.below (among_left b (read_now driven.driver) (read_before driven.driver) here) in
      let mapped : Among (column_at d b) (read_now (map_driver (column_at d) driven.driver)) = subst (λ (xs : List Column). Among (column_at d b) xs) (sym (read_now_map (column_at d) driven.driver)) (among_map (column_at d) b (read_now driven.driver) here) in
      (below, (map_driver (column_at d) driven.driver, subst (λ (ss : List (Driver Column)). Among (map_driver (column_at d) driven.driver) ss) (sym driven.only) (inl refl), mapped))

  one_driver : (s t : Driver Column) → Among s (t ∷ []) → s ≡ t
  one_driver s t (inl e) = e
  one_driver s t (inr none) = absurd none

  -- an edge of columns to one with a number is one of numbers
  pub edge_up : (k : ℕ) (a : Column) → k < length network → Feeds (drivers d) a (column_at d k) → (b : ℕ) × (b < length network) × (column_at d b ≡ a) × Among b (reads_at graph k)
  edge_up k a h feeds =
      let driven = is.each k (column_at d k) (column_here k h) in
      let driver = one_driver feeds.0 (map_driver (column_at d) driven.driver) (subst (λ (ss : List (Driver Column)). Among feeds.0 ss) driven.only feeds.1) in
      let read : Among a (read_now (map_driver (column_at d) driven.driver)) = subst (λ (s : Driver Column). Among a (read_now s)) driver feeds.2 in
      let found = map_among (column_at d) a (read_now driven.driver) (subst (λ (xs : List Column). Among a xs) (read_now_map (column_at d) driven.driver) read) in
      let below = all_among (λ (x : ℕ). x < length network) (read_now driven.driver ++ read_before driven.driver) found.0 driven.below (among_left found.0 (read_now driven.driver) (read_before driven.driver) found.1) in
      (found.0, below, sym found.2, subst (λ (xs : List ℕ). Among found.0 xs) (sym (reads_are k driven.driver driven.here)) found.1)

  pub walk_down : (n a k : ℕ) → EdgesLead graph n a k → WalkOf (drivers d) n (column_at d a) (column_at d k)
  walk_down zero a k w = ap (column_at d) w
  walk_down (suc n) a k w = (column_at d w.0, walk_down n a w.0 w.1, (edge_down k w.0 w.2).1)

  pub walk_up : (n : ℕ) (a : Column) (k : ℕ) → k < length network → WalkOf (drivers d) n a (column_at d k) → (j : ℕ) × (j < length network) × (column_at d j ≡ a) × EdgesLead graph n j k
  walk_up zero a k h w = (k, h, sym w, refl)
  walk_up (suc n) a k h w =
      let edge = edge_up k w.0 h w.2 in
      let before = walk_up n a edge.0 edge.1 (subst (λ (c : Column). WalkOf (drivers d) n a c) (sym edge.2) w.1) in
      (before.0, before.1, before.2, (edge.0, before.3, edge.3))

  pub is_graph : length network ≤ 1048576 → IsGraph graph
  is_graph few = record {
    few = let long = graph_length in omega arith;
    within = λ c b among. let below = (edge_down c b among).0 in let long = graph_length in omega arith;
  }

  pub loop_within : (k : ℕ) → IsOnLoop graph k → k < length network
  loop_within k on = reader_within k on.1.0 on.1.2

  -- a number lies on a closed walk exactly where its column does
  pub loop_down : (k : ℕ) → IsOnLoop graph k → IsColumnOnLoop d (column_at d k)
  loop_down k on = (on.0, walk_down (suc on.0) k k on.1)

  pub loop_up : (k : ℕ) → k < length network → IsColumnOnLoop d (column_at d k) → IsOnLoop graph k
  loop_up k h on =
      let up = walk_up (suc on.0) (column_at d k) k h on.1 in
      (on.0, subst (λ (j : ℕ). EdgesLead graph (suc on.0) j k) (same_number up.0 k up.1 h up.2) up.3)

  -- a column on a closed walk has a number
  fed : {C : Type 0} (s : Driver C) (ss : List (Driver C)) → Among s ss → 0 < length ss
  fed s [] among = absurd among
  fed s (t ∷ ss) among = omega arith

  pub fed_number : (a c : Column) → Feeds (drivers d) a c → (k : ℕ) × (slice_get (columns d) k ≡ Some c)
  fed_number a c feeds = among_get (columns d) c (is.every c (fed feeds.0 (drivers d c) feeds.1))

  loop_number : (c : Column) → IsColumnOnLoop d c → (k : ℕ) × (k < length network) × (column_at d k ≡ c)
  loop_number c on = let found = fed_number on.1.0 c on.1.2 in (found.0, within found.0 c found.1, column_is found.0 c found.1)

  pub no_loop : HasNoLoop graph → HasNoColumnLoop d
  no_loop none c on =
      let number = loop_number c on in
      none number.0 (loop_up number.0 number.1 (subst (λ (x : Column). IsColumnOnLoop d x) (sym number.2) on))

  -- where numbers have an order, no column lies on a closed walk
  pub ordered_has_none : (reads : List (List ℕ)) (found : Found) (order : List ℕ) → reads ≡ graph → IsFound reads found → found ≡ Order order → HasNoColumnLoop d
  ordered_has_none reads found order same is ordered = no_loop (subst (λ (g : List (List ℕ)). HasNoLoop g) same (subst (λ (f : Found). IsFound reads f) ordered is).1)

  -- the least number on a closed walk is that of the first column on one
  pub first_loop : (k : ℕ) → IsLeastOnLoop graph k → IsFirstOnLoop d k
  first_loop k least = record {
    c = column_at d k;
    here = column_here k (loop_within k least.on);
    on = loop_down k least.on;
    first = λ j b below there on. least.least j below (loop_up j (within j b there) (subst (λ (x : Column). IsColumnOnLoop d x) (sym (column_is j b there)) on));
  }

-- the first column on a closed walk, told by its path and its name
pub tells_loop : (d : Design) (k : ℕ) (path net : List ℕ) → IsFirstOnLoop d k → slice_get (columns d) k ≡ Some (column (reverse path) net) → TellsLoop d (CombLoop path net)
tells_loop d k path net first here =
    let alike : Some first.c ≡ Some (column (reverse path) net) = sym first.here ∙ here in
    let told : first.c ≡ column (reverse path) net = cc in
    record {
      k = k;
      is = first;
      told = ap (λ (p : List ℕ). CombLoop p net) (sym (reverse-reverse path)) ∙ ap (λ (c : Column). CombLoop (reverse c.path) c.net) (sym told);
    }
