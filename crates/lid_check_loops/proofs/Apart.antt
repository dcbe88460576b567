-- Past the cut, walks of numbers stay in a pearl.
use Rattle.std.proofs.Common.{◌≡◌, ◌⊎◌, ◌↔◌, ℕ, zero, suc, ◌+◌, ◌<◌, Bool, true, false, cond, List, [], ◌∷◌, length, find, position, get_or, Option, Some, None, option_map, option_and_then, slice_get, inl, inr, refl, sym, ◌∙◌, ap, subst, arith}
use Rattle.std.specs.Option.{option_map_or}
use Rattle.std.specs.Str.{bytes_eq}
use Rattle.std.proofs.lemmas.Slice.Eq.{bytes_eq-Decides}
use Rattle.std.proofs.lemmas.Option.{slice_get_within, slice_get-get_or}
use Rattle.std.proofs.lemmas.List.Quantifiers.{position-Some}
use Rattle.lid_base.specs.Lists.{Among}
use Rattle.lid_base.proofs.Lists.{get_among}
use Rattle.lid_check_hierarchy.proofs.Fixpoints.{find_position}
use Rattle.lid_design.specs.declared.Design.{Design}
use Rattle.lid_design.specs.Network.{Driver}
use Rattle.lid_design.specs.Columns.{Column, column, drivers, model_at}
use Rattle.lid_design.specs.Feeds.{Feeds}
use Rattle.lid_design.specs.Models.{number_from, data_inputs_of}
use Rattle.lid_design.specs.Elaboration.{model_nets, columns}
use Rattle.lid_design.specs.Loops.{IsInside, WalkInside, IsDependent}
use Rattle.lid_check_digraph.specs.Graphs.{flag, WalkPast, IsReached}
use Rattle.lid_check_elab.specs.Elaborations.{column_at, StartsAt, IsElaborated}
use Rattle.lid_check_loops.specs.declared.pearls.Pearl.{Pearl}
use Rattle.lid_check_loops.specs.Pearls.{number_in, IsInputOf, IsFittingPearl, is_marked, LeadsInPearl, IsCutOff, AreReachedIn}
use Rattle.lid_check_loops.proofs.Numbered.{graph, graph_length, column_here, column_is, within, edge_down, edge_up, fed_number}
use Rattle.lid_check_loops.proofs.Geometry.{input_net, column_net}
use Rattle.lid_check_loops.proofs.Leads.{marked_number}

-- a pearl with its path
pub record IsPlaced (d : Design) (path : List ℕ) (pearl : Pearl) : Type 0 where
  pub number : number_from d d.root path ≡ Some pearl.model
  pub starts_at : StartsAt d path pearl.start

position_get : (net : List ℕ) (names : List (List ℕ)) (j : ℕ) → position (bytes_eq net) names ≡ Some j → slice_get names j ≡ Some net
position_get net names j at =
    let found = position-Some (bytes_eq net) names j [] at in
    let is : net ≡ get_or names j [] = (bytes_eq-Decides net (get_or names j [])).0 found.1 in
    slice_get-get_or names j [] found.0 ∙ ap Some (sym is)

not_lost : {A : Type 0} (p : A → Bool) (x : A) (xs : List A) → Among x xs → p x ≡ true → find p xs ≡ None → ⊥
not_lost p x [] among on none = among
not_lost {A} p x (y ∷ ys) among on none = by (p y) refl among none (λ later lost. not_lost p x ys later on lost)
  where
    by : (b : Bool) → p y ≡ b → (x ≡ y) ⊎ Among x ys → cond b (Some y) (find p ys) ≡ None → (Among x ys → find p ys ≡ None → ⊥) → ⊥
    by true e here lost next = let f : Some y ≡ None = lost in cc
    by false e (inl is) lost next = let f : p y ≡ true = ap p (sym is) ∙ on in cc
    by false e (inr later) lost next = next later lost

among_position : (net : List ℕ) (names : List (List ℕ)) → Among net names → (j : ℕ) × (position (bytes_eq net) names ≡ Some j)
among_position net names among = by (position (bytes_eq net) names) refl
  where
    by : (o : Option ℕ) → position (bytes_eq net) names ≡ o → (j : ℕ) × (position (bytes_eq net) names ≡ Some j)
    by None e = absurd (not_lost (bytes_eq net) net names among ((bytes_eq-Decides net net).1 refl) (find_position (bytes_eq net) names ∙ ap (option_and_then (slice_get names)) e))
    by (Some j) e = (j, e)

option_some : {A B : Type 0} (f : A → B) (o : Option A) (b : B) → option_map f o ≡ Some b → (a : A) × (o ≡ Some a) × (b ≡ f a)
option_some f None b h = absurd (let e : None ≡ Some b = h in cc)
option_some f (Some a) b h = (a, refl, let e : Some (f a) ≡ Some b = h in cc)

module _ (d : Design) (network : List (Driver ℕ)) (starts : List ℕ) (is : IsElaborated d network starts) where
  net_column : (path : List ℕ) (pearl : Pearl) → IsPlaced d path pearl → (net : List ℕ) (k : ℕ) → number_in d pearl net ≡ Some k → slice_get (columns d) k ≡ Some (column path net)
  net_column path pearl placed net k number =
      let at = option_some (λ (j : ℕ). pearl.start + j) (position (bytes_eq net) (model_nets d pearl.model)) k number in
      let here = placed.starts_at pearl.model at.0 net placed.number (position_get net (model_nets d pearl.model) at.0 at.1) in
      ap (slice_get (columns d)) at.2 ∙ here

  net_number : (path : List ℕ) (pearl : Pearl) → IsPlaced d path pearl → (net : List ℕ) → Among net (model_nets d pearl.model) → (k : ℕ) × (number_in d pearl net ≡ Some k)
  net_number path pearl placed net among =
      let at = among_position net (model_nets d pearl.model) among in
      (pearl.start + at.0, ap (option_map (λ (j : ℕ). pearl.start + j)) at.1)

  column_number : (path : List ℕ) (pearl : Pearl) → IsPlaced d path pearl → (net : List ℕ) (k : ℕ) → slice_get (columns d) k ≡ Some (column path net) → number_in d pearl net ≡ Some k
  column_number path pearl placed net k here =
      let among = column_net d path net pearl.model (get_among (columns d) k (column path net) here) placed.number in
      let number = net_number path pearl placed net among in
      let same : number.0 ≡ k = is.once number.0 k (column path net) (net_column path pearl placed net number.0 number.1) here in
      number.1 ∙ ap Some same

  -- what a root column is told by
  pub root_below : (k : ℕ) (net : List ℕ) → slice_get (columns d) k ≡ Some (column [] net) → k < length (model_nets d d.root)
  unfolding number_from
  root_below k net here =
      let whole : Pearl = record { model = d.root; start = 0 } in
      let number = column_number [] whole (record { number = refl; starts_at = is.root }) net k here in
      let at = option_some (λ (j : ℕ). 0 + j) (position (bytes_eq net) (model_nets d d.root)) k number in
      let below = slice_get_within (model_nets d d.root) at.0 net (position_get net (model_nets d d.root) at.0 at.1) in
      let e = at.2 in
      omega arith

  pub below_root : (k : ℕ) → k < length (model_nets d d.root) → slice_get (columns d) k ≡ Some (column [] (get_or (model_nets d d.root) k []))
  unfolding number_from
  below_root k below =
      let here = is.root d.root k (get_or (model_nets d d.root) k []) refl (slice_get-get_or (model_nets d d.root) k [] below) in
      let zero_more : 0 + k ≡ k = omega arith in
      ap (slice_get (columns d)) (sym zero_more) ∙ here

  pub fits : (path : List ℕ) (pearl : Pearl) → IsPlaced d path pearl → IsFittingPearl d (length (graph d network starts is)) pearl
  fits path pearl placed = record {
    reached = (path, placed.number);
    below = λ j below.
        (let nets = model_nets d pearl.model in
        let here = placed.starts_at pearl.model j (get_or nets j []) placed.number (slice_get-get_or nets j [] below) in
        let h = within d network starts is (pearl.start + j) (column path (get_or nets j [])) here in
        let long = graph_length d network starts is in
        omega arith);
  }

  module _ (cut : List Bool) (pearl_path : List ℕ) (Out : List ℕ → Type 0)
      (edge : (a c : Column) → Feeds (drivers d) a c → IsInside pearl_path c.path → IsInside pearl_path a.path ⊎ Out a.path)
      (cut_out : (k : ℕ) → k < length network → flag cut k ≡ false → Out (column_at d k).path → ⊥)
      (cut_in : (k : ℕ) → k < length network → IsInside pearl_path (column_at d k).path → flag cut k ≡ false) where
    abbrev g : List (List ℕ)
    g = graph d network starts is

    no_out : (n a b : ℕ) → WalkPast g cut n a b → b < length network → (Out (column_at d a).path → ⊥) → Out (column_at d b).path → ⊥
    no_out zero a b w below not_out out = not_out (subst (λ (k : ℕ). Out (column_at d k).path) (sym w) out)
    no_out (suc n) a b w below not_out out = cut_out b below w.3 out

    past_inside : (n a k : ℕ) → WalkPast g cut n a k → k < length network → IsInside pearl_path (column_at d k).path → (Out (column_at d a).path → ⊥) → WalkInside d pearl_path n (column_at d a) (column_at d k)
    past_inside zero a k w below inside not_out = (ap (column_at d) w, inside)
    past_inside (suc n) a k w below inside not_out =
        let down = edge_down d network starts is k w.0 w.2 in
        by down.1 (past_inside n a w.0 w.1 down.0) (no_out n a w.0 w.1 down.0) (edge (column_at d w.0) (column_at d k) down.1 inside)
      where
        by : Feeds (drivers d) (column_at d w.0) (column_at d k) → (IsInside pearl_path (column_at d w.0).path → (Out (column_at d a).path → ⊥) → WalkInside d pearl_path n (column_at d a) (column_at d w.0)) → ((Out (column_at d a).path → ⊥) → Out (column_at d w.0).path → ⊥) → IsInside pearl_path (column_at d w.0).path ⊎ Out (column_at d w.0).path → WalkInside d pearl_path (suc n) (column_at d a) (column_at d k)
        by feeds before none (inl there) = (column_at d w.0, before there not_out, feeds, inside)
        by feeds before none (inr out) = absurd (none not_out out)

    inside_past : (n : ℕ) (a : Column) (k : ℕ) → k < length network → WalkInside d pearl_path n a (column_at d k) → (j : ℕ) × (j < length network) × (column_at d j ≡ a) × WalkPast g cut n j k
    inside_past zero a k below w = (k, below, sym w.0, refl)
    inside_past (suc n) a k below w =
        let up = edge_up d network starts is k w.0 below w.2 in
        let before = inside_past n a up.0 up.1 (subst (λ (c : Column). WalkInside d pearl_path n a c) (sym up.2) w.1) in
        (before.0, before.1, before.2, (up.0, before.3, up.3, cut_in k below w.3))

    inside_start : (n : ℕ) (a c : Column) → WalkInside d pearl_path n a c → IsInside pearl_path a.path
    inside_start zero a c w = subst (λ (x : Column). IsInside pearl_path x.path) (sym w.0) w.1
    inside_start (suc n) a c w = inside_start n a w.0 w.1

    module _ (pearl : Pearl) (placed : IsPlaced d pearl_path pearl) (stays : Out pearl_path → ⊥) where
      at_path : (net : List ℕ) (k : ℕ) → number_in d pearl net ≡ Some k → column_at d k ≡ column pearl_path net
      at_path net k number = column_is d network starts is k (column pearl_path net) (net_column pearl_path pearl placed net k number)

      below_end : (net : List ℕ) (k : ℕ) → number_in d pearl net ≡ Some k → k < length network
      below_end net k number = within d network starts is k (column pearl_path net) (net_column pearl_path pearl placed net k number)

      inside_own : (net : List ℕ) (k : ℕ) → number_in d pearl net ≡ Some k → IsInside pearl_path (column_at d k).path
      inside_own net k number = ([], ap (λ (c : Column). c.path) (at_path net k number))

      output_column : (n : ℕ) (input output : List ℕ) → Among input (data_inputs_of d pearl.model) → WalkInside d pearl_path n (column pearl_path input) (column pearl_path output) → (k : ℕ) × (slice_get (columns d) k ≡ Some (column pearl_path output))
      output_column zero input output among w =
          let number = net_number pearl_path pearl placed input (input_net d pearl.model input among) in
          (number.0, net_column pearl_path pearl placed input number.0 number.1 ∙ ap Some w.0)
      output_column (suc n) input output among w = fed_number d network starts is w.0 (column pearl_path output) w.2

      depends_leads : (input output : List ℕ) → Among input (data_inputs_of d pearl.model) → IsDependent d pearl_path input output → LeadsInPearl d g cut pearl input output
      depends_leads input output among (n, w) =
          let to = output_column n input output among w in
          let k = to.0 in
          let below = within d network starts is k (column pearl_path output) to.1 in
          let col = column_is d network starts is k (column pearl_path output) to.1 in
          let past = inside_past n (column pearl_path input) k below (subst (λ (c : Column). WalkInside d pearl_path n (column pearl_path input) c) (sym col) w) in
          (past.0, k, column_number pearl_path pearl placed input past.0 (column_here d network starts is past.0 past.1 ∙ ap Some past.2), column_number pearl_path pearl placed output k to.1, (n, past.3))

      leads_depends : (input output : List ℕ) → LeadsInPearl d g cut pearl input output → IsDependent d pearl_path input output
      leads_depends input output (a, k, from, to, (n, walk)) =
          let col_a = at_path input a from in
          let col_k = at_path output k to in
          let inside = past_inside n a k walk (below_end output k to) (inside_own output k to) (λ out. stays (subst (λ (c : Column). Out c.path) col_a out)) in
          (n, subst (λ (c : Column). WalkInside d pearl_path n c (column pearl_path output)) col_a (subst (λ (c : Column). WalkInside d pearl_path n (column_at d a) c) col_k inside))

      pub cut_off : model_at d pearl_path ≡ slice_get d.models pearl.model → IsCutOff d g cut pearl_path pearl
      cut_off model = record {
        model = model;
        fits = fits pearl_path pearl placed;
        exact = λ input output among. (depends_leads input output among, leads_depends input output);
      }

      module _ (ps : List Pearl) (here : Among pearl ps)
          (alone : (other : Pearl) → Among other ps → (path : List ℕ) × IsPlaced d path other × (Out path → ⊥) × (IsInside pearl_path path → other ≡ pearl))
          (starting reached : List Bool)
          (are_starts : (k : ℕ) → (flag starting k ≡ true) ↔ IsInputOf d ps k)
          (are_reached : (k : ℕ) → k < length g → (flag reached k ≡ true) ↔ IsReached g cut starting k) where
        reached_leads : (output : List ℕ) → is_marked d pearl reached output ≡ true → (input : List ℕ) × Among input (data_inputs_of d pearl.model) × LeadsInPearl d g cut pearl input output
        reached_leads output on =
            let to = marked_number reached (number_in d pearl output) on in
            let k = to.0 in
            let below : k < length network = below_end output k to.1 in
            let long = graph_length d network starts is in
            let back = (are_reached k (omega arith)).0 to.2 in
            let a = back.0 in
            let start = (are_starts a).0 back.1 in
            let other = start.0 in
            let where_other = alone other start.1 in
            let input = start.2.0 in
            let from = start.2.2 in
            let col_a : column_at d a ≡ column where_other.0 input = column_is d network starts is a (column where_other.0 input) (net_column where_other.0 other where_other.1 input a from) in
            let n = back.2.0 in
            let inside = past_inside n a k back.2.1 below (inside_own output k to.1) (λ out. where_other.2 (subst (λ (c : Column). Out c.path) col_a out)) in
            let begins : IsInside pearl_path where_other.0 = subst (λ (c : Column). IsInside pearl_path c.path) col_a (inside_start n (column_at d a) (column_at d k) inside) in
            let same_pearl : other ≡ pearl = where_other.3 begins in (
              input,
              subst (λ (p : Pearl). Among input (data_inputs_of d p.model)) same_pearl start.2.1,
              (a, k, subst (λ (p : Pearl). number_in d p input ≡ Some a) same_pearl from, to.1, back.2),
            )

        leads_reached : (output input : List ℕ) → Among input (data_inputs_of d pearl.model) → LeadsInPearl d g cut pearl input output → is_marked d pearl reached output ≡ true
        leads_reached output input among (a, k, from, to, reaching) =
            let below : k < length network = below_end output k to in
            let long = graph_length d network starts is in
            let on = (are_reached k (omega arith)).1 (a, (are_starts a).1 (pearl, here, (input, among, from)), reaching) in
            ap (λ (o : Option ℕ). option_map_or (flag reached) o false) to ∙ on

        pub reached_in : AreReachedIn d g cut reached pearl
        reached_in output = (reached_leads output, λ some. leads_reached output some.0 some.1 some.2)
