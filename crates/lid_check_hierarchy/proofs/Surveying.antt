-- What a survey is made of.
use Rattle.std.proofs.Common.{◌≡◌, ℕ, zero, suc, ◌+◌, ◌<◌, false, not, List, [], ◌∷◌, length, drop, map, filter, get_or, Option, Some, None, option_map, position, slice_get, refl, sym, ◌∙◌, ap, subst, arith}
use Rattle.std.specs.Option.{option_map_or}
use Rattle.std.specs.Str.{bytes_eq}
use Rattle.std.proofs.lemmas.Option.{same_Some, get_or_from_slice_get, slice_get-map}
use Rattle.std.proofs.lemmas.List.{length-map, drop_more}
use Rattle.lid_base.proofs.Lists.{filter_same}
use Rattle.lid_base.proofs.Places.{get_map, item_at}
use Rattle.lid_check_digraph.specs.Graphs.{IsGraph}
use Rattle.lid_design.specs.declared.Design.{Design}
use Rattle.lid_design.specs.declared.Model.{Model}
use Rattle.lid_design.specs.WellFormed.{IsWellFormed}
use Rattle.lid_design.specs.Columns.{is_among, is_clock, data_inputs}
use Rattle.lid_design.specs.Models.{nets, IsReached, is_clock_of, data_inputs_of}
use Rattle.lid_design.specs.Elaboration.{model_nets}
use Rattle.lid_check_hierarchy.specs.Surveys.{AreNames, IsModelOrder}
use Rattle.lid_check_hierarchy.specs.Graphs.{IsUsedGraph}
use Rattle.lid_check_hierarchy.specs.Clocks.{HaveClocks}
use Rattle.lid_check_table.specs.Tables.{names_in, AreNumbersOf}
use Rattle.lid_check_table.specs.Marks.{marks_of}
use Rattle.lid_check_hierarchy.specs.Nets.{names_outside, inputs_by, by_clocks, inputs_of_all, clock_marks, clock_marks_of_all, net_places, places_of_false, counts_of_false}
use Rattle.lid_check_hierarchy.proofs.Walks.{instance_below, reached_below}
use Rattle.lid_check_hierarchy.proofs.Placing.{nets_numbered, nets_placed, no_place_among}
use Rattle.lid_check_hierarchy.proofs.Fields.{field_at}

pub used_is_graph : (d : Design) → IsWellFormed d → (g : List (List ℕ)) → IsUsedGraph d g → IsGraph g
used_is_graph d formed g used = record {
  few = let few = formed.few in let size = used.size in omega arith;
  within = λ c b read. let inst = (used.only c b read).1 in subst (λ (n : ℕ). b < n) (sym used.size) (instance_below d formed c b inst.0 inst.1);
}

module _ {A : Type 0} (f : Model → List (List ℕ) → A) where
  pub made_at : (ms : List Model) (sets : List (List (List ℕ))) (k : ℕ) (m : Model) → length sets ≡ length ms → slice_get ms k ≡ Some m → slice_get (by_clocks f ms sets) k ≡ Some (f m (get_or sets k []))
  made_at [] sets k m same here = absurd (let e : None ≡ Some m = here in cc)
  made_at (n ∷ ms) [] k m same here = absurd (omega arith)
  made_at (n ∷ ms) (set ∷ sets) zero m same here = ap (λ (n : Model). Some (f n set)) (same_Some n m here)
  made_at (n ∷ ms) (set ∷ sets) (suc k) m same here = made_at ms sets k m (omega arith) here

  pub made_long : (ms : List Model) (sets : List (List (List ℕ))) → length sets ≡ length ms → length (by_clocks f ms sets) ≡ length ms
  made_long [] sets same = refl
  made_long (m ∷ ms) [] same = absurd (omega arith)
  made_long (m ∷ ms) (set ∷ sets) same = let h = made_long ms sets (omega arith) in omega arith

  -- what is found of the models from one on
  pub made_next : (ms : List Model) (sets : List (List (List ℕ))) (k : ℕ) (m : Model) → length sets ≡ length ms → k < length ms → m ≡ get_or ms k m → by_clocks f (drop k ms) (drop k sets) ≡ f m (get_or sets k []) ∷ by_clocks f (drop (k + 1) ms) (drop (k + 1) sets)
  made_next ms sets k m same below is =
      ap (λ (ns : List Model). by_clocks f ns (drop k sets)) (drop_more ms k m below)
      ∙ ap (by_clocks f (get_or ms k m ∷ drop (k + 1) ms)) (drop_more sets k [] (omega arith))
      ∙ ap (λ (n : Model). f n (get_or sets k []) ∷ by_clocks f (drop (k + 1) ms) (drop (k + 1) sets)) (sym is)

-- what is found of the models, by the sets of their clock names
pub record AreMade (ms : List Model) (clocks : List (List (List ℕ))) (tables : List Model) (numbers : List (List ℕ)) (places : List (List (Option ℕ))) (inputs : List (List (List ℕ))) : Type 0 where
  pub tabled : tables ≡ ms
  pub numbered : numbers ≡ map (places_of_false 0) (clock_marks_of_all ms clocks)
  pub placed : places ≡ map (counts_of_false 0) (clock_marks_of_all ms clocks)
  pub given : inputs ≡ inputs_of_all ms clocks

module _ (d : Design) (formed : IsWellFormed d) (order : List ℕ) (ordered : IsModelOrder d order) (clocks : List (List (List ℕ))) (tables : List Model) (numbers : List (List ℕ)) (places : List (List (Option ℕ))) (inputs : List (List (List ℕ))) (have : HaveClocks d order clocks) (made : AreMade d.models clocks tables numbers places inputs) where
  clock : (k : ℕ) (name : List ℕ) → IsReached d k → is_among name (get_or clocks k []) ≡ is_clock_of d k name
  clock k name reached = have.each k name (ordered.each k reached)

  -- the names of a reached model that are no clock names, by the set of these
  without : (k : ℕ) (m : Model) (names : List (List ℕ)) → IsReached d k → slice_get d.models k ≡ Some m → names_outside (get_or clocks k []) names ≡ filter (λ net. not (is_clock d m net)) names
  without k m names reached here =
      filter_same _ _ names (λ net. ap not (clock k net reached ∙ ap (λ (o : Option Model). option_map_or (λ m. is_clock d m net) o false) here))

  nets_without : (k : ℕ) (m : Model) → IsReached d k → slice_get d.models k ≡ Some m → names_outside (get_or clocks k []) (names_in m) ≡ model_nets d k
  unfolding nets
  nets_without k m reached here = without k m (names_in m) reached here ∙ sym (ap (λ (o : Option Model). option_map_or (nets d) o []) here)

  marked : (k : ℕ) (m : Model) → slice_get d.models k ≡ Some m → slice_get (clock_marks_of_all d.models clocks) k ≡ Some (marks_of (names_in m) (get_or clocks k []))
  marked k m here = made_at clock_marks d.models clocks k m have.size here

  own_numbers : (k : ℕ) (m : Model) → IsReached d k → slice_get d.models k ≡ Some m → AreNumbersOf (names_in m) (model_nets d k) (get_or numbers k [])
  own_numbers k m reached here =
      let marks = marks_of (names_in m) (get_or clocks k []) in
      let is : get_or numbers k [] ≡ places_of_false 0 marks =
      ap (λ (rows : List (List ℕ)). get_or rows k []) made.numbered
      ∙ get_or_from_slice_get (map (places_of_false 0) (clock_marks_of_all d.models clocks)) k (places_of_false 0 marks) [] (get_map (places_of_false 0) (clock_marks_of_all d.models clocks) k marks (marked k m here))
      in
      subst (λ (ns : List (List ℕ)). AreNumbersOf (names_in m) ns (get_or numbers k [])) (nets_without k m reached here)
      (subst (AreNumbersOf (names_in m) (names_outside (get_or clocks k []) (names_in m))) (sym is) (nets_numbered (names_in m) (get_or clocks k [])))

  own_places : (k : ℕ) (m : Model) → IsReached d k → slice_get d.models k ≡ Some m → get_or places k [] ≡ net_places (model_nets d k) (names_in m)
  own_places k m reached here =
      let marks = marks_of (names_in m) (get_or clocks k []) in
      ap (λ (rows : List (List (Option ℕ))). get_or rows k []) made.placed
      ∙ get_or_from_slice_get (map (counts_of_false 0) (clock_marks_of_all d.models clocks)) k (counts_of_false 0 marks) [] (get_map (counts_of_false 0) (clock_marks_of_all d.models clocks) k marks (marked k m here))
      ∙ nets_placed m (get_or clocks k [])
      ∙ ap (λ (ns : List (List ℕ)). net_places ns (names_in m)) (nets_without k m reached here)

  own_inputs : (k : ℕ) → IsReached d k → get_or inputs k [] ≡ data_inputs_of d k
  unfolding data_inputs
  own_inputs k reached =
      let item = item_at d.models k (reached_below d formed k reached) in
      let m : Model = item.0 in
      let here : slice_get d.models k ≡ Some m = item.1 in
      ap (λ (rows : List (List (List ℕ))). get_or rows k []) made.given
      ∙ get_or_from_slice_get (inputs_of_all d.models clocks) k (inputs_by m (get_or clocks k [])) [] (made_at inputs_by d.models clocks k m have.size here)
      ∙ without k m m.inputs reached here
      ∙ sym (ap (λ (o : Option Model). option_map_or (data_inputs d) o []) here)

  pub named_of : AreNames d tables clocks numbers places inputs
  named_of =
      let marks = made_long clock_marks d.models clocks have.size in
      let count : length (map (places_of_false 0) (clock_marks_of_all d.models clocks)) ≡ length (clock_marks_of_all d.models clocks) = length-map (clock_marks_of_all d.models clocks) (places_of_false 0) in
      let count_places : length (map (counts_of_false 0) (clock_marks_of_all d.models clocks)) ≡ length (clock_marks_of_all d.models clocks) = length-map (clock_marks_of_all d.models clocks) (counts_of_false 0) in
      record {
        inside = reached_below d formed;
        each_table = made.tabled;
        each_clock = have.size;
        each_numbers = ap length made.numbered ∙ count ∙ marks;
        each_places = ap length made.placed ∙ count_places ∙ marks;
        each_inputs = ap length made.given ∙ made_long inputs_by d.models clocks have.size;
        clock = clock;
        nets = own_numbers;
        placed = own_places;
        given = own_inputs;
      }

-- a list of names of a survey, as a method sees it from outside: by a slice of the list
module _ {d : Design} {tables : List Model} {clocks inputs : List (List (List ℕ))} {numbers : List (List ℕ)} {places : List (List (Option ℕ))} (names : AreNames d tables clocks numbers places inputs) {seen : Design} (view : d ≡ seen) (k : ℕ) (reached : IsReached seen k) {X : Type 0} {lists held : List X} (each : length lists ≡ length d.models) (same_list : held ≡ lists) where
  own : IsReached d k
  own = subst (λ (e : Design). IsReached e k) (sym view) reached

  -- there is an entry for a reached model
  pub inside_of : k < length held
  inside_of = let below = names.inside k own in omega (arith, each, ap length same_list)

  -- and what is known of the list's entry is so of the one that is read
  pub seen_of : {A : Type 0} (f : X → A) (want : Design → A) (x y : X) → x ≡ get_or held k x → (IsReached d k → f (get_or lists k y) ≡ want d) → f x ≡ want seen
  seen_of f want x y is known = ap f (field_at lists held k y x same_list is inside_of) ∙ known own ∙ ap want view

  -- so is what relates it to the design
  pub told_of : (P : Design → X → Type 0) (x y : X) → x ≡ get_or held k x → (IsReached d k → P d (get_or lists k y)) → P seen x
  told_of P x y is known = subst (λ (e : Design). P e x) view (subst (P d) (sym (field_at lists held k y x same_list is inside_of)) (known own))

-- a reached model is there
module _ {d : Design} {tables : List Model} {clocks inputs : List (List (List ℕ))} {numbers : List (List ℕ)} {places : List (List (Option ℕ))} (names : AreNames d tables clocks numbers places inputs) {seen : Design} (view : d ≡ seen) (k : ℕ) (reached : IsReached seen k) where
  pub model_there : (m : Model) × (slice_get seen.models k ≡ Some m)
  model_there = item_at seen.models k (subst (λ (e : Design). k < length e.models) view (names.inside k (subst (λ (e : Design). IsReached e k) (sym view) reached)))

-- the net of a number, by the place of the number
pub net_there : (names nets : List (List ℕ)) (numbers : List ℕ) (place number : ℕ) → AreNumbersOf names nets numbers → slice_get numbers place ≡ Some number → slice_get names number ≡ slice_get nets place
net_there names nets numbers place number are here =
    by (slice_get nets place)
    (sym (get_map (slice_get names) numbers place number here) ∙ ap (λ os. slice_get os place) are ∙ slice_get-map Some nets place)
  where
    by : (o : Option (List ℕ)) → Some (slice_get names number) ≡ option_map Some o → slice_get names number ≡ o
    by None e = cc
    by (Some net) e = cc

pub no_net_there : (names nets : List (List ℕ)) (numbers : List ℕ) (place : ℕ) → AreNumbersOf names nets numbers → slice_get numbers place ≡ None → None ≡ slice_get nets place
no_net_there names nets numbers place are past =
    by (slice_get nets place)
    (sym (slice_get-map (slice_get names) numbers place ∙ ap (option_map (slice_get names)) past) ∙ ap (λ os. slice_get os place) are ∙ slice_get-map Some nets place)
  where
    by : (o : Option (List ℕ)) → None ≡ option_map Some o → None ≡ o
    by None e = refl
    by (Some net) e = absurd (let f : None ≡ Some (Some net) = e in cc)

-- the place of a name that a model does not have
pub no_net : (d : Design) (k : ℕ) (m : Model) (name : List ℕ) → slice_get d.models k ≡ Some m → position (bytes_eq name) (names_in m) ≡ None → position (bytes_eq name) (model_nets d k) ≡ None
unfolding nets
no_net d k m name here none =
    ap (λ (o : Option Model). position (bytes_eq name) (option_map_or (nets d) o [])) here
    ∙ no_place_among (λ net. not (is_clock d m net)) name (names_in m) none
