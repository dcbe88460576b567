-- The cut keeps the pearls of a design apart.
use Rattle.std.proofs.Common.{◌≡◌, ◌⊎◌, ◌↔◌, ℕ, zero, suc, ◌<◌, ◌≤◌, ◌==◌, Bool, true, false, cond, List, [], ◌∷◌, ◌++◌, length, get_or, Option, Some, None, option_and_then, slice_get, nat_lt, inl, inr, refl, sym, ◌∙◌, ap, subst, arith}
use Rattle.std.specs.Option.{option_map_or}
use Rattle.std.specs.List.{AllByRecursion}
use Rattle.std.specs.Str.{bytes_eq}
use Rattle.std.proofs.lemmas.List.{append-nil}
use Rattle.std.proofs.lemmas.Option.{slice_get_within, slice_get-get_or}
use Rattle.std.proofs.lemmas.Bool.{ltb-true, ltb-false}
use Rattle.lid_base.specs.Lists.{Among}
use Rattle.lid_base.proofs.Lists.{get_among, among_get}
use Rattle.lid_check_hierarchy.proofs.Fixpoints.{find_position}
use Rattle.lid_design.specs.declared.Design.{Design}
use Rattle.lid_design.specs.declared.Model.{Model}
use Rattle.lid_design.specs.declared.Inst.{Inst}
use Rattle.lid_design.specs.Network.{Driver}
use Rattle.lid_design.specs.Columns.{Column, column, drivers, model_named, instance_model, model_at}
use Rattle.lid_design.specs.Feeds.{Feeds}
use Rattle.lid_design.specs.Models.{insts_of, number_named, instance_number, number_from}
use Rattle.lid_design.specs.Elaboration.{model_nets, columns}
use Rattle.lid_design.specs.Loops.{IsInside, pearls}
use Rattle.lid_check_digraph.specs.Graphs.{flag, IsReached}
use Rattle.lid_check_elab.specs.Elaborations.{column_at, StartsAt, IsElaborated}
use Rattle.lid_check_parts.proofs.Finding.{whole_pearls, inst_count, inst_pearl}
use Rattle.lid_check_loops.specs.declared.pearls.Pearl.{Pearl}
use Rattle.lid_check_loops.specs.Pearls.{IsInputOf, IsFittingPearl, IsCutOff, AreReachedIn, AreCutOff, ArePearls, count_cut}
use Rattle.lid_check_loops.proofs.Numbered.{graph, graph_length, column_here, column_is}
use Rattle.lid_check_loops.proofs.Geometry.{edge_near}
use Rattle.lid_check_loops.proofs.Apart.{IsPlaced, root_below, below_root, fits, cut_off, reached_in}
use Rattle.lid_base.proofs.Alls.{all_from_among}

-- the model of an instance of the root, by its number
instance_at : (d : Design) (i k : ℕ) → instance_number d i d.root ≡ Some k → model_at d (i ∷ []) ≡ slice_get d.models k
unfolding model_at
instance_at d i k number = by (slice_get d.models d.root) number
  where
    inst_at : (o : Option Inst) → option_and_then (λ inst. number_named d inst.model) o ≡ Some k → option_and_then (λ inst. model_named d inst.model) o ≡ slice_get d.models k
    inst_at None h = absurd (let e : None ≡ Some k = h in cc)
    inst_at (Some inst) h = find_position (λ m. bytes_eq m.name inst.model) d.models ∙ ap (option_and_then (slice_get d.models)) h

    by : (o : Option Model) → option_and_then (λ inst. number_named d inst.model) (slice_get (option_map_or (λ (m : Model). m.insts) o []) i) ≡ Some k → option_and_then (instance_model d i) o ≡ slice_get d.models k
    by None h = absurd (let e : None ≡ Some k = h in cc)
    by (Some m) h = inst_at (slice_get m.insts i) h

-- an edge to a column in an instance of the root comes from there, or from the root
near_inside : (i : ℕ) (from to : List ℕ) → (from ≡ to) ⊎ ((j : ℕ) × (from ≡ j ∷ to)) ⊎ ((j : ℕ) × (to ≡ j ∷ from)) → IsInside (i ∷ []) to → IsInside (i ∷ []) from ⊎ (from ≡ [])
near_inside i from to (inl same) inside = inl (inside.0, same ∙ inside.1)
near_inside i from to (inr (inl (j, deeper))) inside = inl (j ∷ inside.0, deeper ∙ ap (λ (p : List ℕ). j ∷ p) inside.1)
near_inside i from to (inr (inr (j, outer))) inside = by inside.0 (sym outer ∙ inside.1)
  where
    by : (inner : List ℕ) → j ∷ from ≡ inner ++ i ∷ [] → IsInside (i ∷ []) from ⊎ (from ≡ [])
    by [] e = let f : j ∷ from ≡ i ∷ [] = e in inr (let h : from ≡ [] = cc in h)
    by (x ∷ inner) e = let f : j ∷ from ≡ x ∷ (inner ++ i ∷ []) = e in inl (inner, let h : from ≡ inner ++ i ∷ [] = cc in h)

root_outside : (i : ℕ) (path : List ℕ) → IsInside (i ∷ []) path → path ≡ [] → ⊥
root_outside i path ([], e) root = let f : [] ≡ i ∷ [] = sym root ∙ e in cc
root_outside i path (x ∷ inner, e) root = let f : [] ≡ x ∷ (inner ++ i ∷ []) = sym root ∙ e in cc

one_inside : (i j : ℕ) → IsInside (i ∷ []) (j ∷ []) → j ≡ i
one_inside i j ([], e) = let f : j ∷ [] ≡ i ∷ [] = e in cc
one_inside i j (x ∷ [], e) = let f : j ∷ [] ≡ x ∷ i ∷ [] = e in absurd (let h : [] ≡ i ∷ [] = cc in cc)
one_inside i j (x ∷ y ∷ inner, e) = let f : j ∷ [] ≡ x ∷ y ∷ (inner ++ i ∷ []) = e in absurd (let h : [] ≡ y ∷ (inner ++ i ∷ []) = cc in cc)

-- the model of the root, as it was read
pub root_insts : (d e : Design) (models : List Model) (m : Model) → e ≡ d → models ≡ e.models → d.root < length d.models → m ≡ get_or models e.root m → insts_of d d.root ≡ m.insts
root_insts d e models m same listed below read =
    let whole : models ≡ d.models = listed ∙ ap (λ (x : Design). x.models) same in
    let root : e.root ≡ d.root = ap (λ (x : Design). x.root) same in
    let here : m ≡ get_or d.models d.root m = read ∙ ap (λ (k : ℕ). get_or models k m) root ∙ ap (λ (ms : List Model). get_or ms d.root m) whole in
    ap (λ (o : Option Model). option_map_or (λ (x : Model). x.insts) o []) (slice_get-get_or d.models d.root m below ∙ ap Some (sym here))

pub cut_none : (d : Design) → length (insts_of d d.root) ≡ 0 → count_cut d ≡ 0
cut_none d none = ap (λ (n : ℕ). cond (n == 0) 0 (length (model_nets d d.root))) none

pub cut_some : (d : Design) → (length (insts_of d d.root) == 0) ≡ false → count_cut d ≡ length (model_nets d d.root)
cut_some d some = ap (λ (b : Bool). cond b 0 (length (model_nets d d.root))) some

not_zero : (n : ℕ) → 0 < n → (n == 0) ≡ false
not_zero zero h = absurd (omega arith)
not_zero (suc n) h = grind arith

zero_or_more : (n : ℕ) → (n ≡ 0) ⊎ (0 < n)
zero_or_more zero = inl refl
zero_or_more (suc n) = inr (omega arith)

module _ (d : Design) (network : List (Driver ℕ)) (starts : List ℕ) (is : IsElaborated d network starts)
    (ps : List Pearl) (are : ArePearls d starts ps) where
  abbrev g : List (List ℕ)
  g = graph d network starts is

  module _ (none : length (insts_of d d.root) ≡ 0) where
    abbrev root : Pearl
    root = record { model = d.root; start = 0 }

    root_placed : IsPlaced d [] root
    unfolding number_from
    root_placed = record { number = refl; starts_at = is.root }

    one_among : {A : Type 0} (x y : A) → Among x (y ∷ []) → x ≡ y
    one_among x y (inl e) = e
    one_among x y (inr bad) = absurd bad

    root_model : model_at d [] ≡ slice_get d.models root.model
    unfolding model_at
    root_model = refl

    module _ (cut starting reached : List Bool)
        (uncut : (k : ℕ) → k < length network → flag cut k ≡ false)
        (are_starts : (k : ℕ) → (flag starting k ≡ true) ↔ IsInputOf d ps k)
        (are_reached : (k : ℕ) → k < length g → (flag reached k ≡ true) ↔ IsReached g cut starting k) where
      abbrev None_out : List ℕ → Type 0
      None_out path = ⊥

      anywhere : (path : List ℕ) → IsInside [] path
      anywhere path = (path, sym (append-nil path))

      pub whole_cut_off : AreCutOff d g cut reached ps
      whole_cut_off = record {
        count = ap length (are.whole none) ∙ sym (ap length (whole_pearls d none));
        each = λ p path pearl there here.
            (let path_is : path ≡ [] = one_among path [] (subst (λ (xs : List (List ℕ)). Among path xs) (whole_pearls d none) (get_among (pearls d) p path there)) in
            let pearl_is : pearl ≡ root = one_among pearl root (subst (λ (xs : List Pearl). Among pearl xs) (are.whole none) (get_among ps p pearl here)) in
            let off = cut_off d network starts is cut [] None_out (λ a c feeds inside. inl (anywhere a.path)) (λ k below free out. out) (λ k below inside. uncut k below) root root_placed (λ out. out) root_model in
            subst (λ (q : List ℕ). IsCutOff d g cut q pearl) (sym path_is) (subst (λ (q : Pearl). IsCutOff d g cut [] q) (sym pearl_is) off));
        marks = λ p pearl here.
            (let among = get_among ps p pearl here in
            let pearl_is : pearl ≡ root = one_among pearl root (subst (λ (xs : List Pearl). Among pearl xs) (are.whole none) among) in
            let root_among : Among root ps = subst (λ (q : Pearl). Among q ps) pearl_is among in
            let all = reached_in d network starts is cut [] None_out (λ a c feeds inside. inl (anywhere a.path)) (λ k below free out. out) (λ k below inside. uncut k below) root root_placed (λ out. out) ps root_among
            (λ other among_other. let same : other ≡ root = one_among other root (subst (λ (xs : List Pearl). Among other xs) (are.whole none) among_other) in ([], subst (λ (q : Pearl). IsPlaced d [] q) (sym same) root_placed, (λ out. out), (λ inside. same)))
            starting reached are_starts are_reached in
            subst (λ (q : Pearl). AreReachedIn d g cut reached q) (sym pearl_is) all);
      }

  module _ (some : 0 < length (insts_of d d.root)) where
    inst_below : (p : ℕ) (pearl : Pearl) → slice_get ps p ≡ Some pearl → p < length starts
    inst_below p pearl here = let below = slice_get_within ps p pearl here in let count = are.count some in omega arith

    inst_entry : (p : ℕ) (pearl : Pearl) → slice_get ps p ≡ Some pearl → (instance_number d p d.root ≡ Some pearl.model) × IsPlaced d (p ∷ []) pearl
    unfolding number_from
    inst_entry p pearl here =
        let below = inst_below p pearl here in
        let start = get_or starts p 0 in
        let there : slice_get starts p ≡ Some start = slice_get-get_or starts p 0 below in
        let told = are.each p start pearl some there here in
        (told.0, record { number = told.0; starts_at = subst (λ (n : ℕ). StartsAt d (p ∷ []) n) (sym told.1) (is.start p start there) })

    module _ (cut starting reached : List Bool)
        (are_cut : (k : ℕ) → (flag cut k ≡ true) ↔ (k < length (model_nets d d.root)))
        (are_starts : (k : ℕ) → (flag starting k ≡ true) ↔ IsInputOf d ps k)
        (are_reached : (k : ℕ) → k < length g → (flag reached k ≡ true) ↔ IsReached g cut starting k) where
      abbrev Root : List ℕ → Type 0
      Root path = path ≡ []

      cut_out : (k : ℕ) → k < length network → flag cut k ≡ false → Root (column_at d k).path → ⊥
      cut_out k below free root =
          let c = column_at d k in
          let here : slice_get (columns d) k ≡ Some (column [] c.net) = column_here d network starts is k below ∙ ap (λ (p : List ℕ). Some (column p c.net)) root in
          let marked : flag cut k ≡ true = (are_cut k).1 (root_below d network starts is k c.net here) in
          let f : true ≡ false = sym marked ∙ free in
          cc

      cut_in : (i k : ℕ) → k < length network → IsInside (i ∷ []) (column_at d k).path → flag cut k ≡ false
      cut_in i k below inside = by (flag cut k) refl
        where
          by : (b : Bool) → flag cut k ≡ b → flag cut k ≡ false
          by false e = e
          by true e =
              let root = below_root d network starts is k ((are_cut k).0 e) in
              let col = column_is d network starts is k (column [] (get_or (model_nets d d.root) k [])) root in
              absurd (root_outside i (column_at d k).path inside (ap (λ (c : Column). c.path) col))

      stays : (i : ℕ) → Root (i ∷ []) → ⊥
      stays i e = let f : i ∷ [] ≡ [] = e in cc

      edge : (i : ℕ) (a c : Column) → Feeds (drivers d) a c → IsInside (i ∷ []) c.path → IsInside (i ∷ []) a.path ⊎ Root a.path
      edge i a c feeds inside = near_inside i a.path c.path (edge_near d a c feeds) inside

      alone : (p : ℕ) (pearl : Pearl) → slice_get ps p ≡ Some pearl → (other : Pearl) → Among other ps → (path : List ℕ) × IsPlaced d path other × (Root path → ⊥) × (IsInside (p ∷ []) path → other ≡ pearl)
      alone p pearl here other among =
          let at = among_get ps other among in
          let q = at.0 in (
            q ∷ [],
            (inst_entry q other at.1).1,
            stays q,
            (λ inside.
                (let same : q ≡ p = one_inside p q inside in
                let entries : Some other ≡ Some pearl = sym at.1 ∙ ap (slice_get ps) same ∙ here in
                let h : other ≡ pearl = cc in h)),
          )

      pub inst_cut_off : AreCutOff d g cut reached ps
      inst_cut_off = record {
        count = (let count = are.count some in let insts = is.insts in let long = inst_count d some in omega arith);
        each = λ p path pearl there here.
            (let below = inst_below p pearl here in
            let insts = is.insts in
            let paths : Some (p ∷ []) ≡ Some path = sym (inst_pearl d p (omega arith)) ∙ there in
            let path_is : p ∷ [] ≡ path = cc in
            let entry = inst_entry p pearl here in
            let off = cut_off d network starts is cut (p ∷ []) Root (edge p) cut_out (cut_in p) pearl entry.1 (stays p) (instance_at d p pearl.model entry.0) in
            subst (λ (q : List ℕ). IsCutOff d g cut q pearl) path_is off);
        marks = λ p pearl here.
            (let entry = inst_entry p pearl here in
            reached_in d network starts is cut (p ∷ []) Root (edge p) cut_out (cut_in p) pearl entry.1 (stays p) ps (get_among ps p pearl here) (alone p pearl here) starting reached are_starts are_reached);
      }

  -- the root has no more columns than there are
  pub cut_within : count_cut d ≤ length g
  cut_within = by (zero_or_more (length (insts_of d d.root)))
    where
      few : (n m : ℕ) → (m < n → ⊥) → n ≤ m
      few n m none = pick (nat_lt m n) refl
        where
          pick : (b : Bool) → nat_lt m n ≡ b → n ≤ m
          pick true e = absurd (none (ltb-true m n e))
          pick false e = ltb-false m n e

      by : (length (insts_of d d.root) ≡ 0) ⊎ (0 < length (insts_of d d.root)) → count_cut d ≤ length g
      by (inl none) = let e = cut_none d none in omega arith
      by (inr some) =
          let e = cut_some d (not_zero (length (insts_of d d.root)) some) in
          let long = graph_length d network starts is in
          let whole = is.whole in
          let fits_in : length (model_nets d d.root) ≤ length (columns d) = few (length (model_nets d d.root)) (length (columns d)) (λ below. let h = slice_get_within (columns d) (length (columns d)) (column [] (get_or (model_nets d d.root) (length (columns d)) [])) (below_root d network starts is (length (columns d)) below) in omega arith) in
          omega arith

  pub pearls_fit : AllByRecursion (IsFittingPearl d (length g)) ps
  pearls_fit = all_from_among (IsFittingPearl d (length g)) ps (by (zero_or_more (length (insts_of d d.root))))
    where
      by : (length (insts_of d d.root) ≡ 0) ⊎ (0 < length (insts_of d d.root)) → (pearl : Pearl) → Among pearl ps → IsFittingPearl d (length g) pearl
      by (inl none) pearl among =
          let same : pearl ≡ root none = one_among none pearl (root none) (subst (λ (xs : List Pearl). Among pearl xs) (are.whole none) among) in
          subst (λ (q : Pearl). IsFittingPearl d (length g) q) (sym same) (fits d network starts is [] (root none) (root_placed none))
      by (inr some) pearl among =
          let at = among_get ps pearl among in
          fits d network starts is (at.0 ∷ []) pearl (inst_entry some at.0 pearl at.1).1

  module _ (cut starting reached : List Bool)
      (are_cut : (k : ℕ) → (flag cut k ≡ true) ↔ (k < count_cut d))
      (are_starts : (k : ℕ) → (flag starting k ≡ true) ↔ IsInputOf d ps k)
      (are_reached : (k : ℕ) → k < length g → (flag reached k ≡ true) ↔ IsReached g cut starting k) where
    pub all_cut_off : AreCutOff d g cut reached ps
    all_cut_off = by (zero_or_more (length (insts_of d d.root)))
      where
        uncut : count_cut d ≡ 0 → (k : ℕ) → k < length network → flag cut k ≡ false
        uncut none k below = pick (flag cut k) refl
          where
            pick : (b : Bool) → flag cut k ≡ b → flag cut k ≡ false
            pick false e = e
            pick true e = let low : k < count_cut d = (are_cut k).0 e in absurd (omega arith)

        by : (length (insts_of d d.root) ≡ 0) ⊎ (0 < length (insts_of d d.root)) → AreCutOff d g cut reached ps
        by (inl none) = whole_cut_off none cut starting reached (uncut (cut_none d none)) are_starts are_reached
        by (inr some) = inst_cut_off some cut starting reached (subst (λ (n : ℕ). (k : ℕ) → (flag cut k ≡ true) ↔ (k < n)) (cut_some d (not_zero (length (insts_of d d.root)) some)) are_cut) are_starts are_reached
