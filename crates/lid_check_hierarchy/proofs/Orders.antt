-- Orders of the reached models, and models that reach themselves.
use Rattle.std.proofs.Common.{◌≡◌, ◌⊎◌, ℕ, zero, suc, ◌<◌, ◌≤◌, Bool, true, false, cond, List, [], ◌∷◌, ◌++◌, length, take, map, filter, get_or, slice_index, Option, Some, None, option_and_then, inl, inr, refl, sym, ◌∙◌, ap, subst, arith, append_assoc}
use Rattle.lid_base.specs.Lists.{Among}
use Rattle.lid_check_digraph.specs.Graphs.{reads_at, flag, EdgesLead, IsOnLoop, HasNoLoop, IsOrder}
use Rattle.lid_check_digraph.specs.Results.{IsLeastOnLoop}
use Rattle.lid_design.specs.declared.Design.{Design}
use Rattle.lid_design.specs.Models.{instance_number, number_from, IsReached, ReachesItself, HasNoRecursion, IsFirstRecursive}
use Rattle.lid_check_hierarchy.specs.Surveys.{AreReachedMarks, instance_numbers, StandsAfterItsModels, IsModelOrder}
use Rattle.std.proofs.lemmas.List.{length-map}
use Rattle.lid_base.proofs.Lists.{then_some, last_case}
use Rattle.lid_check_hierarchy.specs.Graphs.{IsUsedGraph, kept, kept_row, some_of, graph_of}
use Rattle.lid_check_hierarchy.proofs.Walks.{number_from_outer, instance_reads, reads_instance}
use Rattle.std.proofs.Math.Seq.{take-append_seam}

index_after : (before : List ℕ) (k : ℕ) (later : List ℕ) → slice_index (before ++ k ∷ later) (length before) ≡ k
index_after [] k later = refl
index_after (x ∷ before) k later = index_after before k later

length_within : (before : List ℕ) (k : ℕ) (later : List ℕ) → length before < length (before ++ k ∷ later)
length_within [] k later = omega arith
length_within (x ∷ before) k later = let h = length_within before k later in omega arith

pub flag-within : (marks : List Bool) (k : ℕ) → flag marks k ≡ true → k < length marks
flag-within [] k mark = absurd (let e : false ≡ true = mark in cc)
flag-within (m ∷ marks) zero mark = omega arith
flag-within (m ∷ marks) (suc k) mark = let h = flag-within marks k mark in omega arith

-- a path that goes on from the end of another
pub number_from_append : (d : Design) (k : ℕ) (inner outer : List ℕ) → number_from d k (inner ++ outer) ≡ option_and_then (λ b. number_from d b inner) (number_from d k outer)
unfolding number_from
number_from_append d k [] outer = by (number_from d k outer)
  where
    by : (o : Option ℕ) → o ≡ option_and_then (λ (b : ℕ). Some b) o
    by None = refl
    by (Some b) = refl
number_from_append d k (i ∷ inner) outer = ap (option_and_then (instance_number d i)) (number_from_append d k inner outer) ∙ by (number_from d k outer)
  where
    by : (o : Option ℕ) → option_and_then (instance_number d i) (option_and_then (λ b. number_from d b inner) o) ≡ option_and_then (λ b. option_and_then (instance_number d i) (number_from d b inner)) o
    by None = refl
    by (Some b) = refl

-- what a path leads to from a reached model is reached
pub reached_through : (d : Design) (k j : ℕ) (path : List ℕ) → IsReached d k → number_from d k path ≡ Some j → IsReached d j
reached_through d k j path reached leads =
    (path ++ reached.0, number_from_append d d.root path reached.0 ∙ ap (option_and_then (λ b. number_from d b path)) reached.1 ∙ leads)

module _ (d : Design) (g : List (List ℕ)) (used : IsUsedGraph d g) where
  path_of : (n a c : ℕ) → EdgesLead g n a c → (path : List ℕ) × (number_from d c path ≡ Some a)
  unfolding number_from
  path_of zero a c same = ([], ap Some (sym same))
  path_of (suc n) a c w =
      let inner = path_of n a w.0 w.1 in
      let inst = (used.only c w.0 w.2).1 in
      let whole : number_from d c (inner.0 ++ inst.0 ∷ []) ≡ number_from d w.0 inner.0 = number_from_outer d c inst.0 inner.0 ∙ ap (option_and_then (λ b. number_from d b inner.0)) inst.1 in
      (inner.0 ++ inst.0 ∷ [], whole ∙ inner.1)

  -- a path with an instance at its outer end has one at its inner end
  inner_end : (k i : ℕ) (path : List ℕ) → number_from d k (path ++ i ∷ []) ≡ Some k → ReachesItself d k
  inner_end k i [] leads = (i, [], leads)
  inner_end k i (j ∷ path) leads = (j, path ++ i ∷ [], leads)

  pub loop_recursive : (k : ℕ) → IsOnLoop g k → IsReached d k × ReachesItself d k
  loop_recursive k (n, w) =
      let inner = path_of n k w.0 w.1 in
      let read = used.only k w.0 w.2 in
      let whole : number_from d k (inner.0 ++ read.1.0 ∷ []) ≡ number_from d w.0 inner.0 = number_from_outer d k read.1.0 inner.0 ∙ ap (option_and_then (λ b. number_from d b inner.0)) read.1.1 in
      (read.0, inner_end k read.1.0 inner.0 (whole ∙ inner.1))

  front : (a j : ℕ) → Among a (reads_at g j) → (m c : ℕ) → EdgesLead g m j c → EdgesLead g (suc m) a c
  front a j read zero c same = (a, refl, subst (λ (x : ℕ). Among a (reads_at g x)) same read)
  front a j read (suc m) c w = (w.0, front a j read m w.0 w.1, w.2)

  walk_of : (c : ℕ) → IsReached d c → (path : List ℕ) (a : ℕ) → number_from d c path ≡ Some a → EdgesLead g (length path) a c
  unfolding number_from
  walk_of c reached [] a same = sym (let e : Some c ≡ Some a = same in cc)
  walk_of c reached (i ∷ path) a leads =
      let parts = then_some (number_from d c path) (instance_number d i) a leads in
      let through = reached_through d c parts.0 path reached parts.1 in
      front a parts.0 (used.each parts.0 a i through parts.2) (length path) c (walk_of c reached path parts.0 parts.1)

  pub recursive_loop : (k : ℕ) → IsReached d k → ReachesItself d k → IsOnLoop g k
  recursive_loop k reached (i, path, leads) = (length path, walk_of k reached (i ∷ path) k leads)

  pub least_recursive : (k : ℕ) → IsLeastOnLoop g k → IsFirstRecursive d k
  least_recursive k least =
      let on = loop_recursive k least.on in
      record { reached = on.0; itself = on.1; first = λ j below reached itself. least.least j below (recursive_loop j reached itself) }

  pub none_recursive : HasNoLoop g → HasNoRecursion d
  none_recursive none k reached itself = none k (recursive_loop k reached itself)

  pub to_any : (x : ℕ) (xs : List ℕ) → Among x xs → Among x xs
  to_any x [] among = among
  to_any x (y ∷ ys) (inl e) = inl e
  to_any x (y ∷ ys) (inr later) = inr (to_any x ys later)

  module _ (order : List ℕ) (is : IsOrder g order) (marks : List Bool) (marked : AreReachedMarks d marks) where
    kept_among : (x : ℕ) (ks : List ℕ) → Among x ks → flag marks x ≡ true → Among x (filter (flag marks) ks)
    kept_among x [] among mark = among
    kept_among x (k ∷ ks) among mark = by (flag marks k) refl among (λ later. kept_among x ks later mark)
      where
        by : (b : Bool) → flag marks k ≡ b → (x ≡ k) ⊎ Among x ks → (Among x ks → Among x (filter (flag marks) ks)) → Among x (cond b (k ∷ filter (flag marks) ks) (filter (flag marks) ks))
        by true e (inl same) later = inl same
        by true e (inr among) later = inr (later among)
        by false e (inl same) later = absurd (let f : flag marks k ≡ true = subst (λ (n : ℕ). flag marks n ≡ true) same mark in cc)
        by false e (inr among) later = later among

    kept_only : (x : ℕ) (ks : List ℕ) → Among x (filter (flag marks) ks) → flag marks x ≡ true
    kept_only x [] among = absurd among
    kept_only x (k ∷ ks) among = by (flag marks k) refl among (kept_only x ks)
      where
        by : (b : Bool) → flag marks k ≡ b → Among x (cond b (k ∷ filter (flag marks) ks) (filter (flag marks) ks)) → (Among x (filter (flag marks) ks) → flag marks x ≡ true) → flag marks x ≡ true
        by true e (inl same) rest = subst (λ (n : ℕ). flag marks n ≡ true) (sym same) e
        by true e (inr later) rest = rest later
        by false e later rest = rest later

    kept_short : (ks : List ℕ) → length (filter (flag marks) ks) ≤ length ks
    kept_short [] = omega arith
    kept_short (k ∷ ks) = by (flag marks k) (kept_short ks)
      where
        by : (b : Bool) → length (filter (flag marks) ks) ≤ length ks → length (cond b (k ∷ filter (flag marks) ks) (filter (flag marks) ks)) ≤ suc (length ks)
        by true h = omega arith
        by false h = omega arith

    -- what a reached model reads stands before it in the order
    earlier : (before later : List ℕ) (k : ℕ) → before ++ k ∷ later ≡ order → IsReached d k → (i j : ℕ) → instance_number d i k ≡ Some j → Among j before × IsReached d j
    unfolding number_from
    earlier before later k whole reached i j names =
        let here : slice_index order (length before) ≡ k = ap (λ (ks : List ℕ). slice_index ks (length before)) (sym whole) ∙ index_after before k later in
        let within : length before < length order = subst (λ (ks : List ℕ). length before < length ks) whole (length_within before k later) in
        let read = subst (λ (x : ℕ). Among j (reads_at g x)) (sym here) (used.each k j i reached names) in
        let taken : take (length before) order ≡ before = ap (take (length before)) (sym whole) ∙ take-append_seam before (k ∷ later) in
        (subst (Among j) taken (is.earlier (length before) j within read), reached_through d k j (i ∷ []) reached names)

    abbrev pub Stood : List ℕ → List ℕ → List ℕ → Type 0
    Stood before later found = before ++ later ≡ order → ((x : ℕ) → Among x before → IsReached d x → Among x found) → StandsAfterItsModels d found (filter (flag marks) later)

    stands : (before later found : List ℕ) → Stood before later found
    stands before [] found whole all = tt
    stands before (k ∷ later) found whole all = by (flag marks k) refl (stands (before ++ k ∷ []) later (k ∷ found)) (stands (before ++ k ∷ []) later found)
      where
        shifted : (before ++ k ∷ []) ++ later ≡ order
        shifted = append_assoc before (k ∷ []) later ∙ whole

        by : (b : Bool) → flag marks k ≡ b → Stood (before ++ k ∷ []) later (k ∷ found) → Stood (before ++ k ∷ []) later found → StandsAfterItsModels d found (cond b (k ∷ filter (flag marks) later) (filter (flag marks) later))
        by true e with without =
            let reached = (marked.exact k).0 e in (
              (λ i j names. let before_it = earlier before later k whole reached i j names in all j before_it.0 before_it.1),
              with shifted (λ x among is_reached. last_case x before k among (λ here. inr (all x here is_reached)) (λ same. inl same)),
            )
        by false e with without =
            without shifted (λ x among is_reached. last_case x before k among (λ here. all x here is_reached) (λ same. absurd (let f : flag marks k ≡ true = subst (λ (n : ℕ). flag marks n ≡ true) same ((marked.exact x).1 is_reached) in cc)))

    pub kept_order : IsModelOrder d (filter (flag marks) order)
    kept_order = record {
      each = λ k reached.
          let mark = (marked.exact k).1 reached in
          let within = flag-within marks k mark in
          let a = marked.size in
          let b = used.size in
          kept_among k order (is.all k (omega arith)) mark;
      only = λ k among. (marked.exact k).0 (kept_only k order among);
      short = let a = kept_short order in let b = is.long in let c = used.size in omega arith;
      after = stands [] order [] refl (λ x among reached. absurd among);
    }

-- the rows that are kept, one by one
kept_at : (marks : List Bool) (rows : List (List (Option ℕ))) → length marks ≡ length rows → (k : ℕ) → reads_at (kept marks rows) k ≡ kept_row (flag marks k) (get_or rows k [])
kept_at [] rows same k = refl
kept_at (m ∷ marks) [] same k = absurd (omega arith)
kept_at (m ∷ marks) (row ∷ rows) same zero = refl
kept_at (m ∷ marks) (row ∷ rows) same (suc k) = kept_at marks rows (omega arith) k

kept_long : (marks : List Bool) (rows : List (List (Option ℕ))) → length marks ≡ length rows → length (kept marks rows) ≡ length rows
kept_long [] rows same = omega arith
kept_long (m ∷ marks) [] same = absurd (omega arith)
kept_long (m ∷ marks) (row ∷ rows) same = let h = kept_long marks rows (omega arith) in omega arith

some_at : (rows : List (List (Option ℕ))) (k : ℕ) → reads_at (map some_of rows) k ≡ some_of (get_or rows k [])
some_at [] k = refl
some_at (row ∷ rows) zero = refl
some_at (row ∷ rows) (suc k) = some_at rows k

-- the rows that are kept are the graph of the reached models
pub kept_used : (d : Design) (marks : List Bool) (numbers : List (List (Option ℕ))) → AreReachedMarks d marks → numbers ≡ instance_numbers d → IsUsedGraph d (kept marks numbers)
unfolding graph_of
kept_used d marks numbers marked whole = record {
  size = kept_long marks numbers same ∙ long;
  only = λ k b among. by_mark k b (flag marks k) refl (subst (Among b) (kept_at marks numbers same k) among);
  each = λ k b i reached names. subst (Among b) (sym (kept_at marks numbers same k ∙ ap (λ (m : Bool). kept_row m (get_or numbers k [])) ((marked.exact k).1 reached) ∙ row k)) (instance_reads d k b i names);
}
  where
    long : length numbers ≡ length d.models
    long = ap length whole ∙ length-map d.models _

    same : length marks ≡ length numbers
    same = marked.size ∙ sym long

    row : (k : ℕ) → some_of (get_or numbers k []) ≡ reads_at (graph_of d) k
    row k = ap (λ (rows : List (List (Option ℕ))). some_of (get_or rows k [])) whole ∙ sym (some_at (instance_numbers d) k)

    by_mark : (k b : ℕ) (m : Bool) → flag marks k ≡ m → Among b (kept_row m (get_or numbers k [])) → IsReached d k × ((i : ℕ) × (instance_number d i k ≡ Some b))
    by_mark k b true e among = ((marked.exact k).0 e, reads_instance d k b (subst (Among b) (row k) among))
    by_mark k b false e among = absurd among
