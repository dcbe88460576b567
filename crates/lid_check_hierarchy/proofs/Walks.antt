-- Paths of a design are walks in the graph of its models.
use Rattle.std.proofs.Common.{◌≡◌, ℕ, zero, suc, ◌<◌, Bool, true, false, List, [], ◌∷◌, ◌++◌, length, map, get_or, ◌↔◌, IsTrue, replicate, Option, Some, None, option_and_then, slice_get, inl, inr, refl, sym, ◌∙◌, ap, subst, arith}
use Rattle.std.specs.Option.{option_map_or}
use Rattle.std.specs.List.{cons_option}
use Rattle.std.specs.Str.{bytes_eq}
use Rattle.std.proofs.lemmas.List.{length-map}
use Rattle.std.proofs.lemmas.List.Quantifiers.{position-Some}
use Rattle.lid_base.specs.Lists.{Among}
use Rattle.lid_base.proofs.Lists.{then_some}
use Rattle.lid_check_digraph.specs.Graphs.{reads_at, flag, WalkPast, IsReaching, IsGraph}
use Rattle.lid_design.specs.WellFormed.{IsWellFormed}
use Rattle.lid_design.specs.declared.Design.{Design}
use Rattle.lid_design.specs.declared.Model.{Model}
use Rattle.lid_design.specs.declared.Inst.{Inst}
use Rattle.lid_design.specs.Models.{number_named, insts_of, instance_number, number_from, IsReached}
use Rattle.lid_check_hierarchy.specs.Surveys.{instance_numbers}
use Rattle.lid_check_hierarchy.specs.Graphs.{some_of, graph_of}

-- the number of the model of an instance
abbrev pub named : Design → Inst → Option ℕ
named d inst = number_named d inst.model

-- a model of a design
some_model : (d : Design) → IsWellFormed d → Model
some_model d formed = by d.models formed.rooted
  where
    by : (ms : List Model) → d.root < length ms → Model
    by [] h = absurd (omega arith)
    by (m ∷ ms) h = m

-- one more instance at the outer end of a path
pub number_from_outer : (d : Design) (k i : ℕ) (path : List ℕ) → number_from d k (path ++ i ∷ []) ≡ option_and_then (λ b. number_from d b path) (instance_number d i k)
unfolding number_from
number_from_outer d k i [] = by (instance_number d i k)
  where
    by : (o : Option ℕ) → o ≡ option_and_then (λ (b : ℕ). Some b) o
    by None = refl
    by (Some b) = refl
number_from_outer d k i (j ∷ path) = ap (option_and_then (instance_number d j)) (number_from_outer d k i path) ∙ by (instance_number d i k)
  where
    by : (o : Option ℕ) → option_and_then (instance_number d j) (option_and_then (λ b. number_from d b path) o) ≡ option_and_then (λ b. option_and_then (instance_number d j) (number_from d b path)) o
    by None = refl
    by (Some b) = refl

row_at : {A : Type 0} (f : A → List ℕ) (xs : List A) (k : ℕ) → get_or (map f xs) k [] ≡ option_map_or f (slice_get xs k) []
row_at f [] k = refl
row_at f (x ∷ xs) zero = refl
row_at f (x ∷ xs) (suc k) = row_at f xs k

of_insts : (d : Design) (o : Option Model) → option_map_or (λ m. some_of (map (named d) m.insts)) o [] ≡ some_of (map (named d) (option_map_or (λ m. m.insts) o []))
of_insts d None = refl
of_insts d (Some m) = refl

two_maps : (d : Design) (ms : List Model) → map some_of (map (λ m. map (named d) m.insts) ms) ≡ map (λ m. some_of (map (named d) m.insts)) ms
two_maps d [] = refl
two_maps d (m ∷ ms) = ap (λ (rows : List (List ℕ)). some_of (map (named d) m.insts) ∷ rows) (two_maps d ms)

-- a model reads the models of its instances
pub reads_of : (d : Design) (k : ℕ) → reads_at (graph_of d) k ≡ some_of (map (named d) (insts_of d k))
unfolding graph_of
reads_of d k =
    ap (λ (rows : List (List ℕ)). get_or rows k []) (two_maps d d.models)
    ∙ row_at (λ m. some_of (map (named d) m.insts)) d.models k
    ∙ of_insts d (slice_get d.models k)

some_instance : (d : Design) (insts : List Inst) (b : ℕ) → Among b (some_of (map (named d) insts)) → (i : ℕ) × (option_and_then (named d) (slice_get insts i) ≡ Some b)
some_instance d [] b among = absurd among
some_instance d (inst ∷ insts) b among = by (named d inst) refl among (some_instance d insts b)
  where
    by : (o : Option ℕ) → named d inst ≡ o → Among b (cons_option o (some_of (map (named d) insts))) → (Among b (some_of (map (named d) insts)) → (i : ℕ) × (option_and_then (named d) (slice_get insts i) ≡ Some b)) → (i : ℕ) × (option_and_then (named d) (slice_get (inst ∷ insts) i) ≡ Some b)
    by None e here later = let found = later here in (suc found.0, found.1)
    by (Some n) e (inl same) later = (zero, e ∙ ap Some (sym same))
    by (Some n) e (inr here) later = let found = later here in (suc found.0, found.1)

instance_some : (d : Design) (insts : List Inst) (b i : ℕ) → option_and_then (named d) (slice_get insts i) ≡ Some b → Among b (some_of (map (named d) insts))
instance_some d [] b i h = absurd (let e : None ≡ Some b = h in cc)
instance_some d (inst ∷ insts) b zero h = subst (λ (o : Option ℕ). Among b (cons_option o (some_of (map (named d) insts)))) (sym h) (inl refl)
instance_some d (inst ∷ insts) b (suc i) h = by (named d inst) (instance_some d insts b i h)
  where
    by : (o : Option ℕ) → Among b (some_of (map (named d) insts)) → Among b (cons_option o (some_of (map (named d) insts)))
    by None here = here
    by (Some n) here = inr here

-- what a model reads is the model of one of its instances, and each is read
pub reads_instance : (d : Design) (k b : ℕ) → Among b (reads_at (graph_of d) k) → (i : ℕ) × (instance_number d i k ≡ Some b)
reads_instance d k b read = some_instance d (insts_of d k) b (subst (Among b) (reads_of d k) read)

pub instance_reads : (d : Design) (k b i : ℕ) → instance_number d i k ≡ Some b → Among b (reads_at (graph_of d) k)
instance_reads d k b i names = subst (Among b) (sym (reads_of d k)) (instance_some d (insts_of d k) b i names)

module _ (d : Design) (cut : List Bool) (none : (c : ℕ) → flag cut c ≡ false) where
  pub path_of_walk : (n a c : ℕ) → WalkPast (graph_of d) cut n a c → (path : List ℕ) × (number_from d c path ≡ Some a)
  unfolding number_from
  path_of_walk zero a c same = ([], ap Some (sym same))
  path_of_walk (suc n) a c w =
      let inner = path_of_walk n a w.0 w.1 in
      let inst = reads_instance d c w.0 w.2 in
      let whole : number_from d c (inner.0 ++ inst.0 ∷ []) ≡ number_from d w.0 inner.0 = number_from_outer d c inst.0 inner.0 ∙ ap (option_and_then (λ b. number_from d b inner.0)) inst.1 in
      (inner.0 ++ inst.0 ∷ [], whole ∙ inner.1)

  front : (a j : ℕ) → Among a (reads_at (graph_of d) j) → (m c : ℕ) → WalkPast (graph_of d) cut m j c → WalkPast (graph_of d) cut (suc m) a c
  front a j read zero c same = (a, refl, subst (λ (x : ℕ). Among a (reads_at (graph_of d) x)) same read, none c)
  front a j read (suc m) c w = (w.0, front a j read m w.0 w.1, w.2, w.3)

  pub walk_of_path : (c : ℕ) (path : List ℕ) (a : ℕ) → number_from d c path ≡ Some a → IsReaching (graph_of d) cut a c
  unfolding number_from
  walk_of_path c [] a same = (zero, sym (let e : Some c ≡ Some a = same in cc))
  walk_of_path c (i ∷ path) a leads =
      let parts = then_some (number_from d c path) (instance_number d i) a leads in
      let inner = walk_of_path c path parts.0 parts.1 in
      (suc inner.0, front a parts.0 (instance_reads d parts.0 a i parts.2) inner.0 c inner.1)

pub long_graph : (d : Design) → length (graph_of d) ≡ length d.models
unfolding graph_of
long_graph d = length-map (instance_numbers d) some_of ∙ length-map d.models _

-- what a path from the root leads to is one of the models
below_from : (d : Design) → IsWellFormed d → (path : List ℕ) (k : ℕ) → number_from d d.root path ≡ Some k → k < length d.models
unfolding number_from
below_from d formed [] k leads = subst (λ (n : ℕ). n < length d.models) (let e : Some d.root ≡ Some k = leads in cc) formed.rooted
below_from d formed (i ∷ path) k leads =
    let outer = then_some (number_from d d.root path) (instance_number d i) k leads in
    let parts = then_some (slice_get (insts_of d outer.0) i) (named d) k outer.2 in
    (position-Some (λ m. bytes_eq m.name parts.0.model) d.models k (some_model d formed) parts.2).0

-- the number of a reached model is one of the models
pub reached_below : (d : Design) → IsWellFormed d → (k : ℕ) → IsReached d k → k < length d.models
reached_below d formed k reached = below_from d formed reached.0 k reached.1

-- the graph of the models has only their numbers
pub models_are_graph : (d : Design) → IsWellFormed d → IsGraph (graph_of d)
models_are_graph d formed = record {
  few = let few = formed.few in let long = long_graph d in omega arith;
  within = λ c b read. subst (λ (n : ℕ). b < n) (sym (long_graph d)) (below c b (reads_instance d c b read));
}
  where
    below : (c b : ℕ) → (i : ℕ) × (instance_number d i c ≡ Some b) → b < length d.models
    below c b found =
        let parts = then_some (slice_get (insts_of d c) found.0) (named d) b found.1 in
        (position-Some (λ m. bytes_eq m.name parts.0.model) d.models b (some_model d formed) parts.2).0

-- the marks of the numbers that reach the root are those of the reached models
pub marks_reached : (d : Design) (cut : List Bool) → ((c : ℕ) → flag cut c ≡ false) → (flags : List Bool) → ((a : ℕ) → IsTrue (flag flags a) ↔ IsReaching (graph_of d) cut a d.root) → (k : ℕ) → (flag flags k ≡ true) ↔ IsReached d k
marks_reached d cut none flags exact k = (
  (λ marked. let walk = (exact k).0 marked in path_of_walk d cut none walk.0 k d.root walk.1),
  (λ reached. (exact k).1 (walk_of_path d cut none d.root reached.0 k reached.1)),
)

-- no mark is set
pub flag_none : (n : ℕ) (marks : List Bool) → marks ≡ replicate n false → (c : ℕ) → flag marks c ≡ false
flag_none n marks e c = ap (λ (bs : List Bool). flag bs c) e ∙ by n c
  where
    by : (n c : ℕ) → flag (replicate n false) c ≡ false
    by zero c = refl
    by (suc n) zero = refl
    by (suc n) (suc c) = by n c

-- what is told of a graph that is the graph of the models
pub reached_from : (d : Design) (g : List (List ℕ)) → g ≡ graph_of d → (cut flags : List Bool) → ((a : ℕ) → IsTrue (flag flags a) ↔ IsReaching g cut a d.root) → (a : ℕ) → IsTrue (flag flags a) ↔ IsReaching (graph_of d) cut a d.root
reached_from d g same cut flags exact = subst (λ (h : List (List ℕ)). (a : ℕ) → IsTrue (flag flags a) ↔ IsReaching h cut a d.root) same exact

-- the model of an instance is one of the models
pub instance_below : (d : Design) → IsWellFormed d → (k b i : ℕ) → instance_number d i k ≡ Some b → b < length d.models
instance_below d formed k b i names =
    let parts = then_some (slice_get (insts_of d k) i) (named d) b names in
    (position-Some (λ m. bytes_eq m.name parts.0.model) d.models b (some_model d formed) parts.2).0
