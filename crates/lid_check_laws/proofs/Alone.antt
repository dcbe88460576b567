-- A root without instances: each edge is a cover of the root.
use Rattle.std.proofs.Common.{◌≡◌, ◌⊎◌, ℕ, zero, suc, not, List, [], ◌∷◌, length, Some, None, option_and_then, slice_get, inl, inr, refl, sym, ◌∙◌, ap, subst, arith}
use Rattle.lid_base.specs.Lists.{Among}
use Rattle.lid_base.proofs.Lists.{get_among, filter_among}
use Rattle.lid_design.specs.declared.Design.{Design}
use Rattle.lid_design.specs.declared.Model.{Model}
use Rattle.lid_design.specs.declared.Inst.{Inst}
use Rattle.lid_design.specs.Columns.{Column, column, model_named, instance_model, model_at, is_clock, data_inputs, drivers}
use Rattle.lid_design.specs.Feeds.{Feeds, EdgesLead}
use Rattle.lid_design.specs.Loops.{HasNoLoop, WalkInside}
use Rattle.lid_check_loops.specs.Dependence.{HasNoDependence}
use Rattle.lid_check_laws.specs.Plain.{IsRising, IsApart}
use Rattle.lid_check_laws.proofs.Walking.{walk_keeps, Edge, none_closed}
use Rattle.lid_check_loops.proofs.Edges.{OfCover, OfInput, OfOutput, EdgeAt, edge_at}

pub some_none : {A : Type 0} (a : A) → Some a ≡ None → ⊥
some_none a e = absurd (let f : Some a ≡ None = e in cc)

-- a model of no instances has none anywhere
none_in : (insts : List Inst) (i : ℕ) → length insts ≡ 0 → slice_get insts i ≡ None
none_in [] zero none = refl
none_in [] (suc i) none = refl
none_in (inst ∷ insts) i none = absurd (omega arith)

pub no_inst : (m : Model) → m.insts ≡ [] → (i : ℕ) → slice_get m.insts i ≡ None
no_inst m alone i = none_in m.insts i (ap length alone)

-- a walk inside a pearl is a walk
pub walk_of : (d : Design) (pearl : List ℕ) (n : ℕ) (a c : Column) → WalkInside d pearl n a c → EdgesLead (drivers d) n a c
walk_of d pearl zero a c walk = walk.0
walk_of d pearl (suc n) a c walk = (walk.0, walk_of d pearl n a walk.0 walk.1, walk.2)

-- the data inputs are among the inputs
pub data_among : (d : Design) (m : Model) (net : List ℕ) → Among net (data_inputs d m) → Among net m.inputs
unfolding data_inputs
data_among d m net among = (filter_among (λ net. not (is_clock d m net)) net m.inputs among).0

module _ (d : Design) (m : Model) (root : slice_get d.models d.root ≡ Some m) (alone : m.insts ≡ []) where
  below_none : (i : ℕ) (path : List ℕ) → model_at d (i ∷ path) ≡ None
  unfolding model_at
  below_none i [] = ap (option_and_then (instance_model d i)) root ∙ ap (option_and_then (λ inst. model_named d inst.model)) (no_inst m alone i)
  below_none i (j ∷ path) = ap (option_and_then (instance_model d i)) (below_none j path)

  -- the root alone has columns
  only_root : (path : List ℕ) (sub : Model) → model_at d path ≡ Some sub → (path ≡ []) × (sub ≡ m)
  unfolding model_at
  only_root [] sub here = (refl, (let e : Some sub ≡ Some m = sym here ∙ root in cc))
  only_root (i ∷ path) sub here = absurd (some_none sub (sym here ∙ below_none i path))

  edge_cover : (a c : Column) → Feeds (drivers d) a c → OfCover m a c
  edge_cover a c feeds = by at.edge
    where
      at : EdgeAt d a c
      at = edge_at d a c feeds

      only : (c.path ≡ []) × (at.model ≡ m)
      only = only_root c.path at.model at.here

      by : OfCover at.model a c ⊎ OfInput at.model a c ⊎ OfOutput d at.model a c → OfCover m a c
      by (inl cover) = subst (λ (x : Model). OfCover x a c) only.1 cover
      by (inr (inl input)) = absurd (let e : input.i ∷ a.path ≡ [] = sym input.path_is ∙ only.0 in cc)
      by (inr (inr output)) = absurd (some_none output.inst (sym output.at ∙ ap (λ (x : Model). slice_get x.insts output.i) only.1 ∙ no_inst m alone output.i))

  pub no_loop : (heights : List (List ℕ × ℕ)) → IsRising heights m → HasNoLoop d
  no_loop heights rising c loop = none_closed (λ c. ⊥) (λ c. ⊥) height (drivers d) (λ c none more. none) edges loop.0 c loop.1
    where
      height : Column → ℕ → Type 0
      height c h = Among {A = List ℕ × ℕ} (c.net, h) heights

      edges : (a c : Column) → Feeds (drivers d) a c → Edge (λ c. ⊥) (λ c. ⊥) height a c
      edges a c feeds =
          let cover = edge_cover a c feeds in
          let some = rising.some cover.inputs cover.out cover.cover cover.cell in
          inl (record {
            late = λ x. x;
            root = λ x. x;
            back = λ x. x;
            some = (some.0, subst (λ (net : List ℕ). Among {A = List ℕ × ℕ} (net, some.0) heights) cover.out_is some.1);
            lower = λ h has. rising.lower cover.inputs cover.out cover.cover a.net h cover.cell cover.from (subst (λ (net : List ℕ). Among {A = List ℕ × ℕ} (net, h) heights) (sym cover.out_is) has);
          })

  pub no_dependence : (late : List (List ℕ)) → IsApart late m → HasNoDependence d
  no_dependence late parted p o i x output input on =
      let only = only_root on.path x on.model in
      let of_root : (names : Model → List (List ℕ)) (name : List ℕ) → Among name (names x) → Among name (names m) = λ names name among. subst (λ (y : Model). Among name (names y)) only.1 among in
      let given = data_among d x input (get_among (data_inputs d x) i input on.given) in
      let out = get_among x.outputs o output on.out in
      parted.outputs output (of_root (λ y. y.outputs) output out)
      (walk_keeps (drivers d) (λ c. Among c.net late) keeps on.walk.0 (column on.path input) (column on.path output) (walk_of d on.path on.walk.0 _ _ on.walk.1) (parted.inputs input (of_root (λ y. y.inputs) input given)))
    where
      keeps : (a c : Column) → Feeds (drivers d) a c → Among a.net late → Among c.net late
      keeps a c feeds among =
          let cover = edge_cover a c feeds in
          subst (λ (net : List ℕ). Among net late) cover.out_is (parted.kept cover.inputs cover.out cover.cover a.net cover.cell cover.from among)
