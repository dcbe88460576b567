-- A plain root with instances of plain models: no closed walk, and no output of an instance depends on an
-- input of it.
use Rattle.std.proofs.Common.{◌≡◌, ◌⊎◌, ℕ, ◌==◌, Bool, true, false, cond, List, [], ◌∷◌, length, map, Some, slice_get, inl, inr, refl, sym, ◌∙◌, ap, subst, arith}
use Rattle.std.specs.List.{range_with_len}
use Rattle.std.proofs.lemmas.Bool.{eqb-true}
use Rattle.lid_base.specs.Lists.{Among}
use Rattle.lid_base.proofs.Lists.{then_some, get_among, map_among}
use Rattle.lid_design.specs.declared.Design.{Design}
use Rattle.lid_design.specs.declared.Model.{Model}
use Rattle.lid_design.specs.declared.Inst.{Inst}
use Rattle.lid_design.specs.Columns.{Column, column, model_named, instance_model, model_at, data_inputs, drivers}
use Rattle.lid_design.specs.Models.{insts_of}
use Rattle.lid_design.specs.Feeds.{Feeds}
use Rattle.lid_design.specs.Loops.{HasNoLoop, pearls}
use Rattle.lid_design.specs.WellFormed.{IsWellFormed}
use Rattle.lid_check_loops.specs.Dependence.{HasNoDependence}
use Rattle.lid_check_laws.specs.Plain.{IsRising, IsApart, IsPlainInst, IsPlainRoot}
use Rattle.lid_check_laws.proofs.Walking.{Inside, Edge, none_closed, stays_late}
use Rattle.lid_check_loops.proofs.Edges.{OfCover, OfInput, OfOutput, EdgeAt, edge_at}
use Rattle.lid_check_laws.proofs.Alone.{some_none, no_inst, walk_of, data_among}
use Rattle.lid_check_laws.proofs.Below.{sub_of, insts_are}
use Rattle.lid_base.proofs.Options.{same_some}

tail_same : (i j : ℕ) (xs ys : List ℕ) → i ∷ xs ≡ j ∷ ys → xs ≡ ys
tail_same i j xs ys same = cc

head_same : (i j : ℕ) (xs ys : List ℕ) → i ∷ xs ≡ j ∷ ys → i ≡ j
head_same i j xs ys same = cc

not_empty : (path : List ℕ) (i : ℕ) (up : List ℕ) → path ≡ i ∷ up → path ≡ [] → ⊥
not_empty path i up here none = absurd (let e : i ∷ up ≡ [] = sym here ∙ none in cc)

module _ (d : Design) (formed : IsWellFormed d) (m : Model) (root : slice_get d.models d.root ≡ Some m) (plain : IsPlainRoot d m) where
  -- a model of an instance of the root, at its path
  record Stands (path : List ℕ) (x : Model) : Type 0 where
    i : ℕ
    inst : Inst
    path_is : path ≡ i ∷ []
    at : slice_get m.insts i ≡ Some inst
    named : model_named d inst.model ≡ Some x
    bound : IsPlainInst d inst x

  stands_at : (i : ℕ) (x : Model) → instance_model d i m ≡ Some x → Stands (i ∷ []) x
  stands_at i x is =
      let found = then_some (slice_get m.insts i) (λ inst. model_named d inst.model) x is in
      let sub = (sub_of d formed m root plain i found.0 found.1).1 in
      let inst_is : sub.inst ≡ found.0 = same_some (slice_get m.insts i) sub.inst found.0 sub.at found.1 in
      let model_is : sub.sub ≡ x = same_some (model_named d found.0.model) sub.sub x (ap (λ (inst : Inst). model_named d inst.model) (sym inst_is) ∙ sub.named) found.2 in
      record {
        i = i;
        inst = found.0;
        path_is = refl;
        at = found.1;
        named = found.2;
        bound = subst (IsPlainInst d found.0) model_is (subst (λ (inst : Inst). IsPlainInst d inst sub.sub) inst_is sub.plain);
      }

  where_at : (path : List ℕ) (x : Model) → model_at d path ≡ Some x → ((path ≡ []) × (x ≡ m)) ⊎ Stands path x
  unfolding model_at
  where_at [] x here = inl (refl, same_some (slice_get d.models d.root) x m here root)
  where_at (i ∷ up) x here =
      let found = then_some (model_at d up) (instance_model d i) x here in
      by found.0 found.2 (where_at up found.0 found.1)
    where
      by : (y : Model) → instance_model d i y ≡ Some x → ((up ≡ []) × (y ≡ m)) ⊎ Stands up y → ((i ∷ up ≡ []) × (x ≡ m)) ⊎ Stands (i ∷ up) x
      by y is (inl top) = inr (subst (λ (p : List ℕ). Stands (i ∷ p) x) (sym top.0) (stands_at i x (ap (instance_model d i) (sym top.1) ∙ is)))
      by y is (inr below) =
          let found = then_some (slice_get y.insts i) (λ inst. model_named d inst.model) x is in
          absurd (some_none found.0 (sym found.1 ∙ no_inst y below.bound.pearl.insts i))

  module _ (heights : Model → List (List ℕ × ℕ)) (late : Model → List (List ℕ)) (rises : IsRising (heights m) m) (graph : (inst : Inst) (sub : Model) → Among inst m.insts → IsPlainInst d inst sub → IsRising (heights sub) sub × IsApart (late sub) sub) where
    Root : Column → Type 0
    Root c = c.path ≡ []

    Late : Column → Type 0
    Late c = (x : Model) × (model_at d c.path ≡ Some x) × (¬ (c.path ≡ [])) × Among c.net (late x)

    Height : Column → ℕ → Type 0
    Height c h = (x : Model) × (model_at d c.path ≡ Some x) × Among {A = List ℕ × ℕ} (c.net, h) (heights x)

    part_of : (path : List ℕ) (x : Model) → Stands path x → IsApart (late x) x
    part_of path x stands = (graph stands.inst x (get_among m.insts stands.i stands.inst stands.at) stands.bound).1

    parted_at : (path : List ℕ) (x : Model) → model_at d path ≡ Some x → ¬ (path ≡ []) → IsApart (late x) x
    parted_at path x here below = by (where_at path x here)
      where
        by : ((path ≡ []) × (x ≡ m)) ⊎ Stands path x → IsApart (late x) x
        by (inl top) = absurd (below top.0)
        by (inr stands) = part_of path x stands

    rising_at : (path : List ℕ) (x : Model) → model_at d path ≡ Some x → IsRising (heights x) x
    rising_at path x here = by (where_at path x here)
      where
        by : ((path ≡ []) × (x ≡ m)) ⊎ Stands path x → IsRising (heights x) x
        by (inl top) = subst (λ (y : Model). IsRising (heights y) y) (sym top.1) rises
        by (inr stands) = (graph stands.inst x (get_among m.insts stands.i stands.inst stands.at) stands.bound).0

    apart : (c : Column) → Root c → Late c → ⊥
    unfolding Root Late
    apart c top late = late.2 top

    inside : (a c : Column) (x : Model) → model_at d c.path ≡ Some x → OfCover x a c → Inside Root Late Height a c
    unfolding Root Late Height
    inside a c x here cover =
        let rising = rising_at c.path x here in
        let some = rising.some cover.inputs cover.out cover.cover cover.cell in
        record {
          late = λ before.
              let same : before.0 ≡ x = same_some (model_at d c.path) before.0 x (ap (model_at d) (sym cover.path_is) ∙ before.1) here in
              let below : ¬ (c.path ≡ []) = λ top. before.2 (cover.path_is ∙ top) in
              let among = subst (λ (y : Model). Among a.net (late y)) same before.3 in
              (x, here, below, subst (λ (net : List ℕ). Among net (late x)) cover.out_is ((parted_at c.path x here below).kept cover.inputs cover.out cover.cover a.net cover.cell cover.from among));
          root = λ top. sym cover.path_is ∙ top;
          back = λ top. cover.path_is ∙ top;
          some = (some.0, (x, here, subst (λ (net : List ℕ). Among {A = List ℕ × ℕ} (net, some.0) (heights x)) cover.out_is some.1));
          lower = λ h has.
              let same : has.0 ≡ x = same_some (model_at d c.path) has.0 x has.1 here in
              let high = subst (λ (y : Model). Among {A = List ℕ × ℕ} (c.net, h) (heights y)) same has.2 in
              let low = rising.lower cover.inputs cover.out cover.cover a.net h cover.cell cover.from (subst (λ (net : List ℕ). Among {A = List ℕ × ℕ} (net, h) (heights x)) (sym cover.out_is) high) in
              (low.0, low.1, (x, ap (model_at d) cover.path_is ∙ here, low.2));
        }

    enters : (a c : Column) (x : Model) → model_at d c.path ≡ Some x → OfInput x a c → Root a × Late c
    unfolding Root Late
    enters a c x here input = by (where_at c.path x here)
      where
        by : ((c.path ≡ []) × (x ≡ m)) ⊎ Stands c.path x → (a.path ≡ []) × ((x : Model) × (model_at d c.path ≡ Some x) × (¬ (c.path ≡ [])) × Among c.net (late x))
        by (inl top) = absurd (not_empty c.path input.i a.path input.path_is top.0)
        by (inr stands) = (
          tail_same input.i stands.i a.path [] (sym input.path_is ∙ stands.path_is),
          (x, here, (λ top. not_empty c.path input.i a.path input.path_is top), (part_of c.path x stands).inputs c.net input.input),
        )

    leaves : (a c : Column) (x : Model) → model_at d c.path ≡ Some x → OfOutput d x a c → (¬ Late a) × (¬ Root a) × Root c
    unfolding Root Late
    leaves a c x here output = by (where_at c.path x here)
      where
        by : ((c.path ≡ []) × (x ≡ m)) ⊎ Stands c.path x → (¬ ((x : Model) × (model_at d a.path ≡ Some x) × (¬ (a.path ≡ [])) × Among a.net (late x))) × (¬ (a.path ≡ [])) × (c.path ≡ [])
        by (inr stands) = absurd (some_none output.inst (sym output.at ∙ no_inst x stands.bound.pearl.insts output.i))
        by (inl top) = ((λ before. never before (where_at a.path before.0 before.1)), (λ none. not_empty a.path output.i c.path output.path_is none), top.0)
          where
            never : (before : (x : Model) × (model_at d a.path ≡ Some x) × (¬ (a.path ≡ [])) × Among a.net (late x)) → ((a.path ≡ []) × (before.0 ≡ m)) ⊎ Stands a.path before.0 → ⊥
            never before (inl none) = before.2 none.0
            never before (inr stands) =
                let number : output.i ≡ stands.i = head_same output.i stands.i c.path [] (sym output.path_is ∙ stands.path_is) in
                let at : slice_get m.insts stands.i ≡ Some output.inst = ap (slice_get m.insts) (sym number) ∙ ap (λ (y : Model). slice_get y.insts output.i) (sym top.1) ∙ output.at in
                let inst_is : stands.inst ≡ output.inst = same_some (slice_get m.insts stands.i) stands.inst output.inst stands.at at in
                let sub_is : output.sub ≡ before.0 = same_some (model_named d output.inst.model) output.sub before.0 output.named (ap (λ (inst : Inst). model_named d inst.model) (sym inst_is) ∙ stands.named) in
                (part_of a.path before.0 stands).outputs a.net (subst (λ (y : Model). Among a.net y.outputs) sub_is output.output) before.3

    edges : (a c : Column) → Feeds (drivers d) a c → Edge Root Late Height a c
    edges a c feeds = by at.edge
      where
        at : EdgeAt d a c
        at = edge_at d a c feeds

        by : OfCover at.model a c ⊎ OfInput at.model a c ⊎ OfOutput d at.model a c → Edge Root Late Height a c
        by (inl cover) = inl (inside a c at.model at.here cover)
        by (inr (inl input)) = inr (inl (enters a c at.model at.here input))
        by (inr (inr output)) = inr (inr (leaves a c at.model at.here output))

    pub none_loops : HasNoLoop d
    none_loops c loop = none_closed Root Late Height (drivers d) apart edges loop.0 c loop.1

    pearl_below : (p : ℕ) (path : List ℕ) → slice_get (pearls d) p ≡ Some path → ¬ (path ≡ [])
    pearl_below p path here top = by (length (insts_of d d.root) == 0) refl (get_among (pearls d) p path here)
      where
        by : (b : Bool) → (length (insts_of d d.root) == 0) ≡ b → Among path (cond b ([] ∷ []) (map (λ i. i ∷ []) (range_with_len 0 (length (insts_of d d.root))))) → ⊥
        by true none among =
            let e = eqb-true (length (insts_of d d.root)) 0 none in
            let f : length (insts_of d d.root) ≡ length m.insts = ap length (insts_are d formed m root plain) in
            let g = plain.some in
            absurd (omega arith)
        by false some among =
            let found = map_among (λ (i : ℕ). i ∷ []) path (range_with_len 0 (length (insts_of d d.root))) among in
            not_empty path found.0 [] found.2 top

    pub none_depends : HasNoDependence d
    unfolding Late
    none_depends p o i x output input on =
        let below = pearl_below p on.path on.pearl in
        let part = parted_at on.path x on.model below in
        let given = part.inputs input (data_among d x input (get_among (data_inputs d x) i input on.given)) in
        let after = stays_late Root Late Height (drivers d) apart edges on.walk.0 (column on.path input) (column on.path output) (walk_of d on.path on.walk.0 _ _ on.walk.1) (x, on.model, below, given) in
        let same : after.0 ≡ x = same_some (model_at d on.path) after.0 x after.1 on.model in
        part.outputs output (get_among x.outputs o output on.out) (subst (λ (y : Model). Among output (late y)) same after.3)
