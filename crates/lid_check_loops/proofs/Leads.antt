-- Which data inputs of a pearl lead to which outputs, by marks.
use Rattle.std.proofs.Common.{◌≡◌, ◌↔◌, ℕ, ◌+◌, ◌<◌, ◌≤◌, Bool, true, false, List, [], length, Option, Some, None, slice_get, nat_lt, inl, inr, refl, sym, ◌∙◌, ap, subst, arith}
use Rattle.std.specs.Option.{option_map_or}
use Rattle.std.proofs.lemmas.Option.{slice_get_within, slice_get-get_or, slice_get_read}
use Rattle.std.proofs.Common.{get_or}
use Rattle.std.proofs.lemmas.Bool.{ltb-true, ltb-false}
use Rattle.lid_base.specs.Lists.{Among}
use Rattle.lid_base.proofs.Lists.{get_among, among_get}
use Rattle.lid_design.specs.declared.Design.{Design}
use Rattle.lid_design.specs.declared.Model.{Model}
use Rattle.lid_design.specs.Columns.{data_inputs}
use Rattle.lid_design.specs.Models.{IsReached, data_inputs_of}
use Rattle.lid_design.specs.Loops.{pearls}
use Rattle.lid_check_digraph.specs.Graphs.{flag, IsReaching}
use Rattle.lid_check_rules.specs.declared.fault.CheckFault.TheVariants.{OutputFromInput}
use Rattle.lid_check_loops.specs.declared.outputs.Lead.{Lead}
use Rattle.lid_check_loops.specs.declared.pearls.Pearl.{Pearl}
use Rattle.lid_check_loops.specs.Dependence.{DependsOn, HasNoDependence, StandsBefore, TellsDependence}
use Rattle.lid_check_loops.specs.Pearls.{number_in, is_marked, IsFittingPearl, IsFirstMarked, AreUnmarked, LeadsInPearl, AreReachedIn, AreCutOff, NoneLeads, IsFirstInput}
use Rattle.lid_check_loops.specs.Flaws.{IsFirstLead, IsFirstDependence}

abbrev pub no_pearl : Pearl
no_pearl = record { model = 0; start = 0 }

pub pearl_at : (ps : List Pearl) (p : ℕ) → p < length ps → slice_get ps p ≡ Some (get_or ps p no_pearl)
pearl_at ps p below = slice_get-get_or ps p no_pearl below

pub marked_number : (marks : List Bool) (o : Option ℕ) → option_map_or (flag marks) o false ≡ true → (a : ℕ) × (o ≡ Some a) × (flag marks a ≡ true)
marked_number marks None on = absurd (let e : false ≡ true = on in cc)
marked_number marks (Some a) on = (a, refl, on)

-- not all of some nets are unmarked where one is marked
pub some_unmarked : (d : Design) (pearl : Pearl) (marks : List Bool) (names : List (List ℕ)) → AreUnmarked d pearl marks names → ¬ ((name : List ℕ) × Among name names × (is_marked d pearl marks name ≡ true))
some_unmarked d pearl marks names unmarked (name, among, on) =
    let at = among_get names name among in
    let off : true ≡ false = sym on ∙ unmarked at.0 name at.1 in
    cc

-- the model that was read at a number
pub model_read : (d : Design) (ms : List Model) (k : ℕ) (m : Model) (e : Design) → e ≡ d → ms ≡ e.models → m ≡ get_or ms k m → k < length d.models → slice_get d.models k ≡ Some m
model_read d ms k m e same models is below =
    let all : ms ≡ d.models = models ∙ ap (λ (x : Design). x.models) same in
    slice_get_read d.models (length d.models) k m refl below (is ∙ ap (λ (xs : List Model). get_or xs k m) all)

pub inputs_at : (d : Design) (k : ℕ) (m : Model) → slice_get d.models k ≡ Some m → data_inputs_of d k ≡ data_inputs d m
inputs_at d k m here = ap (λ (o : Option Model). option_map_or (data_inputs d) o []) here

module _ (d : Design) (g : List (List ℕ)) (cut : List Bool) (pearl : Pearl) where
  module _ (output : List ℕ) (end : ℕ) (number : number_in d pearl output ≡ Some end) (marks : List Bool) (exact : (a : ℕ) → (flag marks a ≡ true) ↔ IsReaching g cut a end) where
    -- marks of what leads to an output tell which inputs lead there
    pub marked_leads : (input : List ℕ) → is_marked d pearl marks input ≡ true → LeadsInPearl d g cut pearl input output
    marked_leads input on =
        let found = marked_number marks (number_in d pearl input) on in
        (found.0, end, found.1, number, (exact found.0).0 found.2)

    pub leads_marked : (input : List ℕ) → LeadsInPearl d g cut pearl input output → is_marked d pearl marks input ≡ true
    leads_marked input (a, k, from, to, reaches) =
        let same : Some k ≡ Some end = sym to ∙ number in
        let end_is : k ≡ end = cc in
        ap (λ (o : Option ℕ). option_map_or (flag marks) o false) from ∙ (exact a).1 (subst (λ (x : ℕ). IsReaching g cut a x) end_is reaches)

    pub first_leads : (i : ℕ) → IsFirstMarked d pearl marks (data_inputs_of d pearl.model) i → IsFirstInput d g cut pearl output i
    first_leads i first = record {
      input = first.name;
      here = first.here;
      on = marked_leads first.name first.on;
      first = λ j other below there leads. let on : true ≡ false = sym (leads_marked other leads) ∙ first.first j other below there in cc;
    }

    -- where a data input leads to the output, one is marked
    pub some_marked : ((input : List ℕ) × Among input (data_inputs_of d pearl.model) × LeadsInPearl d g cut pearl input output) → (input : List ℕ) × Among input (data_inputs_of d pearl.model) × (is_marked d pearl marks input ≡ true)
    some_marked (input, among, leads) = (input, among, leads_marked input leads)

  module _ (reached : List Bool) (are : AreReachedIn d g cut reached pearl) where
    pub unmarked_none : (m : Model) → slice_get d.models pearl.model ≡ Some m → AreUnmarked d pearl reached m.outputs → NoneLeads d g cut pearl
    unmarked_none m here unmarked o n input output there out among leads =
        let same : Some n ≡ Some m = sym there ∙ here in
        let model : n ≡ m = cc in
        let on : true ≡ false = sym ((are output).1 (input, among, leads)) ∙ unmarked o output (subst (λ (x : Model). slice_get x.outputs o ≡ Some output) model out) in
        cc

    pub unmarked_before : (m : Model) (o : ℕ) → IsFirstMarked d pearl reached m.outputs o → (j : ℕ) (input other : List ℕ) → j < o → slice_get m.outputs j ≡ Some other → Among input (data_inputs_of d pearl.model) → ¬ LeadsInPearl d g cut pearl input other
    unmarked_before m o first j input other below there among leads =
        let on : true ≡ false = sym ((are other).1 (input, among, leads)) ∙ first.first j other below there in
        cc

module _ (d : Design) (g : List (List ℕ)) (cut reached : List Bool) (ps : List Pearl) (apart : AreCutOff d g cut reached ps) where
  -- a pearl's entry
  entry : (p : ℕ) (path : List ℕ) → slice_get (pearls d) p ≡ Some path → (pearl : Pearl) × (slice_get ps p ≡ Some pearl)
  entry p path here =
      let below = slice_get_within (pearls d) p path here in
      let count = apart.count in
      let none : Pearl = record { model = 0; start = 0 } in
      (get_or ps p none, slice_get-get_or ps p none (omega arith))

  path_of : (p : ℕ) (pearl : Pearl) → slice_get ps p ≡ Some pearl → (path : List ℕ) × (slice_get (pearls d) p ≡ Some path)
  path_of p pearl here =
      let below = slice_get_within ps p pearl here in
      let count = apart.count in
      (get_or (pearls d) p [], slice_get-get_or (pearls d) p [] (omega arith))

  pub fits_at : (p : ℕ) (pearl : Pearl) → slice_get ps p ≡ Some pearl → IsFittingPearl d (length g) pearl
  fits_at p pearl here = let at = path_of p pearl here in (apart.each p at.0 pearl at.1 here).fits

  -- none of one pearl more
  pub none_more : (p : ℕ) (pearl : Pearl) → slice_get ps p ≡ Some pearl → ((q : ℕ) (other : Pearl) → q < p → slice_get ps q ≡ Some other → NoneLeads d g cut other) → NoneLeads d g cut pearl → (q : ℕ) (other : Pearl) → q < p + 1 → slice_get ps q ≡ Some other → NoneLeads d g cut other
  none_more p pearl here before none q other below there = by (nat_lt q p) refl
    where
      by : (b : Bool) → nat_lt q p ≡ b → NoneLeads d g cut other
      by true e = before q other (ltb-true q p e) there
      by false e =
          let above : p ≤ q = ltb-false q p e in
          let same : q ≡ p = omega arith in
          let entries : Some other ≡ Some pearl = sym there ∙ ap (slice_get ps) same ∙ here in
          let is : pearl ≡ other = cc in
          subst (λ (x : Pearl). NoneLeads d g cut x) is none

  depends_leads : (p o i : ℕ) (m : Model) (output input : List ℕ) → DependsOn d p o i m output input → (pearl : Pearl) → slice_get ps p ≡ Some pearl → (slice_get d.models pearl.model ≡ Some m) × Among input (data_inputs_of d pearl.model) × LeadsInPearl d g cut pearl input output
  depends_leads p o i m output input on pearl here =
      let off = apart.each p on.path pearl on.pearl here in
      let model : slice_get d.models pearl.model ≡ Some m = sym off.model ∙ on.model in
      let among : Among input (data_inputs_of d pearl.model) = subst (λ (xs : List (List ℕ)). Among input xs) (sym (inputs_at d pearl.model m model)) (get_among (data_inputs d m) i input on.given) in
      (model, among, (off.exact input output among).0 on.walk)

  pub none_depends : ((p : ℕ) (pearl : Pearl) → slice_get ps p ≡ Some pearl → NoneLeads d g cut pearl) → HasNoDependence d
  none_depends none p o i m output input on =
      let at = entry p on.path on.pearl in
      let leads = depends_leads p o i m output input on at.0 at.1 in
      none p at.0 at.1 o m input output leads.0 on.out leads.1 leads.2

  pub first_dependence : (p : ℕ) (pearl : Pearl) → slice_get ps p ≡ Some pearl → ((q : ℕ) (other : Pearl) → q < p → slice_get ps q ≡ Some other → NoneLeads d g cut other) → (lead : Lead) → IsFirstLead d g cut pearl lead → IsFirstDependence d lead
  first_dependence p pearl here before lead told =
      let at = path_of p pearl here in
      let off = apart.each p at.0 pearl at.1 here in
      let input = told.leads.input in
      let inputs = inputs_at d pearl.model told.m told.here in
      record {
        is = record {
          p = p;
          m = told.m;
          output = told.output;
          input = input;
          on = record {
            path = at.0;
            pearl = at.1;
            model = off.model ∙ told.here;
            out = told.out;
            given = subst (λ (xs : List (List ℕ)). slice_get xs lead.input ≡ Some input) inputs told.leads.here;
            walk = (off.exact input told.output (get_among (data_inputs_of d pearl.model) lead.input input told.leads.here)).1 told.leads.on;
          };
          first = earlier;
        };
        reached = subst (λ (k : ℕ). IsReached d k) (sym told.same) off.fits.reached;
        here = ap (slice_get d.models) told.same ∙ told.here;
      }
    where
      same_pearl : (q o i : ℕ) (m : Model) (output input : List ℕ) → DependsOn d q o i m output input → q ≡ p → (slice_get d.models pearl.model ≡ Some m) × Among input (data_inputs_of d pearl.model) × LeadsInPearl d g cut pearl input output
      same_pearl q o i m output input on same = depends_leads q o i m output input on pearl (ap (slice_get ps) same ∙ here)

      model_is : (m : Model) → slice_get d.models pearl.model ≡ Some m → m ≡ told.m
      model_is m there = let e : Some m ≡ Some told.m = sym there ∙ told.here in cc

      earlier : (q o i : ℕ) (m : Model) (output input : List ℕ) → StandsBefore q o i p lead.output lead.input → ¬ DependsOn d q o i m output input
      earlier q o i m output input (inl below) on =
          let at = entry q on.path on.pearl in
          let leads = depends_leads q o i m output input on at.0 at.1 in
          before q at.0 below at.1 o m input output leads.0 on.out leads.1 leads.2
      earlier q o i m output input (inr (same, inl below)) on =
          let leads = same_pearl q o i m output input on same in
          told.first o input output below (subst (λ (x : Model). slice_get x.outputs o ≡ Some output) (model_is m leads.0) on.out) leads.1 leads.2
      earlier q o i m output input (inr (same, inr (output_same, below))) on =
          let leads = same_pearl q o i m output input on same in
          let out : Some output ≡ Some told.output = sym (subst (λ (x : Model). slice_get x.outputs o ≡ Some output) (model_is m leads.0) on.out) ∙ ap (slice_get told.m.outputs) output_same ∙ told.out in
          let output_is : output ≡ told.output = cc in
          let given : slice_get (data_inputs_of d pearl.model) i ≡ Some input = subst (λ (xs : List (List ℕ)). slice_get xs i ≡ Some input) (sym (inputs_at d pearl.model m leads.0)) on.given in
          told.leads.first i input below given (subst (λ (x : List ℕ). LeadsInPearl d g cut pearl input x) output_is leads.2)

-- the first output that depends on an input, told by names
pub tells_dependence : (d : Design) (lead : Lead) (first : IsFirstDependence d lead) (name output input : List ℕ) → name ≡ first.is.m.name → slice_get first.is.m.outputs lead.output ≡ Some output → slice_get (data_inputs_of d lead.model) lead.input ≡ Some input → TellsDependence d (OutputFromInput name output input)
tells_dependence d lead first name output input named out given =
    let out_same : Some output ≡ Some first.is.output = sym out ∙ first.is.on.out in
    let output_is : output ≡ first.is.output = cc in
    let in_same : Some input ≡ Some first.is.input = sym given ∙ ap (λ (xs : List (List ℕ)). slice_get xs lead.input) (inputs_at d lead.model first.is.m first.here) ∙ first.is.on.given in
    let input_is : input ≡ first.is.input = cc in
    record { o = lead.output; i = lead.input; is = first.is; told = cc }
