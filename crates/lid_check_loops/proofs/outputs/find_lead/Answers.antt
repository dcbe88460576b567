use Rattle.std.proofs.Common.{◌≡◌, ◌<◌, ℕ, List, true, length, Some, slice_get, refl, sym, ◌∙◌, ap, subst}
use Rattle.std.proofs.lemmas.Option.{slice_get_read, slice_get_within}
use Rattle.lid_design.specs.declared.Design.{Design}
use Rattle.lid_design.specs.declared.Model.{Model}
use Rattle.lid_check_loops.specs.Pearls.{is_marked, IsFittingPearl, AreUnmarked, IsFirstMarked}
use Rattle.lid_check_loops.proofs.Leads.{model_read, unmarked_none, unmarked_before}
use Rattle.lid_check_loops.proofs.outputs.find_lead.Goals as goal
use Rattle.lid_check_hierarchy.proofs.Walks.{reached_below}

pub first_marked-requires-clause-fits : goal.first_marked-requires-clause-fits
first_marked-requires-clause-fits c = subst (λ (n : ℕ). IsFittingPearl c.args.survey.now n c.args.pearl) (sym c.requires.sizes.all_reached) c.requires.fits

pub bounds-as_slice-pearl : goal.bounds-as_slice-pearl
bounds-as_slice-pearl c =
    let models : c.as_slice.result.now ≡ c.args.survey.now.models = c.as_slice.ensures ∙ ap (λ (d : Design). d.models) c.design.ensures.same in
    subst (λ (ms : List Model). c.args.pearl.model < length ms) (sym models) (reached_below c.args.survey.now c.design.ensures.formed c.args.pearl.model c.requires.fits.reached)

pub bounds-outputs-output : goal.bounds-outputs-output
bounds-outputs-output c = slice_get_within c.as_slice-outputs.result.now c.in-Some.output c.in-Some.ensures.name c.in-Some.ensures.here

pub find_input-requires-clause-some : goal.find_input-requires-clause-some
find_input-requires-clause-some c =
    let d = c.args.survey.now in
    let pearl = c.args.pearl in
    let o = c.in-Some.output in
    let outs = c.as_slice-outputs.result.now in
    let first = c.in-Some.ensures in
    let within : o < length outs = slice_get_within outs o first.name first.here in
    let name = c.index-outputs-output.result in
    let read : slice_get outs o ≡ Some name = slice_get_read outs (length outs) o name refl within c.index-outputs-output.is in
    let same : Some first.name ≡ Some name = sym first.here ∙ read in
    let is : first.name ≡ c.as_slice-name.result.now = (let e : first.name ≡ name = cc in e ∙ sym c.as_slice-name.ensures) in
    (c.requires.marks c.as_slice-name.result.now).0 (subst (λ (n : List ℕ). is_marked d pearl c.args.reached.now n ≡ true) is first.on)

pub returns-in-None : goal.returns-in-None
returns-in-None c =
    let d = c.args.survey.now in
    let body = c.index-as_slice-pearl.result in
    let here = model_read d c.as_slice.result.now c.args.pearl.model body c.design.result.now c.design.ensures.same c.as_slice.ensures c.index-as_slice-pearl.is (reached_below d c.design.ensures.formed c.args.pearl.model c.requires.fits.reached) in
    unmarked_none d c.args.graph.now.reads.now c.args.cut.now c.args.pearl c.args.reached.now c.requires.marks body here (subst (λ (xs : List (List ℕ)). AreUnmarked d c.args.pearl c.args.reached.now xs) c.as_slice-outputs.ensures c.in-None.ensures)

pub returns-in_ok-input-in-Some : goal.returns-in_ok-input-in-Some
returns-in_ok-input-in-Some c =
    let d = c.args.survey.now in
    let pearl = c.args.pearl in
    let m = c.index-as_slice-pearl.result in
    let o = c.in-Some.output in
    let outs = c.as_slice-outputs.result.now in
    let here = model_read d c.as_slice.result.now pearl.model m c.design.result.now c.design.ensures.same c.as_slice.ensures c.index-as_slice-pearl.is (reached_below d c.design.ensures.formed pearl.model c.requires.fits.reached) in
    let first : IsFirstMarked d pearl c.args.reached.now m.outputs o = subst (λ (xs : List (List ℕ)). IsFirstMarked d pearl c.args.reached.now xs o) c.as_slice-outputs.ensures c.in-Some.ensures in
    let within : o < length outs = slice_get_within outs o c.in-Some.ensures.name c.in-Some.ensures.here in
    let name = c.index-outputs-output.result in
    let out : slice_get m.outputs o ≡ Some name = subst (λ (ys : List (List ℕ)). slice_get ys o ≡ Some name) c.as_slice-outputs.ensures (slice_get_read outs (length outs) o name refl within c.index-outputs-output.is) in
    record {
      same = refl;
      m = m;
      output = c.as_slice-name.result.now;
      here = here;
      out = out ∙ ap Some (sym c.as_slice-name.ensures);
      first = unmarked_before d c.args.graph.now.reads.now c.args.cut.now pearl c.args.reached.now c.requires.marks m o first;
      leads = c.in_ok-input-in-Some.ensures;
    }
