-- A driven column has one driver, which its model tells.
use Rattle.std.proofs.Common.{◌≡◌, ℕ, List, [], ◌∷◌, Option, Some, None, option_and_then, option_map, slice_get, refl, ◌∙◌, ap}
use Rattle.std.specs.Option.{option_map_or}
use Rattle.lid_base.proofs.Lists.{then_some}
use Rattle.lid_design.specs.declared.Design.{Design}
use Rattle.lid_design.specs.declared.Model.{Model}
use Rattle.lid_design.specs.declared.Inst.{Inst}
use Rattle.lid_design.specs.Network.{Driver}
use Rattle.lid_design.specs.Columns.{Column, column, data_inputs, drivers}
use Rattle.lid_design.specs.Walks.{IsDriven}
use Rattle.lid_design.specs.Models.{insts_of, instance_number, number_named, number_from, data_inputs_of}
use Rattle.lid_check_drivers.specs.Judged.{IsJudged}
use Rattle.lid_check_drivers.specs.Locals.{Local, locals, values_of, driver_in, inst_at, driver_by_path, IsToldByModel}
use Rattle.lid_check_drivers.proofs.Clocking.{named_model}
use Rattle.lid_check_drivers.proofs.Wired.{Sub}
use Rattle.lid_check_drivers.proofs.Single.{exactly_one, root_driven, inst_driven}
use Rattle.lid_check_drivers.proofs.Driven.{NetAt, driven_at}

module _ (d : Design) (judged : IsJudged d) where
  -- the one driver of a column, by what drives its net
  record Told (path net : List ℕ) (k : ℕ) (l : Local (List ℕ)) : Type 0 where
    driver : Driver Column
    told : driver_by_path d k path l ≡ Some driver
    only : drivers d (column path net) ≡ driver ∷ []

  told_at : (c : Column) (at : NetAt d judged c) (path : List ℕ) → path ≡ c.path → (l : Local (List ℕ)) → values_of c.net (locals d at.model) ≡ l ∷ [] → Told path c.net at.number l
  unfolding number_from
  told_at c at [] same l one =
      let leads = ap (number_from d d.root) same ∙ at.leads in
      record { driver = _; told = refl; only = root_driven d judged at.number (c.path, at.leads) at.model at.here leads c.net at.net l one }
  told_at c at (i ∷ up) same l one = by (slice_get d.models around.0) refl inst.1
    where
      leads : number_from d d.root (i ∷ up) ≡ Some at.number
      leads = ap (number_from d d.root) same ∙ at.leads

      around : (k : ℕ) × (number_from d d.root up ≡ Some k) × (instance_number d i k ≡ Some at.number)
      around = then_some (number_from d d.root up) (instance_number d i) at.number leads

      inst : (x : Inst) × (slice_get (insts_of d around.0) i ≡ Some x) × (number_named d x.model ≡ Some at.number)
      inst = then_some (slice_get (insts_of d around.0) i) (λ inst. number_named d inst.model) at.number around.2

      sub : Sub d inst.0
      sub = record { number = at.number; names = inst.2; model = at.model; there = at.here; named = named_model d inst.0 at.number inst.2 ∙ at.here; reached = (c.path, at.leads) }

      inputs : data_inputs_of d at.number ≡ data_inputs d at.model
      inputs = ap (λ (o : Option Model). option_map_or (data_inputs d) o []) at.here

      seen : inst_at d i up ≡ Some inst.0
      seen = ap (option_and_then (λ k. slice_get (insts_of d k) i)) around.1 ∙ inst.1

      by : (o : Option Model) → slice_get d.models around.0 ≡ o → slice_get (option_map_or (λ m. m.insts) o []) i ≡ Some inst.0 → Told (i ∷ up) c.net at.number l
      by None e none = absurd (let f : None ≡ Some inst.0 = none in cc)
      by (Some body) e here = record {
        driver = driver_in up i inst.0 (data_inputs d at.model) l;
        told = ap (option_map (λ inst. driver_in up i inst (data_inputs_of d at.number) l)) seen ∙ ap (λ (ns : List (List ℕ)). Some (driver_in up i inst.0 ns l)) inputs;
        only = inst_driven d judged around.0 (up, around.1) body e i inst.0 here sub up around.1 leads c.net at.net l one;
      }

  pub told_by_model : (c : Column) → IsDriven (drivers d) c → IsToldByModel d c
  told_by_model c some =
      let at = driven_at d judged c some in
      let one = exactly_one d judged at.number (c.path, at.leads) at.model at.here c.net at.net in
      let told = told_at c at c.path refl one.0 one.1 in
      record {
        number = at.number;
        leads = at.leads;
        local = one.0;
        alone = ap (λ (o : Option Model). values_of c.net (option_map_or (locals d) o [])) at.here ∙ one.1;
        driver = told.driver;
        told = told.told;
        only = told.only;
      }
