-- What drives a net stands where the net stands among the driven nets.
use Rattle.std.proofs.Common.{◌≡◌, ◌⊎◌, ℕ, List, [], ◌∷◌, map, Option, Some, option_map, slice_get, inl, inr, refl, sym, ◌∙◌, ap, subst}
use Rattle.std.specs.Option.{option_map_or}
use Rattle.std.proofs.lemmas.Option.{slice_get-map, same_Some}
use Rattle.lid_base.specs.Lists.{Among}
use Rattle.lid_base.proofs.Lists.{get_among, among_get}
use Rattle.lid_base.proofs.Options.{map_some}
use Rattle.lid_base.proofs.Places.{get_map}
use Rattle.lid_design.specs.declared.Design.{Design}
use Rattle.lid_design.specs.declared.Model.{Model}
use Rattle.lid_design.specs.Models.{nets, IsReached}
use Rattle.lid_design.specs.Elaboration.{model_nets}
use Rattle.lid_check_drivers.specs.Locals.{Local, NetLocal, locals, values_of, model_locals}
use Rattle.lid_check_drivers.specs.Judged.{IsJudged}
use Rattle.lid_check_drivers.proofs.Single.{exactly_one, of_net_among}
use Rattle.lid_check_drivers.proofs.Driven.{among_of_net}
use Rattle.lid_check_elab.specs.Templates.{shown_local, name_at, net_by_place}
use Rattle.lid_check_elab.specs.Parts.{driven_net, numbered_local, ShowsDrivers, IsPicked, ArePlaces}
use Rattle.lid_check_elab.specs.declared.driven.Driven.{Driven}
use Rattle.lid_check_elab.specs.declared.template.LocalDriver.{LocalDriver}

module _ (d : Design) (judged : IsJudged d) (k : ℕ) (reached : IsReached d k) (m : Model) (here : slice_get d.models k ≡ Some m) where
  same_locals : model_locals d k ≡ locals d m
  same_locals = ap (λ (o : Option Model). option_map_or (locals d) o []) here

  -- what stands where a net is driven drives the net
  picked_at : (driven : Driven) → ShowsDrivers d k (locals d m) driven → (net : List ℕ) → Among net (nets d m) → (place : ℕ) → slice_get (map driven_net (locals d m)) place ≡ Some (Some net) → IsPicked d k driven.locals.items place net
  picked_at driven shows net is place at = record {
    local = one.0;
    only = ap (values_of net) same_locals ∙ one.1;
    driver = found.0;
    here = found.1;
    shown = found.2 ∙ ap (net_by_place d k) alone;
  }
    where
      one : (l : Local (List ℕ)) × (values_of net (locals d m) ≡ l ∷ [])
      one = exactly_one d judged k reached m here net is

      pair : (p : NetLocal) × (slice_get (locals d m) place ≡ Some p) × (driven_net p ≡ Some net)
      pair = map_some driven_net (slice_get (locals d m) place) (Some net) (sym (slice_get-map driven_net (locals d m) place) ∙ at)

      same : pair.0.0 ≡ net
      same = same_Some pair.0.0 net pair.2

      alone : pair.0.1 ≡ one.0
      alone = by (subst (λ (ls : List (Local (List ℕ))). Among pair.0.1 ls) one.1 (among_of_net net (locals d m) pair.0 (get_among (locals d m) place pair.0 pair.1) same))
        where
          by : (pair.0.1 ≡ one.0) ⊎ ⊥ → pair.0.1 ≡ one.0
          by (inl same) = same
          by (inr none) = absurd none

      found : (x : LocalDriver) × (slice_get driven.locals.items place ≡ Some x) × (shown_local d x ≡ net_by_place d k pair.0.1)
      found = map_some (shown_local d) (slice_get driven.locals.items place) (net_by_place d k pair.0.1)
          (sym (slice_get-map (shown_local d) driven.locals.items place)
          ∙ ap (λ (ls : List (Local ℕ)). slice_get ls place) shows.locals
          ∙ slice_get-map (numbered_local d k) (locals d m) place
          ∙ ap (option_map (numbered_local d k)) pair.1)

  -- a net is driven somewhere
  driven_somewhere : (net : List ℕ) → Among net (nets d m) → (other : ℕ) × (slice_get (map driven_net (locals d m)) other ≡ Some (Some net))
  driven_somewhere net is = (place.0, get_map driven_net (locals d m) place.0 pair place.1)
    where
      one : (l : Local (List ℕ)) × (values_of net (locals d m) ≡ l ∷ [])
      one = exactly_one d judged k reached m here net is

      pair : NetLocal
      pair = (net, one.0)

      there : Among pair (locals d m)
      there = of_net_among net (locals d m) one.0 (subst (λ (ls : List (Local (List ℕ))). Among one.0 ls) (sym one.1) (inl refl))

      place : (i : ℕ) × (slice_get (locals d m) i ≡ Some pair)
      place = among_get (locals d m) pair there

  -- by the numbers of the driven nets
  pub picked_by : (driven : Driven) (picks : List ℕ) → ShowsDrivers d k (model_locals d k) driven → ArePlaces d k driven.nets.items picks → (j pick : ℕ) (net : List ℕ) → slice_get picks j ≡ Some pick → slice_get (model_nets d k) j ≡ Some net → IsPicked d k driven.locals.items pick net
  picked_by driven picks shows are j pick net at is =
      let own = subst (λ (ps : List NetLocal). ShowsDrivers d k ps driven) same_locals shows in
      let among : Among net (nets d m) = subst (Among net) (ap (λ (o : Option Model). option_map_or (nets d) o []) here) (get_among (model_nets d k) j net is) in
      let other = driven_somewhere net among in
      let to_own : (i : ℕ) → slice_get (map (name_at d k) driven.nets.items) i ≡ slice_get (map driven_net (locals d m)) i = λ i. ap (λ (os : List (Option (List ℕ))). slice_get os i) own.nets in
      picked_at driven own net among pick (sym (to_own pick) ∙ are.each j pick other.0 net at is (to_own other.0 ∙ other.1))
