-- What is known of a design with its system and stations, once its fields are looked at.
use Rattle.std.proofs.Common.{◌≡◌, ℕ, ◌<◌, Bool, List, length, sym, subst}
use Rattle.std.specs.List.{AllByRecursion}
use Rattle.lid_design.specs.Columns.{root_inputs}
use Rattle.lid_stations.specs.Placements.{links_of}
use Rattle.lid_stations.specs.Stations.{actor_count}
use Rattle.lid_top_script.specs.Wrapped.{Wrapping}

module _ {inside w : Wrapping} (same : inside ≡ w) where
  pub wide_inside : (rows : List (List Bool)) → AllByRecursion (λ row. length row ≡ length (root_inputs w.design)) rows → AllByRecursion (λ row. length row ≡ length (root_inputs inside.design)) rows
  wide_inside rows wide = subst (λ (v : Wrapping). AllByRecursion (λ row. length row ≡ length (root_inputs v.design)) rows) (sym same) wide

  pub below_inside : (schedule : List ℕ) → AllByRecursion (λ v. v < actor_count (links_of w.system) w.placement) schedule → AllByRecursion (λ v. v < actor_count (links_of inside.system) inside.placement) schedule
  below_inside schedule below = subst (λ (u : Wrapping). AllByRecursion (λ v. v < actor_count (links_of u.system) u.placement) schedule) (sym same) below
