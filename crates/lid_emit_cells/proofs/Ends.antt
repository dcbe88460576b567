-- The links of actors, by what an actor has.
use Rattle.std.proofs.Common.{◌≡◌, ℕ, suc, ◌+◌, ◌==◌, Bool, true, false, cond, List, [], ◌∷◌, length, map, flat_map, Some, slice_get, sym, ◌∙◌, ap, arith, add-one, length-append}
use Rattle.std.specs.Prelude.{Option, option_map}
use Rattle.std.specs.Option.{option_map_or}
use Rattle.std.proofs.lemmas.Bool.{lt-ltb}
use Rattle.std.proofs.lemmas.List.{length-map}
use Rattle.std.proofs.lemmas.Option.{slice_get-map}
use Rattle.lid_design.specs.declared.Cell.{Cell}
use Rattle.lid_design.specs.declared.Cell.TheVariants.{Names}
use Rattle.lid_emit_circuit.specs.Wires.{Wire, offer, block, may, fire, level, ActorEnd, drains, fills}
use Rattle.lid_emit_circuit.specs.Gates.{constant, buffer, both, without}
use Rattle.lid_emit_circuit.specs.Plans.{CircuitPlan, ends}
use Rattle.lid_emit_circuit.specs.Network.{sink, gate, link, emitted}
use Rattle.lid_emit_names.specs.Named.{cell_of, cells_driving}
use Rattle.lid_emit_names.proofs.Tables.{get_right}
use Rattle.lid_emit_cells.specs.declared.actor.Fill.{Fill}
use Rattle.lid_emit_cells.specs.declared.actor.ActorStations.{ActorStations}
use Rattle.lid_emit_cells.specs.Matches.{station_of, IsActorOf}
use Rattle.lid_base.proofs.Places.{get_left}

module _ (q : CircuitPlan) (name : Wire → List ℕ) (v : ℕ) (actor : ActorStations) (is : IsActorOf q v actor) where
  abbrev link_by : ℕ → Bool → Option ActorEnd → List Cell
  link_by i there o = flat_map (cell_of name (may v (suc i))) (cond there (option_map_or (link q v i) o []) [])

  link_is : (i : ℕ) (e : ActorEnd) → slice_get (ends q v) i ≡ Some e → cells_driving q name (may v (suc i)) ≡ flat_map (cell_of name (may v (suc i))) (link q v i e)
  unfolding emitted
  link_is i e here = ap (λ (b : Bool). link_by i b (slice_get (ends q v) i)) (lt-ltb v q.actors is.there) ∙ ap (link_by i true) here

  drain_at : (i s : ℕ) → slice_get actor.ins i ≡ Some s → slice_get (ends q v) i ≡ Some (drains s)
  drain_at i s here = get_left (map drains (q.ins v)) (map fills (q.outs v)) i (drains s) (slice_get-map drains (q.ins v) i ∙ ap (λ (xs : List ℕ). option_map drains (slice_get xs i)) is.ins ∙ ap (option_map drains) here)

  fill_at : (i : ℕ) (fill : Fill) → slice_get actor.outs i ≡ Some fill → slice_get (ends q v) (length actor.ins + i) ≡ Some (fills fill.station)
  fill_at i fill here =
      get_right (map drains (q.ins v)) (map fills (q.outs v)) i (fills fill.station)
      (slice_get-map fills (q.outs v) i ∙ ap (λ (xs : List ℕ). option_map fills (slice_get xs i)) is.outs ∙ ap (option_map fills) (slice_get-map station_of actor.outs i ∙ ap (option_map station_of) here))
      (length actor.ins + i)
      (let long : length (map drains (q.ins v)) ≡ length actor.ins = length-map (q.ins v) drains ∙ ap length is.ins in omega arith)

  pub drains_on : (i s : ℕ) → slice_get actor.ins i ≡ Some s → Names (name (may v i) ∷ name (level s 1) ∷ []) (name (may v (i + 1))) both ∷ [] ≡ cells_driving q name (may v (i + 1))
  drains_on i s here =
      ap (λ (n : ℕ). Names (name (may v i) ∷ name (level s 1) ∷ []) (name (may v n)) both ∷ []) (add-one i)
      ∙ sym (link_is i (drains s) (drain_at i s here))
      ∙ ap (λ (n : ℕ). cells_driving q name (may v n)) (sym (add-one i))

  pub fills_on : (many i : ℕ) (fill : Fill) → many ≡ length actor.ins → slice_get actor.outs i ≡ Some fill
      → Names (name (may v (many + i)) ∷ name (level fill.station fill.capacity) ∷ []) (name (may v (many + i + 1))) without ∷ [] ≡ cells_driving q name (may v (length actor.ins + i + 1))
  fills_on many i fill long here =
      let at : ℕ = length actor.ins + i in
      ap (λ (n : ℕ). Names (name (may v (n + i)) ∷ name (level fill.station fill.capacity) ∷ []) (name (may v (n + i + 1))) without ∷ []) long
      ∙ ap (λ (n : ℕ). Names (name (may v at) ∷ name (level fill.station n) ∷ []) (name (may v (at + 1))) without ∷ []) (sym (is.capacities i fill here))
      ∙ ap (λ (n : ℕ). Names (name (may v at) ∷ name (level fill.station (q.capacity fill.station)) ∷ []) (name (may v n)) without ∷ []) (add-one at)
      ∙ sym (link_is at (fills fill.station) (fill_at i fill here))
      ∙ ap (λ (n : ℕ). cells_driving q name (may v n)) (sym (add-one at))

  pub begins_on : Names [] (name (may v 0)) (constant true) ∷ [] ≡ cells_driving q name (may v 0)
  unfolding emitted
  begins_on = sym (ap (λ (b : Bool). flat_map (cell_of name (may v 0)) (cond b (gate (constant true) []) [])) (lt-ltb v q.actors is.there))

  pub ends_long : length (ends q v) ≡ length actor.ins + length actor.outs
  ends_long =
      let left : length (map drains (q.ins v)) ≡ length actor.ins = length-map (q.ins v) drains ∙ ap length is.ins in
      let right : length (map fills (q.outs v)) ≡ length actor.outs = length-map (q.outs v) fills ∙ ap length is.outs ∙ length-map actor.outs station_of in
      omega (arith, length-append (map drains (q.ins v)) (map fills (q.outs v)))

  abbrev fire_by : ℕ → Bool → Bool → Bool → List Cell
  fire_by end there first last = flat_map (cell_of name (fire v)) (cond there (cond first (gate both (may v end ∷ offer ∷ [])) (cond last (gate without (may v end ∷ block ∷ [])) (gate buffer (may v end ∷ [])))) [])

  fire_is : (end : ℕ) (first last : Bool) → end ≡ length actor.ins + length actor.outs → (v == 0) ≡ first → (v == sink q) ≡ last → fire_by end true first last ≡ cells_driving q name (fire v)
  unfolding emitted
  fire_is end first last long is_first is_last =
      sym (ap (λ (b : Bool). fire_by (length (ends q v)) b (v == 0) (v == sink q)) (lt-ltb v q.actors is.there)
      ∙ ap (λ (n : ℕ). fire_by n true (v == 0) (v == sink q)) (ends_long ∙ sym long)
      ∙ ap (λ (b : Bool). fire_by end true b (v == sink q)) is_first
      ∙ ap (fire_by end true first) is_last)

  pub source_fires : (end : ℕ) (last : Bool) → end ≡ length actor.ins + length actor.outs → (v == 0) ≡ true → (v == sink q) ≡ last → Names (name (may v end) ∷ name offer ∷ []) (name (fire v)) both ∷ [] ≡ cells_driving q name (fire v)
  source_fires end last long is_first is_last = fire_is end true last long is_first is_last

  pub sink_fires : (end : ℕ) → end ≡ length actor.ins + length actor.outs → (v == 0) ≡ false → (v == sink q) ≡ true → Names (name (may v end) ∷ name block ∷ []) (name (fire v)) without ∷ [] ≡ cells_driving q name (fire v)
  sink_fires end long is_first is_last = fire_is end false true long is_first is_last

  pub inner_fires : (end : ℕ) → end ≡ length actor.ins + length actor.outs → (v == 0) ≡ false → (v == sink q) ≡ false → Names (name (may v end) ∷ []) (name (fire v)) buffer ∷ [] ≡ cells_driving q name (fire v)
  inner_fires end long is_first is_last = fire_is end false false long is_first is_last
