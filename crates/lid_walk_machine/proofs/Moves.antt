-- What one step does to the counts at all stations: nothing, one token taken, or one token put.
use Rattle.std.proofs.Common.{◌≡◌, ◌≢◌, ℕ, ◌+◌, ◌<◌, ◌==◌, if◌then◌else◌, length, refl, sym, ◌∙◌, ap, subst, arith, eq-eqb, ne_eqb, Bool}
use mathlib.Core.Logic.{dite}
use native.Mathlib.Decide.{ℕ_discrete}
use Rattle.lid_shell_laws.specs.Runs.{place_in}
use Rattle.lid_walk_machine.specs.Plans.{Plan, stations_of, ins_of, outs_of, drainer_of, filler_of, start_of}
use Rattle.lid_walk_machine.specs.Machine.{Progress, State, after_as, taken_by, put_by, in_at, out_at, in_count, out_count, finds, next}
use Rattle.lid_walk_machine.proofs.Places.{DrainsAt, FillsAt, drains_at, fills_at, drained_at, filled_at}

-- as many more at each place: none, or one at one of them
abbrev pub none : ℕ → ℕ
none i = 0

abbrev pub one_at : ℕ → ℕ → ℕ
one_at place i = if i == place then 1 else 0

module _ (m : Plan) (st : State) (v : ℕ) where
  abbrev pub then_ : State
  then_ = next m st v

  abbrev pub q : Progress
  q = st v

  -- the step of actor v changes how far that is, and no other
  pub here : then_ v ≡ after_as m v q (finds m st v)
  here = rw (eq-eqb v v refl) refl

  pub elsewhere : (w : ℕ) → w ≢ v → then_ w ≡ st w
  elsewhere w other = rw (ne_eqb w v other) refl

  module _ (s : State) where
    -- the counts at a station that an actor drains or fills are its own
    pub out_here : (u i station : ℕ) → DrainsAt m u i station → out_count m s station ≡ taken_by m u (s u) i
    out_here u i station d = ap (λ (w : ℕ). taken_by m w (s w) (place_in (ins_of m w) station)) d.drainer ∙ ap (taken_by m u (s u)) d.place

    pub in_here : (u j station : ℕ) → FillsAt m u j station → in_count m s station ≡ start_of m station + put_by m u (s u) j
    in_here u j station f = ap (λ (n : ℕ). start_of m station + n) (ap (λ (w : ℕ). put_by m w (s w) (place_in (outs_of m w) station)) f.filler ∙ ap (put_by m u (s u)) f.place)

  -- stations of other actors are left as they are
  pub out_else : (station : ℕ) → drainer_of m station ≢ v → out_count m then_ station ≡ out_count m st station
  out_else station other = ap (λ (x : Progress). taken_by m (drainer_of m station) x (place_in (ins_of m (drainer_of m station)) station)) (elsewhere (drainer_of m station) other)

  pub in_else : (station : ℕ) → filler_of m station ≢ v → in_count m then_ station ≡ in_count m st station
  in_else station other = ap (λ (x : Progress). start_of m station + put_by m (filler_of m station) x (place_in (outs_of m (filler_of m station)) station)) (elsewhere (filler_of m station) other)

  -- how many tokens v has taken and put at each of its places, and how many then
  abbrev pub Taken : (ℕ → ℕ) → Type 0
  Taken more = (i : ℕ) → i < length (ins_of m v) → taken_by m v (then_ v) i ≡ taken_by m v q i + more i

  abbrev pub Put : (ℕ → ℕ) → Type 0
  Put more = (j : ℕ) → j < length (outs_of m v) → put_by m v (then_ v) j ≡ put_by m v q j + more j

  abbrev pub OutMore : (ℕ → ℕ) → Type 0
  OutMore more = (station : ℕ) → station < stations_of m → out_count m then_ station ≡ out_count m st station + more station

  abbrev pub InMore : (ℕ → ℕ) → Type 0
  InMore more = (station : ℕ) → station < stations_of m → in_count m then_ station ≡ in_count m st station + more station

  outs_as : (more : ℕ → ℕ) (at_station : ℕ → ℕ) → Taken more
      → ((i station : ℕ) → DrainsAt m v i station → more i ≡ at_station station)
      → ((station : ℕ) → drainer_of m station ≢ v → at_station station ≡ 0)
      → OutMore at_station
  outs_as more at_station taken same beside station h =
      dite (ℕ_discrete (drainer_of m station) v)
      (λ mine. let d = subst (λ (w : ℕ). (i : ℕ) × DrainsAt m w i station) mine (drained_at m station h) in
      let before = out_here st v d.0 station d.1 in
      let after = out_here then_ v d.0 station d.1 in
      omega (arith, before, after, taken d.0 d.1.within, same d.0 station d.1))
      (λ other. omega (arith, out_else station other, beside station other))

  ins_as : (more : ℕ → ℕ) (at_station : ℕ → ℕ) → Put more
      → ((j station : ℕ) → FillsAt m v j station → more j ≡ at_station station)
      → ((station : ℕ) → filler_of m station ≢ v → at_station station ≡ 0)
      → InMore at_station
  ins_as more at_station put same beside station h =
      dite (ℕ_discrete (filler_of m station) v)
      (λ mine. let f = subst (λ (w : ℕ). (j : ℕ) × FillsAt m w j station) mine (filled_at m station h) in
      let before = in_here st v f.0 station f.1 in
      let after = in_here then_ v f.0 station f.1 in
      omega (arith, before, after, put f.0 f.1.within, same f.0 station f.1))
      (λ other. omega (arith, in_else station other, beside station other))

  -- nothing was taken, or nothing put
  pub out_same : Taken none → OutMore none
  out_same taken = outs_as none none taken (λ i station d. refl) (λ station other. refl)

  pub in_same : Put none → InMore none
  in_same put = ins_as none none put (λ j station f. refl) (λ station other. refl)

  test_same : (a b x y : ℕ) → (a ≡ b → x ≡ y) → (x ≡ y → a ≡ b) → (a == b) ≡ (x == y)
  test_same a b x y to from =
      dite (ℕ_discrete a b)
      (λ same. eq-eqb a b same ∙ sym (eq-eqb x y (to same)))
      (λ other. ne_eqb a b other ∙ sym (ne_eqb x y (λ is. other (from is))))

  -- a token was taken from the station at a place
  pub out_one : (place : ℕ) → place < length (ins_of m v) → Taken (one_at place) → OutMore (one_at (in_at m v place))
  out_one place h taken =
      outs_as (one_at place) (one_at (in_at m v place)) taken
      (λ i station d. ap (λ (b : Bool). if b then 1 else 0) (test_same i place station (in_at m v place)
      (λ is. sym d.at ∙ ap (in_at m v) is)
      (λ is. sym d.place ∙ ap (place_in (ins_of m v)) is ∙ (drains_at m v place h).place)))
      (λ station other. ap (λ (b : Bool). if b then 1 else 0) (ne_eqb station (in_at m v place) (λ is. other (ap (drainer_of m) is ∙ (drains_at m v place h).drainer))))

  -- a token was put in the station at a place
  pub in_one : (place : ℕ) → place < length (outs_of m v) → Put (one_at place) → InMore (one_at (out_at m v place))
  in_one place h put =
      ins_as (one_at place) (one_at (out_at m v place)) put
      (λ j station f. ap (λ (b : Bool). if b then 1 else 0) (test_same j place station (out_at m v place)
      (λ is. sym f.at ∙ ap (out_at m v) is)
      (λ is. sym f.place ∙ ap (place_in (outs_of m v)) is ∙ (fills_at m v place h).place)))
      (λ station other. ap (λ (b : Bool). if b then 1 else 0) (ne_eqb station (out_at m v place) (λ is. other (ap (filler_of m) is ∙ (fills_at m v place h).filler))))
