-- Stations of a life that settle.
use Rattle.std.proofs.Common.{◌≡◌, ℕ, suc, ◌+◌, ◌<◌, ◌≤◌, ◌⊎◌, inl, inr, Bool, true, false, cond, List, get_or, refl, sym, ◌∙◌, ap, subst, arith}
use Rattle.std.specs.Prelude.{Some, slice_get}
use Rattle.std.proofs.lemmas.Bool.{cases_lt}
use Rattle.std.proofs.lemmas.Option.{slice_get-get_or, slice_get_within}
use Rattle.lid_base.proofs.Places.{item_at}
use Rattle.lid_stations.specs.Placements.{links_of}
use Rattle.lid_stations.specs.Stations.{filler, drainer}
use Rattle.lid_stations.specs.Laws.{StandsBetween}
use Rattle.lid_clock.specs.Lives.{Life, IsLife, fired_after}
use Rattle.lid_clock.specs.Rules.{RunsGoByRules}
use Rattle.lid_clock.specs.States.{token_of_life, put_after, taken_after, actors_of, stations_of}
use Rattle.lid_clock.proofs.Settled.{had_room, had_token}
use Rattle.lid_clock_flat.specs.declared.station.FlatStation.{FlatStation}
use Rattle.lid_clock_flat.specs.declared.stations.FlatStations.{FlatStations}
use Rattle.lid_clock_flat.specs.Rings.{around, token_on, RingsAreApart, StationSettles}
use Rattle.lid_clock_flat.specs.Reads.{CanSettle, Settles, AllSettle}
use Rattle.lid_clock_flat.specs.Flats.{IsFlatAt, AreFlat, Chose, HaveDecided}
use Rattle.lid_clock_flat.proofs.Writes.{next_place}

-- how often an actor has fired after the cycle
pub fired_then : (l : Life) (k v : ℕ) (w : Bool) → Chose l k v w → fired_after l (suc k) v ≡ fired_after l k v + cond w 1 0
fired_then l k v true chose = chose.goes refl
fired_then l k v false chose = let same : fired_after l (suc k) v ≡ fired_after l k v = chose.rests refl in omega arith

module _ (l : Life) (k s : ℕ) (places : List ℕ) (x y : FlatStation) (gains loses : Bool) (is : IsFlatAt l k s places x)
    (fills : fired_after l (suc k) (filler (links_of l.setup.system) l.setup.placement s) ≡ fired_after l k (filler (links_of l.setup.system) l.setup.placement s) + cond gains 1 0)
    (drains : fired_after l (suc k) (drainer (links_of l.setup.system) l.setup.placement s) ≡ fired_after l k (drainer (links_of l.setup.system) l.setup.placement s) + cond loses 1 0)
    (room : gains ≡ true → x.held < x.cap) (offered : gains ≡ true → token_on places x x.held ≡ token_of_life l s (put_after l k s)) (settled : StationSettles x gains loses y) where
  -- the tokens that it held, and the one that it gained
  token_there : (j : ℕ) → (j < x.held) ⊎ ((gains ≡ true) × (j ≡ x.held)) → token_on places x j ≡ token_of_life l s (taken_after l k s + j)
  token_there j (inl less) = is.tokens j less
  token_there j (inr last) =
      let number : put_after l k s ≡ taken_after l k s + j = is.holds ∙ ap (λ (n : ℕ). taken_after l k s + n) (sym last.1) in
      ap (token_on places x) last.1 ∙ offered last.0 ∙ ap (token_of_life l s) number

  -- which one a token is
  number_is : (j : ℕ) → j < x.held + cond gains 1 0 → (j < x.held) ⊎ ((gains ≡ true) × (j ≡ x.held))
  number_is j less = by gains refl less where
    by : (b : Bool) → gains ≡ b → j < x.held + cond b 1 0 → (j < x.held) ⊎ ((gains ≡ true) × (j ≡ x.held))
    by true e low = elim (cases_lt j x.held) [
      | inl before ↦ inl before
      | inr past ↦ inr (e, omega arith)
    ]
    by false e low = inl (omega arith)

  most_held : x.held + cond gains 1 0 ≤ x.cap
  most_held = by gains refl where
    within : x.held ≤ x.cap
    within = x.within

    by : (b : Bool) → gains ≡ b → x.held + cond b 1 0 ≤ x.cap
    by true e = let free = room e in omega arith
    by false e = let most : x.held ≤ x.cap = within in omega arith

  token_then : (i : ℕ) → i < y.held → token_on places y i ≡ token_of_life l s (taken_after l (suc k) s + i)
  token_then i less = by loses refl where
    by : (b : Bool) → loses ≡ b → token_on places y i ≡ token_of_life l s (taken_after l (suc k) s + i)
    by true e =
        let head : y.head ≡ around (x.head + 1) x.cap = settled.head ∙ ap (λ (b : Bool). cond b (around (x.head + 1) x.cap) x.head) e in
        let one : cond {A = ℕ} loses 1 0 ≡ 1 = ap (λ (b : Bool). cond {A = ℕ} b 1 0) e in
        let many : y.held + cond loses 1 0 ≡ x.held + cond gains 1 0 = settled.many in
        let low : i + 1 < x.held + cond gains 1 0 = omega arith in
        let number : taken_after l k s + (i + 1) ≡ taken_after l (suc k) s + i = omega (arith, drains) in
        ap (λ (n : ℕ). get_or places n 0) (next_place x y i settled.base settled.cap head (omega (arith, most_held)))
        ∙ token_there (i + 1) (number_is (i + 1) low)
        ∙ ap (token_of_life l s) number
    by false e =
        let head : y.head ≡ x.head = settled.head ∙ ap (λ (b : Bool). cond b (around (x.head + 1) x.cap) x.head) e in
        let none : cond {A = ℕ} loses 1 0 ≡ 0 = ap (λ (b : Bool). cond {A = ℕ} b 1 0) e in
        let many : y.held + cond loses 1 0 ≡ x.held + cond gains 1 0 = settled.many in
        let low : i < x.held + cond gains 1 0 = omega arith in
        let number : taken_after l k s + i ≡ taken_after l (suc k) s + i = omega (arith, drains) in
        ap (λ (n : ℕ). get_or places (n + around (y.head + i) y.cap) 0) settled.base
        ∙ ap (λ (n : ℕ). get_or places (x.base + around (n + i) y.cap) 0) head
        ∙ ap (λ (n : ℕ). get_or places (x.base + around (x.head + i) n) 0) settled.cap
        ∙ token_there i (number_is i low)
        ∙ ap (token_of_life l s) number

  -- it is the station of the next cycle
  pub settled_flat : IsFlatAt l (suc k) s places y
  settled_flat =
      let many : y.held + cond loses 1 0 ≡ x.held + cond gains 1 0 = settled.many in
      let held : put_after l k s ≡ taken_after l k s + x.held = is.holds in
      record {
        filled = settled.filler ∙ is.filled;
        drained = settled.drainer ∙ is.drained;
        size = settled.cap ∙ is.size;
        holds = omega (arith, fills, drains);
        tokens = token_then;
      }

-- stations that settle stay apart
pub apart_still : (old new : List FlatStation) (places : List ℕ) (went : List Bool) → AllSettle went old new → RingsAreApart old places → RingsAreApart new places
apart_still old new places went settles apart = record {
  there = λ s y at. let x = was s y at in let same = settles.each s x.0 y x.1 at in omega (arith, same.base, same.cap, apart.there s x.0 x.1);
  apart = λ s t y z at later less.
      let x = was s y at in
      let w = was t z later in
      let same = settles.each s x.0 y x.1 at in
      let also = settles.each t w.0 z w.1 later in
      omega (arith, same.base, same.cap, also.base, apart.apart s t x.0 w.0 x.1 w.1 less);
}
  where
    was : (s : ℕ) (y : FlatStation) → slice_get new s ≡ Some y → (x : FlatStation) × (slice_get old s ≡ Some x)
    was s y at = let within = slice_get_within new s y at in let many = settles.many in item_at old s (omega arith)

module _ (r : RunsGoByRules) (l : Life) (k : ℕ) (x : FlatStations) (went : List Bool) (life : IsLife l) (have : HaveDecided l k (actors_of l) x went) where
  -- an actor's flag tells whether it fired
  flag : (v : ℕ) → v < actors_of l → Chose l k v (get_or went v false)
  flag v there = have.chose v (get_or went v false) there (slice_get-get_or went v false (omega (arith, have.many)))

  module _ (s : ℕ) (y : FlatStation) (at : slice_get x.all.items s ≡ Some y) where
    here : s < stations_of l
    here = let within = slice_get_within x.all.items s y at in let many = have.flat.many in omega arith

    is : IsFlatAt l k s x.places.items y
    is = have.flat.each s y at

    between : StandsBetween l.setup.system l.setup.placement s
    between = r.between l.setup.system l.setup.placement s life.system life.fits here

    filler_there : y.filler < actors_of l
    filler_there = let low = between.filled in let same = is.filled in omega arith

    drainer_there : y.drainer < actors_of l
    drainer_there = let low = between.drained in let same = is.drained in omega arith

    filler_fired : fired_after l (suc k) (filler (links_of l.setup.system) l.setup.placement s) ≡ fired_after l k (filler (links_of l.setup.system) l.setup.placement s) + cond (get_or went y.filler false) 1 0
    filler_fired =
        subst (λ (v : ℕ). fired_after l (suc k) v ≡ fired_after l k v + cond (get_or went y.filler false) 1 0) is.filled
        (fired_then l k y.filler (get_or went y.filler false) (flag y.filler filler_there))

    drainer_fired : fired_after l (suc k) (drainer (links_of l.setup.system) l.setup.placement s) ≡ fired_after l k (drainer (links_of l.setup.system) l.setup.placement s) + cond (get_or went y.drainer false) 1 0
    drainer_fired =
        subst (λ (v : ℕ). fired_after l (suc k) v ≡ fired_after l k v + cond (get_or went y.drainer false) 1 0) is.drained
        (fired_then l k y.drainer (get_or went y.drainer false) (flag y.drainer drainer_there))

    -- a station can settle
    pub can_settle : CanSettle went y
    can_settle = record {
      filled = omega (arith, filler_there, have.many);
      drained = omega (arith, drainer_there, have.many);
      room = λ e.
          let one : cond {A = ℕ} (get_or went y.filler false) 1 0 ≡ 1 = ap (λ (b : Bool). cond {A = ℕ} b 1 0) e in
          let free = had_room r l k s life here (filler_fired ∙ ap (λ (n : ℕ). fired_after l k (filler (links_of l.setup.system) l.setup.placement s) + n) one) in
          omega (arith, free, is.holds, is.size);
      some = λ e.
          let one : cond {A = ℕ} (get_or went y.drainer false) 1 0 ≡ 1 = ap (λ (b : Bool). cond {A = ℕ} b 1 0) e in
          let some = had_token r l k s life here (drainer_fired ∙ ap (λ (n : ℕ). fired_after l k (drainer (links_of l.setup.system) l.setup.placement s) + n) one) in
          omega (arith, some, is.holds);
    }

    -- what its filler put stands in its free place
    offered : get_or went y.filler false ≡ true → token_on x.places.items y y.held ≡ token_of_life l s (put_after l k s)
    offered e =
        let fired : slice_get went y.filler ≡ Some true = slice_get-get_or went y.filler false (omega (arith, filler_there, have.many)) ∙ ap (λ (b : Bool). Some b) e in
        have.offers y.filler filler_there fired s y at refl

    pub settles_flat : (z : FlatStation) → Settles went y z → IsFlatAt l (suc k) s x.places.items z
    settles_flat z settles = settled_flat l k s x.places.items y z (get_or went y.filler false) (get_or went y.drainer false) is filler_fired drainer_fired can_settle.room offered settles

  -- all stations are those of the next cycle
  pub all_flat : (news : List FlatStation) → AllSettle went x.all.items news → AreFlat l (suc k) news x.places.items
  all_flat news settles = record {
    many = settles.many ∙ have.flat.many;
    apart = apart_still x.all.items news x.places.items went settles have.flat.apart;
    each = λ s z at.
        let within = slice_get_within news s z at in
        let many = settles.many in
        let y = item_at x.all.items s (omega arith) in
        settles_flat s y.0 y.1 z (settles.each s y.0 z y.1 at);
  }
