-- Steps at places whose test passed may be run in place of all.
use Rattle.std.proofs.Common.{◌≡◌, ◌⊎◌, ℕ, zero, suc, ◌+◌, ◌-◌, ◌<◌, ◌≤◌, Bool, List, [], ◌∷◌, length, map, take, drop, get_or, Some, None, slice_get, option_map, inl, inr, refl, sym, ◌∙◌, ap, subst, arith}
use Rattle.std.specs.List.{AllByRecursion}
use Rattle.std.proofs.lemmas.List.{get_or-map, length-map}
use Rattle.std.proofs.lemmas.Option.{slice_get-map, get_or_from_slice_get}
use Rattle.lid_base.specs.Each.{from_each}
use Rattle.lid_base.proofs.Alls.{all_from_among, all_weaker}
use Rattle.lid_base.proofs.Each.{each_map, all_each_below}
use Rattle.lid_base.specs.Lists.{Among}
use Rattle.std.proofs.lemmas.Bool.{cases_lt}
use Rattle.lid_base.proofs.Lists.{all_among, among_at, among_map, map_among, get_among, among_get, among_take}
use Rattle.lid_cover.specs.Cover.{cover_value, IsCover}
use Rattle.lid_design.specs.declared.FlatCover.{FlatCover}
use Rattle.lid_design.specs.Flat.{IsRow, ReadEarlier}
use Rattle.lid_strict_engine.specs.declared.program.Program.{Program}
use Rattle.lid_strict_engine.specs.declared.program.ProgramStep.{ProgramStep}
use Rattle.lid_strict_engine.specs.Programs.{step_cover, shown_step, program_covers, IsSpan, IsStep, IsProgram}
use Rattle.lid_strict_engine.specs.Rows.{known_after}
use Rattle.lid_strict_engine.proofs.Settling.{after_keeps, after_has, earlier_at}
use Rattle.lid_strict_widths.specs.Steps.{no_step, steps_at, own_reads}
use Rattle.lid_strict_widths.specs.Orders.{ServeFor, no_flat_cover, covers_at, IsRunOrder, AreLastWrites, ReadsPast, WritesAll}

-- what is known was known, or a cover gives it
after_split : (known : List ℕ) (cs : List FlatCover) (k : ℕ) → Among k (known_after known cs) → Among k known ⊎ ((c : FlatCover) × Among c cs × (c.out ≡ k))
after_split known [] k among = inl among
after_split known (c ∷ cs) k among = by (after_split (c.out ∷ known) cs k among)
  where
    by : Among k (c.out ∷ known) ⊎ ((d : FlatCover) × Among d cs × (d.out ≡ k)) → Among k known ⊎ ((d : FlatCover) × Among d (c ∷ cs) × (d.out ≡ k))
    by (inl (inl here)) = inr (c, inl refl, sym here)
    by (inl (inr there)) = inl there
    by (inr found) = inr (found.0, inr found.1, found.2)

earlier_from : (known : List ℕ) (covers : List FlatCover) → ((j : ℕ) (c : FlatCover) → slice_get covers j ≡ Some c → AllByRecursion (λ k. Among k (known_after known (take j covers))) c.ins) → ReadEarlier known covers
earlier_from known [] all = tt
earlier_from known (c ∷ cs) all = (all zero c refl, earlier_from (c.out ∷ known) cs (λ j d here. all (suc j) d here))

-- those before a place
among_before : {A : Type 0} (xs : List A) (i j : ℕ) (x : A) → slice_get xs i ≡ Some x → i < j → Among x (take j xs)
among_before [] i j x here less = absurd (let e : None ≡ Some x = here in cc)
among_before (y ∷ xs) i zero x here less = absurd (omega arith)
among_before (y ∷ xs) zero (suc j) x here less = inl (let e : Some y ≡ Some x = here in let e' : y ≡ x = cc in sym e')
among_before (y ∷ xs) (suc i) (suc j) x here less = inr (among_before xs i j x here (omega arith))

pub own_exact : (P : ℕ → Type 0) (reads : List ℕ) (steps : List ProgramStep) (j : ℕ) (s : ProgramStep) → slice_get steps j ≡ Some s
    → AllByRecursion P (take ((get_or steps j no_step).first + (get_or steps j no_step).width - (get_or steps j no_step).first) (drop (get_or steps j no_step).first reads)) → AllByRecursion P (own_reads reads s)
own_exact P reads steps j s here all =
    let same : get_or steps j no_step ≡ s = get_or_from_slice_get steps j s no_step here in
    let exact : (get_or steps j no_step).first + (get_or steps j no_step).width - (get_or steps j no_step).first ≡ (get_or steps j no_step).width = omega arith in
    subst (λ (t : ProgramStep). AllByRecursion P (own_reads reads t)) same
    (subst (λ (n : ℕ). AllByRecursion P (take n (drop (get_or steps j no_step).first reads))) exact all)

-- one more step reads past what is written
pub reads_more : (reads : List ℕ) (steps : List ProgramStep) (last : List ℕ) (j : ℕ) → j < length steps
    → ((i : ℕ) (s : ProgramStep) → i < j → slice_get steps i ≡ Some s → AllByRecursion (λ k. get_or last k 0 ≤ i) (own_reads reads s))
    → ((s : ProgramStep) → slice_get steps j ≡ Some s → AllByRecursion (λ k. get_or last k 0 ≤ j) (own_reads reads s))
    → (i : ℕ) (s : ProgramStep) → i < j + 1 → slice_get steps i ≡ Some s → AllByRecursion (λ k. get_or last k 0 ≤ i) (own_reads reads s)
reads_more reads steps last j within before now i s less here = by (cases_lt i j)
  where
    by : (i < j) ⊎ (j ≤ i) → AllByRecursion (λ k. get_or last k 0 ≤ i) (own_reads reads s)
    by (inl earlier) = before i s earlier here
    by (inr from) =
        let same : j ≡ i = omega arith in
        subst (λ (n : ℕ). AllByRecursion (λ k. get_or last k 0 ≤ n) (own_reads reads s)) same (now s (subst (λ (n : ℕ). slice_get steps n ≡ Some s) (sym same) here))

-- what is picked of steps that stand, stands
pub picked_all : (P : ProgramStep → Type 0) (steps picked : List ProgramStep) → AllByRecursion P steps → AllByRecursion (λ s. Among s steps) picked → AllByRecursion P picked
picked_all P steps [] all of = tt
picked_all P steps (s ∷ picked) all of = (all_among P steps s all of.0, picked_all P steps picked all of.1)

pub picked_room : (p : Program) (picked : List ProgramStep) → IsProgram p → AllByRecursion (λ s. Among s p.steps.items) picked → AllByRecursion (λ s. s.first + s.width ≤ length p.reads.items) picked
picked_room p picked ready of = rooms picked (picked_all (IsStep p.nets p.reads.items p.cubes.items) p.steps.items picked ready.steps of)
  where
    rooms : (steps : List ProgramStep) → AllByRecursion (IsStep p.nets p.reads.items p.cubes.items) steps → AllByRecursion (λ s. s.first + s.width ≤ length p.reads.items) steps
    rooms [] all = tt
    rooms (s ∷ steps) all = ((let read = all.0.read in omega arith), rooms steps all.1)

pub picked_rows : (p : Program) (picked : List ProgramStep) → IsProgram p → AllByRecursion (λ s. Among s p.steps.items) picked → AllByRecursion (λ s. IsSpan p.cubes.items s.cubes) picked
picked_rows p picked ready of =
    all_weaker (IsStep p.nets p.reads.items p.cubes.items) (λ s. IsSpan p.cubes.items s.cubes) picked (λ s is. is.rows)
    (picked_all (IsStep p.nets p.reads.items p.cubes.items) p.steps.items picked ready.steps of)

pub picked_covers : (p : Program) (picked : List ProgramStep) → IsProgram p → AllByRecursion (λ s. Among s p.steps.items) picked → AllByRecursion (λ s. IsCover (step_cover p.cubes.items s)) picked
picked_covers p picked ready of =
    all_weaker (IsStep p.nets p.reads.items p.cubes.items) (λ s. IsCover (step_cover p.cubes.items s)) picked (λ s is. is.cover)
    (picked_all (IsStep p.nets p.reads.items p.cubes.items) p.steps.items picked ready.steps of)

pub picked_outs : (p : Program) (picked : List ProgramStep) → IsProgram p → AllByRecursion (λ s. Among s p.steps.items) picked → AllByRecursion (λ s. s.out < p.nets) picked
picked_outs p picked ready of = outs picked (picked_all (IsStep p.nets p.reads.items p.cubes.items) p.steps.items picked ready.steps of)
  where
    outs : (steps : List ProgramStep) → AllByRecursion (IsStep p.nets p.reads.items p.cubes.items) steps → AllByRecursion (λ s. s.out < p.nets) steps
    outs [] all = tt
    outs (s ∷ steps) all = ((let out = all.0.out in omega arith), outs steps all.1)

module _ (p : Program) (picked : List ProgramStep) (last : List ℕ)
    (of : AllByRecursion (λ s. Among s p.steps.items) picked)
    (are : AreLastWrites picked last)
    (past : ReadsPast p.reads.items picked last)
    (all : WritesAll p.steps.items last) where
  abbrev show : ProgramStep → FlatCover
  show = shown_step p.reads.items p.cubes.items

  -- a net that a step of the first writes is written by one of the second
  written : (k : ℕ) (s : ProgramStep) → Among s p.steps.items → s.out ≡ k → (j : ℕ) × (t : ProgramStep) × (slice_get picked j ≡ Some t) × (t.out ≡ k)
  written k s among is = are.some k (subst (λ (n : ℕ). 0 < get_or last n 0) is (all_among (λ (t : ProgramStep). 0 < get_or last t.out 0) p.steps.items s all among))

  stands_in : (f : ℕ → Bool) (known : List ℕ) → IsRow (map show p.steps.items) f → ReadEarlier known (map show p.steps.items)
      → IsRow (map show picked) f × ReadEarlier known (map show picked) × ((k : ℕ) → Among k (known_after known (map show p.steps.items)) → Among k (known_after known (map show picked)))
  stands_in f known row earlier = (all_from_among (λ c. f c.out ≡ cover_value c.cover (map f c.ins)) (map show picked) right, earlier_from known (map show picked) read, told)
    where
      shown : (c : FlatCover) → Among c (map show picked) → Among c (map show p.steps.items)
      shown c among =
          let found = map_among show c picked among in
          subst (λ (d : FlatCover). Among d (map show p.steps.items)) (sym found.2) (among_map show found.0 p.steps.items (all_among (λ (s : ProgramStep). Among s p.steps.items) picked found.0 of found.1))

      right : (c : FlatCover) → Among c (map show picked) → f c.out ≡ cover_value c.cover (map f c.ins)
      right c among = all_among (λ (c : FlatCover). f c.out ≡ cover_value c.cover (map f c.ins)) (map show p.steps.items) c row (shown c among)

      given : (k : ℕ) (c : FlatCover) → Among c (map show p.steps.items) → c.out ≡ k → (j : ℕ) × (t : ProgramStep) × (slice_get picked j ≡ Some t) × (t.out ≡ k)
      given k c among is =
          let found = map_among show c p.steps.items among in
          written k found.0 found.1 (ap (λ (d : FlatCover). d.out) (sym found.2) ∙ is)

      told : (k : ℕ) → Among k (known_after known (map show p.steps.items)) → Among k (known_after known (map show picked))
      told k among = by (after_split known (map show p.steps.items) k among)
        where
          by : Among k known ⊎ ((c : FlatCover) × Among c (map show p.steps.items) × (c.out ≡ k)) → Among k (known_after known (map show picked))
          by (inl there) = after_keeps known (map show picked) k there
          by (inr found) =
              let t = given k found.0 found.1 found.2 in
              subst (λ (n : ℕ). Among n (known_after known (map show picked))) t.3 (after_has known (map show picked) (show t.1) (among_map show t.1 picked (get_among picked t.0 t.1 t.2)))

      read : (j : ℕ) (c : FlatCover) → slice_get (map show picked) j ≡ Some c → AllByRecursion (λ k. Among k (known_after known (take j (map show picked)))) c.ins
      read j c here = all_from_among (λ k. Among k (known_after known (take j (map show picked)))) c.ins one
        where
          at_step : (s : ProgramStep) × (slice_get picked j ≡ Some s) × (c ≡ show s)
          at_step = step_of picked j here
            where
              step_of : (steps : List ProgramStep) (i : ℕ) → slice_get (map show steps) i ≡ Some c → (s : ProgramStep) × (slice_get steps i ≡ Some s) × (c ≡ show s)
              step_of [] i h = absurd (let e : None ≡ Some c = h in cc)
              step_of (s ∷ steps) zero h = (s, refl, (let e : Some (show s) ≡ Some c = h in let e' : show s ≡ c = cc in sym e'))
              step_of (s ∷ steps) (suc i) h = step_of steps i h

          place : (i : ℕ) × (slice_get (map show p.steps.items) i ≡ Some c)
          place = among_get (map show p.steps.items) c (shown c (get_among (map show picked) j c here))

          low : AllByRecursion (λ k. get_or last k 0 ≤ j) c.ins
          low = subst (λ (d : FlatCover). AllByRecursion (λ k. get_or last k 0 ≤ j) d.ins) (sym at_step.2) (past j at_step.0 at_step.1)

          one : (k : ℕ) → Among k c.ins → Among k (known_after known (take j (map show picked)))
          one k among = by (after_split known (take place.0 (map show p.steps.items)) k (all_among (λ (k : ℕ). Among k (known_after known (take place.0 (map show p.steps.items)))) c.ins k (earlier_at known (map show p.steps.items) place.0 c earlier place.1) among))
            where
              by : Among k known ⊎ ((d : FlatCover) × Among d (take place.0 (map show p.steps.items)) × (d.out ≡ k)) → Among k (known_after known (take j (map show picked)))
              by (inl there) = after_keeps known (take j (map show picked)) k there
              by (inr found) =
                  let t = given k found.0 (among_take (map show p.steps.items) place.0 found.0 found.1) found.2 in
                  let before : t.0 < get_or last k 0 = subst (λ (n : ℕ). t.0 < get_or last n 0) t.3 (are.past t.0 t.1 t.2) in
                  let most : get_or last k 0 ≤ j = all_among (λ (k : ℕ). get_or last k 0 ≤ j) c.ins k low among in
                  let at : slice_get (map show picked) t.0 ≡ Some (show t.1) = slice_get-map show picked t.0 ∙ ap (option_map show) t.2 in
                  subst (λ (n : ℕ). Among n (known_after known (take j (map show picked)))) t.3
                  (after_has known (take j (map show picked)) (show t.1) (among_before (map show picked) t.0 j (show t.1) at (omega arith)))

  pub serves : ServeFor (program_covers p) (map show picked)
  unfolding program_covers
  serves f known row earlier = let stands = stands_in f known row earlier in record { row = stands.0; earlier = stands.1; all = stands.2 }

-- the steps at places are steps, and show the covers at these
pub steps_among : (steps : List ProgramStep) (places : List ℕ) → AllByRecursion (λ k. k < length steps) places → AllByRecursion (λ s. Among s steps) (steps_at steps places)
steps_among steps [] within = tt
steps_among steps (k ∷ places) within = (among_at steps k no_step within.0, steps_among steps places within.1)

shown_places : (show : ProgramStep → FlatCover) (steps : List ProgramStep) (places : List ℕ) → AllByRecursion (λ k. k < length steps) places → covers_at (map show steps) places ≡ map show (steps_at steps places)
shown_places show steps [] within = refl
shown_places show steps (k ∷ places) within =
    let head : get_or (map show steps) k no_flat_cover ≡ show (get_or steps k no_step) = get_or-map show steps k no_step no_flat_cover within.0 in
    let tail : covers_at (map show steps) places ≡ map show (steps_at steps places) = shown_places show steps places within.1 in
    cc

pub shown_at : (p : Program) (places : List ℕ) → AllByRecursion (λ k. k < length p.steps.items) places → covers_at (program_covers p) places ≡ map (shown_step p.reads.items p.cubes.items) (steps_at p.steps.items places)
unfolding program_covers
shown_at p places within = shown_places (shown_step p.reads.items p.cubes.items) p.steps.items places within

pub covers_long : (p : Program) → length (program_covers p) ≡ length p.steps.items
unfolding program_covers
covers_long p = length-map p.steps.items (shown_step p.reads.items p.cubes.items)

pub order_within : (p : Program) (order : List ℕ) → IsRunOrder (program_covers p) order → AllByRecursion (λ k. k < length p.steps.items) order
order_within p order is = subst (λ (n : ℕ). AllByRecursion (λ k. k < n) order) (covers_long p) is.within

-- an order whose test passed
pub runs_in : (p : Program) (order last : List ℕ) → AllByRecursion (λ k. k < length p.steps.items) order → AreLastWrites (steps_at p.steps.items order) last
    → ReadsPast p.reads.items (steps_at p.steps.items order) last → WritesAll p.steps.items last → IsRunOrder (program_covers p) order
runs_in p order last within are past all = record {
  within = subst (λ (n : ℕ). AllByRecursion (λ k. k < n) order) (sym (covers_long p)) within;
  serves = subst (ServeFor (program_covers p)) (sym (shown_at p order within)) (serves p (steps_at p.steps.items order) last (steps_among p.steps.items order within) are past all);
}

-- all covers, as they stand
pub as_they_stand : (covers : List FlatCover) (order : List ℕ) → order ≡ from_each (λ k. k) 0 (length covers) → IsRunOrder covers order
as_they_stand covers order is = record {
  within = subst (AllByRecursion (λ k. k < length covers)) (sym is) (all_each_below (λ k. k < length covers) (λ k. k) 0 (length covers) (λ j h. omega arith));
  serves = subst (ServeFor covers) (sym same) (λ f known row earlier. record { row = row; earlier = earlier; all = λ k among. among });
}
  where
    each_is : (xs : List FlatCover) (f : ℕ → FlatCover) (k : ℕ) → ((j : ℕ) → j < length xs → f (k + j) ≡ get_or xs j no_flat_cover) → from_each f k (length xs) ≡ xs
    each_is [] f k at = refl
    each_is (x ∷ xs) f k at =
        let head : f k ≡ x = ap f (let e : k ≡ k + 0 = omega arith in e) ∙ at 0 (omega arith) in
        let tail : from_each f (k + 1) (length xs) ≡ xs = each_is xs f (k + 1) (λ j h. (let e : k + 1 + j ≡ k + suc j = omega arith in ap f e ∙ at (suc j) (omega arith))) in
        cc

    same : covers_at covers order ≡ covers
    same = ap (covers_at covers) is ∙ sym (each_map (λ k. get_or covers k no_flat_cover) (λ k. k) 0 (length covers)) ∙ each_is covers (λ k. get_or covers k no_flat_cover) 0 (λ j h. (let e : 0 + j ≡ j = omega arith in ap (λ (n : ℕ). get_or covers n no_flat_cover) e))
