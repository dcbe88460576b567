-- The cycles of stalls that are read ascend.
use Rattle.std.proofs.Common.{◌≡◌, ◌⊎◌, inl, inr, ℕ, zero, suc, ◌<◌, Bool, true, false, cond, List, [], ◌∷◌, ◌++◌, length, Option, Some, None, Ok, slice_get, refl, sym, subst, arith}
use Rattle.std.proofs.lemmas.Bool.{ltb-true}
use Rattle.std.proofs.lemmas.Option.{slice_get_within}
use Rattle.lid_base.specs.declared.line.Line.{Line}
use Rattle.lid_stall_text.specs.declared.stalls.Stall.{Stall}
use Rattle.lid_stall_text.specs.declared.stalls.StallFault.TheVariants.{Order}
use Rattle.lid_stall_text.specs.Stalls.{stall_of, is_after, line_fault, with_stall, unless, lines_reading}
use Rattle.lid_stall_text.specs.Holds.{Ascend}
use Rattle.lid_base.proofs.Places.{get_push}

ascend_after : (stall : Stall) (stalls : List Stall) → Ascend (stall ∷ stalls) → Ascend stalls
ascend_after stall stalls ascends i j one other less here there = ascends (suc i) (suc j) one other (omega arith) here there

-- a cycle after the last of stalls that ascend is after each of them
pub after_all : (stalls : List Stall) (cycle : ℕ) → Ascend stalls → is_after stalls cycle ≡ true
    → (i : ℕ) (stall : Stall) → slice_get stalls i ≡ Some stall → stall.cycle < cycle
after_all [] cycle ascends after i stall is = absurd cc
after_all (only ∷ []) cycle ascends after zero stall is =
    let same : only ≡ stall = cc in
    subst (λ (x : Stall). x.cycle < cycle) same (ltb-true only.cycle cycle after)
after_all (only ∷ []) cycle ascends after (suc i) stall is = absurd cc
after_all (first ∷ second ∷ stalls) cycle ascends after zero stall is =
    let next = after_all (second ∷ stalls) cycle (ascend_after first (second ∷ stalls) ascends) after 0 second refl in
    let less = ascends 0 1 stall second (omega arith) is refl in
    omega arith
after_all (first ∷ second ∷ stalls) cycle ascends after (suc i) stall is =
    after_all (second ∷ stalls) cycle (ascend_after first (second ∷ stalls) ascends) after i stall is

-- so it can stand after them
pub pushed : (stalls : List Stall) (stall : Stall) → Ascend stalls → is_after stalls stall.cycle ≡ true → Ascend (stalls ++ stall ∷ [])
pushed stalls stall ascends after i j one other less here there = by_places (get_push stalls stall i one here) (get_push stalls stall j other there)
  where
    by_places : (slice_get stalls i ≡ Some one) ⊎ ((i ≡ length stalls) × (one ≡ stall)) → (slice_get stalls j ≡ Some other) ⊎ ((j ≡ length stalls) × (other ≡ stall)) → one.cycle < other.cycle
    by_places (inl old) (inl older) = ascends i j one other less old older
    by_places (inl old) (inr last) = subst (λ (x : Stall). one.cycle < x.cycle) (sym last.1) (after_all stalls stall.cycle ascends after i one old)
    by_places (inr past) (inl older) = let within = slice_get_within stalls j other older in absurd (omega (arith, past.0))
    by_places (inr past) (inr last) = absurd (omega (arith, past.0, last.0))

pub lines_ascend : (done : List Stall) (lines : List Line) (stalls : List Stall) → Ascend done → lines_reading done lines ≡ Ok stalls → Ascend stalls
lines_ascend done [] stalls ascends is = let same : done ≡ stalls = cc in subst Ascend same ascends
lines_ascend done (line ∷ lines) stalls ascends is = by_stall (stall_of line.words) (λ more. lines_ascend more lines stalls) is
  where
    by_order : (stall : Stall) (b : Bool) → is_after done stall.cycle ≡ b → ((more : List Stall) → Ascend more → lines_reading more lines ≡ Ok stalls → Ascend stalls)
        → unless (cond b None (Some (Order line.number))) (lines_reading (done ++ stall ∷ []) lines) ≡ Ok stalls → Ascend stalls
    by_order stall true after later is = later (done ++ stall ∷ []) (pushed done stall ascends after) is
    by_order stall false after later is = absurd cc

    by_stall : (o : Option Stall) → ((more : List Stall) → Ascend more → lines_reading more lines ≡ Ok stalls → Ascend stalls)
        → unless (line_fault done line.number o) (lines_reading (with_stall done o) lines) ≡ Ok stalls → Ascend stalls
    by_stall None later is = absurd cc
    by_stall (Some stall) later is = by_order stall (is_after done stall.cycle) refl later is

pub none_ascend : Ascend []
none_ascend i j one other less here there = absurd cc
