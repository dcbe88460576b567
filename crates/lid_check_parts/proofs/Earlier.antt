-- Covers along an order in which each number stands after those that it reads are run in that order.
use Rattle.std.proofs.Common.{◌≡◌, ◌<◌, ◌+◌, ℕ, List, [], ◌∷◌, ◌++◌, length, take, get_or, inl, inr, refl, sym, ◌∙◌, ap, subst, arith}
use Rattle.std.specs.Prelude.{slice_index}
use Rattle.std.specs.List.{flat_map}
use Rattle.std.proofs.lemmas.List.{length-append}
use Rattle.std.proofs.Math.Seq.{take-append_seam, get_or-append_seam}
use Rattle.lid_base.specs.Lists.{Among}
use Rattle.lid_base.proofs.Lists.{among_right, among_push}
use Rattle.lid_design.specs.declared.FlatCover.{FlatCover}
use Rattle.lid_design.specs.Flat.{ReadEarlier}
use Rattle.lid_check_digraph.specs.Graphs.{reads_at, IsOrder}
use Rattle.lid_base.proofs.Alls.{all_from_among}

-- a number is known before any cover is run, or the one cover that gives it reads what the number reads
abbrev pub Gives : List (List ℕ) → List ℕ → ℕ → List FlatCover → Type 0
Gives g base k [] = Among k base
Gives g base k (c ∷ []) = (c.out ≡ k) × ((a : ℕ) → Among a c.ins → Among a (reads_at g k))
Gives g base k (c ∷ e ∷ more) = ⊥

push_append : (done more : List ℕ) (k : ℕ) → (done ++ k ∷ []) ++ more ≡ done ++ k ∷ more
push_append [] more k = refl
push_append (x ∷ done) more k = ap (λ (xs : List ℕ). x ∷ xs) (push_append done more k)

module _ (g : List (List ℕ)) (order : List ℕ) (ordered : IsOrder g order) (f : ℕ → List FlatCover) (base : List ℕ) (each : (k : ℕ) → Among k order → Gives g base k (f k)) where
  -- a number reads what stands before it
  before : (done more : List ℕ) (k : ℕ) → done ++ k ∷ more ≡ order → (a : ℕ) → Among a (reads_at g k) → Among a done
  before done more k e a reads =
      let long : length order ≡ length done + length (k ∷ more) = ap length (sym e) ∙ length-append done (k ∷ more) in
      let h : length done < length order = omega arith in
      let at : slice_index order (length done) ≡ k = ap (λ (xs : List ℕ). get_or xs (length done) 0) (sym e) ∙ get_or-append_seam done k more 0 in
      let took = ordered.earlier (length done) a h (subst (λ (x : ℕ). Among a (reads_at g x)) (sym at) reads) in
      subst (Among a) (ap (take (length done)) (sym e) ∙ take-append_seam done (k ∷ more)) took

  abbrev Rest : List ℕ → Type 0
  Rest more = (done : List ℕ) → done ++ more ≡ order → (known : List ℕ) → ((a : ℕ) → Among a done → Among a known) → ((a : ℕ) → Among a base → Among a known) → ReadEarlier known (flat_map f more)

  pushed : (done known : List ℕ) (k : ℕ) → ((a : ℕ) → Among a done → Among a known) → Among k known → (a : ℕ) → Among a (done ++ k ∷ []) → Among a known
  pushed done known k all here a among = elim (among_push a k done among) [
    | inl earlier ↦ all a earlier
    | inr same ↦ subst (λ (x : ℕ). Among x known) (sym same) here
  ]

  module _ (done more : List ℕ) (k : ℕ) (e : done ++ k ∷ more ≡ order) (known : List ℕ) (run : (a : ℕ) → Among a done → Among a known) (first : (a : ℕ) → Among a base → Among a known) where
    cell_next : Rest more → ReadEarlier (k ∷ known) (flat_map f more)
    cell_next next = next (done ++ k ∷ []) (push_append done more k ∙ e) (k ∷ known) (pushed done (k ∷ known) k (λ a among. inr (run a among)) (inl refl)) (λ a among. inr (first a among))

    one_earlier : (cs : List FlatCover) → Gives g base k cs → Rest more → ReadEarlier known (cs ++ flat_map f more)
    one_earlier [] source next = next (done ++ k ∷ []) (push_append done more k ∙ e) known (pushed done known k run (first k source)) first
    one_earlier (c ∷ []) gives next = (
      all_from_among (λ a. Among a known) c.ins (λ a among. run a (before done more k e a (gives.1 a among))),
      subst (λ (out : ℕ). ReadEarlier (out ∷ known) (flat_map f more)) (sym gives.0) (cell_next next),
    )
    one_earlier (c ∷ other ∷ cs) none next = absurd none

    there : Among k order
    there = subst (Among k) e (among_right k done (k ∷ more) (inl refl))

  all_earlier : (more : List ℕ) → Rest more
  all_earlier [] done e known run first = tt
  all_earlier (k ∷ more) done e known run first =
      one_earlier done more k e known run first (f k) (each k (there done more k e known run first)) (all_earlier more)

  pub read_earlier : ReadEarlier base (flat_map f order)
  read_earlier = all_earlier order [] refl base (λ a none. absurd none) (λ a among. among)
