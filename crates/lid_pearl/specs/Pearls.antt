-- What a contract sees of a pearl, and what it gives.
use Rattle.std.specs.Prelude.{◌≡◌, ◌⊎◌, ℕ, Bool, List, [], ◌∷◌, ◌++◌, map}
use Rattle.lid_design.specs.declared.Flat.{Flat}
use Rattle.lid_design.specs.declared.FlatCover.{FlatCover}
use Rattle.lid_design.specs.Flat.{IsRow, latch_out, latch_input}

-- a pearl: its flat part, and the bits that its latches hold
pub record View : Type 0 where
  pub flat : Flat
  pub state : List Bool

-- a list is split in two, in each of which the order is kept
abbrev pub IsSplit : {A : Type 0} → List A → List A → List A → Type 0
IsSplit {A} [] first second = (first ≡ []) × (second ≡ [])
IsSplit {A} (x ∷ xs) first second =
    ((rest : List A) × (first ≡ x ∷ rest) × IsSplit xs rest second)
    ⊎ ((rest : List A) × (second ≡ x ∷ rest) × IsSplit xs first rest)

-- a flat part with some of its covers before the others
pub record IsReordered (f g : Flat) : Type 0 where
  pub nets : g.nets ≡ f.nets
  pub ins : g.ins ≡ f.ins
  pub outs : g.outs ≡ f.outs
  pub latches : g.latches ≡ f.latches
  pub covers : (first second : List FlatCover) × (g.covers ≡ first ++ second) × IsSplit f.covers first second

-- the outputs in the present state: those of each row that meets the covers and has the latches' bits
abbrev pub Shows : View → List Bool → Type 0
Shows p outs = (f : ℕ → Bool) → IsRow p.flat.covers f → map f (map latch_out p.flat.latches) ≡ p.state → outs ≡ map f p.flat.outs

-- a step: the latches take what they read in each row that meets the covers and has the latches' and
-- the inputs' bits, and the outputs are those of the new state
pub record Steps (p : View) (inputs : List Bool) (q : View) (outs : List Bool) : Type 0 where
  pub flat : q.flat ≡ p.flat
  pub state : (f : ℕ → Bool) → IsRow p.flat.covers f → map f (map latch_out p.flat.latches) ≡ p.state → map f p.flat.ins ≡ inputs → q.state ≡ map f (map latch_input p.flat.latches)
  pub shows : Shows q outs
