-- The models of the four kinds are plain.
use Rattle.std.proofs.Common.{◌≡◌, ℕ, zero, suc, ◌<◌, true, false, List, [], ◌∷◌, codes, Some, None, inl, inr, refl, sym, ◌∙◌, subst, arith}
use Rattle.std.specs.List.{IsDistinct}
use Rattle.std.specs.Str.{bytes_eq}
use Rattle.lid_base.specs.Lists.{Among}
use Rattle.lid_base.proofs.Lists.{bytes_same}
use Rattle.lid_gen_laws.proofs.Each.{among_each}
use Rattle.lid_cover.specs.declared.Cover.{Cover}
use Rattle.lid_design.specs.declared.Cell.{Cell}
use Rattle.lid_design.specs.declared.Cell.TheVariants.{Names, Latch}
use Rattle.lid_design.specs.declared.LatchKind.TheVariants.{Plain}
use Rattle.lid_design.specs.declared.Init.TheVariants.{Zero, One}
use Rattle.lid_design.specs.Columns.{model_named}
use Rattle.lid_design.specs.Models.{driven_by}
use Rattle.lid_gen.specs.Designs.{kind_name, kind_model, kind_cells, kind_cover, unequal, shell, shell_net, made}
use Rattle.lid_check_laws.specs.Plain.{IsUnclocked, AreAmong, IsPlainPearl, IsApart, IsPlainInst}

pub kind_plain : (k : ℕ) → IsPlainPearl (kind_model k)
unfolding IsDistinct
kind_plain k = record {
  insts = refl;
  clocks = refl;
  cells = cells;
  outputs = ((refl, tt), (tt, tt));
  once = ((refl, (refl, (refl, (refl, (refl, tt))))), ((refl, (refl, (refl, (refl, tt)))), ((refl, (refl, (refl, tt))), ((refl, (refl, tt)), ((refl, tt), (tt, tt))))));
  driven = driven;
}
  where
    cells : (cell : Cell) → Among cell (kind_cells k) → IsUnclocked cell
    cells cell (inl is) = subst IsUnclocked (sym is) tt
    cells cell (inr (inl is)) = subst IsUnclocked (sym is) tt
    cells cell (inr (inr (inl is))) = subst IsUnclocked (sym is) (refl, refl)
    cells cell (inr (inr (inr (inl is)))) = subst IsUnclocked (sym is) (refl, refl)
    cells cell (inr (inr (inr (inr none)))) = absurd none

    -- reads: a b b q dq dr, and the outputs q r; drivers: a b dq dr q r
    driven : AreAmong (codes "a" ∷ codes "b" ∷ codes "b" ∷ codes "q" ∷ codes "dq" ∷ codes "dr" ∷ codes "q" ∷ codes "r" ∷ []) (codes "a" ∷ codes "b" ∷ codes "dq" ∷ codes "dr" ∷ codes "q" ∷ codes "r" ∷ [])
    driven name (inl is) = inl is
    driven name (inr (inl is)) = inr (inl is)
    driven name (inr (inr (inl is))) = inr (inl is)
    driven name (inr (inr (inr (inl is)))) = inr (inr (inr (inr (inl is))))
    driven name (inr (inr (inr (inr (inl is))))) = inr (inr (inl is))
    driven name (inr (inr (inr (inr (inr (inl is)))))) = inr (inr (inr (inl is)))
    driven name (inr (inr (inr (inr (inr (inr (inl is))))))) = inr (inr (inr (inr (inl is))))
    driven name (inr (inr (inr (inr (inr (inr (inr (inl is)))))))) = inr (inr (inr (inr (inr (inl is)))))
    driven name (inr (inr (inr (inr (inr (inr (inr (inr none)))))))) = absurd none

-- the covers of a kind: what they read and drive
pub record IsKindCover (inputs : List (List ℕ)) (out : List ℕ) : Type 0 where
  pub reads : AreAmong inputs (codes "a" ∷ codes "b" ∷ codes "q" ∷ [])
  pub drives : Among out (codes "dq" ∷ codes "dr" ∷ [])

pub only : (k : ℕ) (inputs : List (List ℕ)) (out : List ℕ) (cover : Cover) → Among (Names inputs out cover) (kind_cells k) → IsKindCover inputs out
only k inputs out cover (inl is) =
    let reads : inputs ≡ codes "a" ∷ codes "b" ∷ [] = (let e : Names inputs out cover ≡ Names (codes "a" ∷ codes "b" ∷ []) (codes "dq") (kind_cover k) = is in cc) in
    let drives : out ≡ codes "dq" = (let e : Names inputs out cover ≡ Names (codes "a" ∷ codes "b" ∷ []) (codes "dq") (kind_cover k) = is in cc) in
    record { reads = λ name among. of name (subst (λ (names : List (List ℕ)). Among name names) reads among); drives = inl drives }
  where
    of : AreAmong (codes "a" ∷ codes "b" ∷ []) (codes "a" ∷ codes "b" ∷ codes "q" ∷ [])
    of name (inl is) = inl is
    of name (inr (inl is)) = inr (inl is)
    of name (inr (inr none)) = absurd none
only k inputs out cover (inr (inl is)) =
    let reads : inputs ≡ codes "b" ∷ codes "q" ∷ [] = (let e : Names inputs out cover ≡ Names (codes "b" ∷ codes "q" ∷ []) (codes "dr") unequal = is in cc) in
    let drives : out ≡ codes "dr" = (let e : Names inputs out cover ≡ Names (codes "b" ∷ codes "q" ∷ []) (codes "dr") unequal = is in cc) in
    record { reads = λ name among. of name (subst (λ (names : List (List ℕ)). Among name names) reads among); drives = inr (inl drives) }
  where
    of : AreAmong (codes "b" ∷ codes "q" ∷ []) (codes "a" ∷ codes "b" ∷ codes "q" ∷ [])
    of name (inl is) = inr (inl is)
    of name (inr (inl is)) = inr (inr (inl is))
    of name (inr (inr none)) = absurd none
only k inputs out cover (inr (inr (inl is))) = absurd (let e : Names inputs out cover ≡ Latch (codes "dq") (codes "q") Plain None Zero = is in cc)
only k inputs out cover (inr (inr (inr (inl is)))) = absurd (let e : Names inputs out cover ≡ Latch (codes "dr") (codes "r") Plain None One = is in cc)
only k inputs out cover (inr (inr (inr (inr none)))) = absurd none

-- the inputs, and the nets of the covers
abbrev pub late : List (List ℕ)
late = codes "a" ∷ codes "b" ∷ codes "dq" ∷ codes "dr" ∷ []

pub kind_apart : (k : ℕ) → IsApart late (kind_model k)
kind_apart k = record { inputs = given; kept = kept; outputs = out }
  where
    given : AreAmong (codes "a" ∷ codes "b" ∷ []) late
    given name (inl is) = inl is
    given name (inr (inl is)) = inr (inl is)
    given name (inr (inr none)) = absurd none

    drives : (out : List ℕ) → Among out (codes "dq" ∷ codes "dr" ∷ []) → Among out late
    drives out among = inr (inr among)

    kept : (inputs : List (List ℕ)) (out : List ℕ) (cover : Cover) (net : List ℕ) → Among (Names inputs out cover) (kind_cells k) → Among net inputs → Among net late → Among out late
    kept inputs out cover net there among before = drives out (only k inputs out cover there).drives

    other : (x y : List ℕ) → bytes_eq x y ≡ false → x ≡ y → ⊥
    other x y apart same = absurd (let e : true ≡ false = sym (bytes_same x y same) ∙ apart in cc)

    out : (name : List ℕ) → Among name (codes "q" ∷ codes "r" ∷ []) → ¬ Among name late
    out name (inl is) (inl e) = other (codes "q") (codes "a") refl (sym is ∙ e)
    out name (inl is) (inr (inl e)) = other (codes "q") (codes "b") refl (sym is ∙ e)
    out name (inl is) (inr (inr (inl e))) = other (codes "q") (codes "dq") refl (sym is ∙ e)
    out name (inl is) (inr (inr (inr (inl e)))) = other (codes "q") (codes "dr") refl (sym is ∙ e)
    out name (inl is) (inr (inr (inr (inr none)))) = absurd none
    out name (inr (inl is)) (inl e) = other (codes "r") (codes "a") refl (sym is ∙ e)
    out name (inr (inl is)) (inr (inl e)) = other (codes "r") (codes "b") refl (sym is ∙ e)
    out name (inr (inl is)) (inr (inr (inl e))) = other (codes "r") (codes "dq") refl (sym is ∙ e)
    out name (inr (inl is)) (inr (inr (inr (inl e)))) = other (codes "r") (codes "dr") refl (sym is ∙ e)
    out name (inr (inl is)) (inr (inr (inr (inr none)))) = absurd none
    out name (inr (inr none)) among = absurd none

module _ (s n : ℕ) where
  -- the four models are found by their names
  pub kind_found : (k : ℕ) → k < 4 → model_named (made s n) (kind_name k) ≡ Some (kind_model k)
  kind_found zero few = refl
  kind_found (suc zero) few = refl
  kind_found (suc (suc zero)) few = refl
  kind_found (suc (suc (suc zero))) few = refl
  kind_found (suc (suc (suc (suc k)))) few = absurd (omega (arith, few))

  pub inst_plain : (i k place : ℕ) → k < 4 → IsPlainInst (made s n) (shell i k place) (kind_model k)
  unfolding IsDistinct
  inst_plain i k place few = record {
    there = inr (among_each kind_model 4 k few);
    named = refl;
    once = ((refl, (refl, (refl, tt))), ((refl, (refl, tt)), ((refl, tt), (tt, tt))));
    ports = λ name among. among;
    bound = bound;
    pearl = kind_plain k;
  }
    where
      bound : AreAmong (codes "a" ∷ codes "b" ∷ []) (codes "a" ∷ codes "b" ∷ codes "q" ∷ codes "r" ∷ [])
      bound name (inl is) = inl is
      bound name (inr (inl is)) = inr (inl is)
      bound name (inr (inr none)) = absurd none

  pub inst_drives : (i k place : ℕ) → k < 4 → driven_by (made s n) (shell i k place) ≡ shell_net i 113 ∷ shell_net i 114 ∷ []
  inst_drives i zero place few = refl
  inst_drives i (suc zero) place few = refl
  inst_drives i (suc (suc zero)) place few = refl
  inst_drives i (suc (suc (suc zero))) place few = refl
  inst_drives i (suc (suc (suc (suc k)))) place few = absurd (omega (arith, few))
