-- Covers of generated designs read inputs and latches alone.
use Rattle.std.proofs.Common.{◌≡◌, ◌⊎◌, ℕ, ◌-◌, ◌*◌, ◌/◌, ◌%◌, ◌<◌, ◌==◌, ◌||◌, nat_lt, Bool, true, false, cond, List, [], ◌∷◌, ◌++◌, map, codes, inl, inr, refl, sym, ◌∙◌, ap, subst, arith}
use Rattle.lid_base.specs.Lists.{Among}
use Rattle.lid_base.proofs.Lists.{among_left, among_right, among_append, among_map, map_among}
use Rattle.lid_cover.specs.declared.Cover.{Cover}
use Rattle.lid_design.specs.declared.Cell.TheVariants.{Names}
use Rattle.lid_design.specs.declared.Model.{Model}
use Rattle.lid_base.specs.Each.{from_each}
use Rattle.lid_gen.specs.Draws.{state_after, drawn}
use Rattle.lid_gen.specs.Designs.{input_name, output_name, shell_net, letter_of, net_at, count_places, kind_model, buffer_at, one_input, root_model}
use Rattle.lid_check_laws.specs.Plain.{AreAmong, IsRising}
use Rattle.lid_gen_laws.proofs.Each.{each_among, among_each}
use Rattle.lid_gen_laws.proofs.Names.{first}
use Rattle.lid_gen_laws.proofs.Pearls.{only}
use Rattle.lid_gen_laws.proofs.Roots.{place_few}

-- the inputs and latches of the models and of the root
abbrev low : ℕ → List (List ℕ)
low n = codes "a" ∷ codes "b" ∷ codes "q" ∷ from_each net_at 0 (count_places n)

-- what their covers drive
abbrev high : List (List ℕ)
high = codes "dq" ∷ codes "dr" ∷ from_each output_name 0 4

abbrev at_height : ℕ → List ℕ → List ℕ × ℕ
at_height h name = (name, h)

abbrev pub heights : ℕ → List (List ℕ × ℕ)
heights n = map (at_height 0) (low n) ++ map (at_height 1) high

-- names that begin with `d` or `y`
abbrev begins_high : List ℕ → Bool
begins_high name = (first name == 100) || (first name == 121)

net_low : (place : ℕ) → begins_high (net_at place) ≡ false
net_low place = by (nat_lt place 4)
  where
    by : (b : Bool) → begins_high (cond b (input_name place) (shell_net ((place - 4) / 2) (letter_of ((place - 4) % 2)))) ≡ false
    by true = refl
    by false = refl

lows : (n : ℕ) (name : List ℕ) → Among name (low n) → begins_high name ≡ false
lows n name (inl is) = ap begins_high is
lows n name (inr (inl is)) = ap begins_high is
lows n name (inr (inr (inl is))) = ap begins_high is
lows n name (inr (inr (inr later))) =
    let at = each_among net_at (count_places n) name later in
    ap begins_high at.2 ∙ net_low at.0

highs : (name : List ℕ) → Among name high → begins_high name ≡ true
highs name (inl is) = ap begins_high is
highs name (inr (inl is)) = ap begins_high is
highs name (inr (inr later)) = let at = each_among output_name 4 name later in ap begins_high at.2

-- a name that covers drive has height 1 alone
one_height : (n : ℕ) (name : List ℕ) (h : ℕ) → Among name high → Among {A = List ℕ × ℕ} (name, h) (heights n) → h ≡ 1
one_height n name h is_high among = by (among_append (at_height h name) (map (at_height 0) (low n)) (map (at_height 1) high) among)
  where
    by : Among {A = List ℕ × ℕ} (name, h) (map (at_height 0) (low n)) ⊎ Among {A = List ℕ × ℕ} (name, h) (map (at_height 1) high) → h ≡ 1
    by (inl here) =
        let found = map_among (at_height 0) (at_height h name) (low n) here in
        let same : name ≡ found.0 = ap (λ (p : List ℕ × ℕ). p.0) found.2 in
        absurd (let e : true ≡ false = sym (highs name is_high) ∙ ap begins_high same ∙ lows n found.0 found.1 in cc)
    by (inr there) =
        let found = map_among (at_height 1) (at_height h name) high there in
        ap (λ (p : List ℕ × ℕ). p.1) found.2

-- covers that read low names and drive high ones rise
rise : (n : ℕ) (m : Model) → ((inputs : List (List ℕ)) (out : List ℕ) (cover : Cover) → Among (Names inputs out cover) m.cells → AreAmong inputs (low n) × Among out high) → IsRising (heights n) m
rise n m each = record { some = some; lower = lower }
  where
    some : (inputs : List (List ℕ)) (out : List ℕ) (cover : Cover) → Among (Names inputs out cover) m.cells → (h : ℕ) × Among {A = List ℕ × ℕ} (out, h) (heights n)
    some inputs out cover there =
        (1, among_right (at_height 1 out) (map (at_height 0) (low n)) (map (at_height 1) high) (among_map (at_height 1) out high (each inputs out cover there).1))

    lower : (inputs : List (List ℕ)) (out : List ℕ) (cover : Cover) (net : List ℕ) (h : ℕ) → Among (Names inputs out cover) m.cells → Among net inputs → Among {A = List ℕ × ℕ} (out, h) (heights n) → (least : ℕ) × (least < h) × Among {A = List ℕ × ℕ} (net, least) (heights n)
    lower inputs out cover net h there among has =
        let is = each inputs out cover there in
        let one = one_height n out h is.1 has in
        (0, omega (arith, one), among_left (at_height 0 net) (map (at_height 0) (low n)) (map (at_height 1) high) (among_map (at_height 0) net (low n) (is.0 net among)))

pub kind_rises : (n k : ℕ) → IsRising (heights n) (kind_model k)
kind_rises n k = rise n (kind_model k) each
  where
    reads : AreAmong (codes "a" ∷ codes "b" ∷ codes "q" ∷ []) (low n)
    reads name (inl is) = inl is
    reads name (inr (inl is)) = inr (inl is)
    reads name (inr (inr (inl is))) = inr (inr (inl is))
    reads name (inr (inr (inr none))) = absurd none

    drives : AreAmong (codes "dq" ∷ codes "dr" ∷ []) high
    drives name (inl is) = inl is
    drives name (inr (inl is)) = inr (inl is)
    drives name (inr (inr none)) = absurd none

    each : (inputs : List (List ℕ)) (out : List ℕ) (cover : Cover) → Among (Names inputs out cover) (kind_model k).cells → AreAmong inputs (low n) × Among out high
    each inputs out cover there =
        let is = only k inputs out cover there in
        (λ name among. reads name (is.reads name among), drives out is.drives)

pub root_rises : (s n : ℕ) → IsRising (heights n) (root_model s n)
root_rises s n = rise n (root_model s n) each
  where
    each : (inputs : List (List ℕ)) (out : List ℕ) (cover : Cover) → Among (Names inputs out cover) (root_model s n).cells → AreAmong inputs (low n) × Among out high
    each inputs out cover there =
        let at = each_among (buffer_at (state_after (2 * n) s) n) 4 (Names inputs out cover) there in
        let place = drawn (state_after (2 * n) s) at.0 (count_places n) in
        let reads : inputs ≡ net_at place ∷ [] = (let e : Names inputs out cover ≡ Names (net_at place ∷ []) (output_name at.0) one_input = at.2 in cc) in
        let drives : out ≡ output_name at.0 = (let e : Names inputs out cover ≡ Names (net_at place ∷ []) (output_name at.0) one_input = at.2 in cc) in (
          λ name among. by place (place_few s n (state_after (2 * n) s) at.0) name (subst (λ (names : List (List ℕ)). Among name names) reads among),
          inr (inr (subst (λ (x : List ℕ). Among x (from_each output_name 0 4)) (sym drives) (among_each output_name 4 at.0 at.1))),
        )
      where
        by : (place : ℕ) → place < count_places n → (name : List ℕ) → Among name (net_at place ∷ []) → Among name (low n)
        by place few name (inl is) = inr (inr (inr (subst (λ (x : List ℕ). Among x (from_each net_at 0 (count_places n))) (sym is) (among_each net_at (count_places n) place few))))
        by place few name (inr none) = absurd none
