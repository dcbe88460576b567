-- The root of a generated design is plain.
use Rattle.std.proofs.Common.{◌≡◌, ◌⊎◌, ℕ, zero, suc, ◌+◌, ◌-◌, ◌*◌, ◌<◌, ◌≤◌, ◌==◌, ◌||◌, Bool, true, false, cond, List, ◌∷◌, ◌++◌, inl, inr, refl, sym, ◌∙◌, ap, subst, arith}
use Rattle.std.proofs.Math.Nat.{mod-lt}
use Rattle.std.specs.List.{IsDistinct, flat_map}
use Rattle.std.specs.Str.{bytes_eq}
use Rattle.lid_base.specs.Lists.{Among}
use Rattle.lid_base.proofs.Lists.{among_left, among_right, among_append, flat_among}
use Rattle.lid_cover.specs.Cover.{cover_value}
use Rattle.lid_design.specs.declared.Model.{Model}
use Rattle.lid_design.specs.declared.Cell.{Cell}
use Rattle.lid_design.specs.declared.Inst.{Inst}
use Rattle.lid_base.specs.Each.{from_each}
use Rattle.lid_design.specs.Models.{cell_reads, driven_by, actual_names, is_buffer, is_constant}
use Rattle.lid_gen.specs.Draws.{moved, state_after, drawn}
use Rattle.lid_gen.specs.Designs.{input_name, output_name, shell_net, before, count_places, kind_model, shell, shell_at, buffer, buffer_at, root_model, made}
use Rattle.lid_check_laws.specs.Plain.{AreAmong, IsPlainInst, root_drivers, IsPlainRoot}
use Rattle.lid_gen_laws.proofs.Each.{each_among}
use Rattle.lid_gen_laws.proofs.Names.{outs, drives, drives_distinct, net_driven, shell_driven, outputs_distinct}
use Rattle.lid_gen_laws.proofs.Pearls.{inst_plain, inst_drives}
use Rattle.lid_base.proofs.Each.{each_length}

module _ (s n : ℕ) where
  kind_of : ℕ → ℕ
  kind_of i = drawn s (2 * i) 4

  pub kind_few : (i : ℕ) → drawn s (2 * i) 4 < 4
  kind_few i = mod-lt (moved (state_after (2 * i) s)) (omega arith)

  pub place_few : (s' k : ℕ) → drawn s' k (count_places n) < count_places n
  place_few s' k = mod-lt (moved (state_after k s')) (omega arith)

  all_drive : (k m : ℕ) → flat_map (driven_by (made s n)) (from_each (shell_at s n) k m) ≡ outs k m
  all_drive k zero = refl
  all_drive k (suc m) =
      ap (λ (names : List (List ℕ)). names ++ flat_map (driven_by (made s n)) (from_each (shell_at s n) (k + 1) m)) (inst_drives s n k (drawn s (2 * k) 4) (drawn s (2 * k + 1) (count_places n)) (kind_few k))
      ∙ ap (λ (names : List (List ℕ)). shell_net k 113 ∷ shell_net k 114 ∷ names) (all_drive (k + 1) m)

  pub root_drives : root_drivers (made s n) (root_model s n) ≡ drives n
  root_drives = ap (λ (names : List (List ℕ)). (from_each input_name 0 4 ++ from_each output_name 0 4) ++ names) (all_drive 0 n)

  -- the nets that the first inputs of instances are bound to
  before_driven : (i : ℕ) → i < n → Among (before i) (drives n)
  before_driven i less = by (i == 0) refl
    where
      by : (b : Bool) → (i == 0) ≡ b → Among (cond b (input_name 0) (shell_net (i - 1) 113)) (drives n)
      by true e = inl refl
      by false e = (shell_driven n (i - 1) (omega (arith, less))).0

  reads_driven : AreAmong (flat_map cell_reads (root_model s n).cells ++ flat_map actual_names (root_model s n).insts ++ (root_model s n).outputs) (drives n)
  reads_driven name among = of_three (among_append name (flat_map cell_reads (root_model s n).cells ++ flat_map actual_names (root_model s n).insts) (root_model s n).outputs among)
    where
      of_cell : (j place : ℕ) → place < count_places n → Among name (cell_reads (buffer j place)) → Among name (drives n)
      of_cell j place few (inl is) = subst (λ (x : List ℕ). Among x (drives n)) (sym is) (net_driven n place few)
      of_cell j place few (inr none) = absurd none

      of_cells : Among name (flat_map cell_reads (root_model s n).cells) → Among name (drives n)
      of_cells among =
          let found = flat_among cell_reads name (root_model s n).cells among in
          let at = each_among (buffer_at (state_after (2 * n) s) n) 4 found.0 found.1 in
          of_cell at.0 (drawn (state_after (2 * n) s) at.0 (count_places n)) (place_few (state_after (2 * n) s) at.0) (subst (λ (cell : Cell). Among name (cell_reads cell)) at.2 found.2)

      of_inst : (i k place : ℕ) → i < n → place < count_places n → Among name (actual_names (shell i k place)) → Among name (drives n)
      of_inst i k place less few (inl is) = subst (λ (x : List ℕ). Among x (drives n)) (sym is) (before_driven i less)
      of_inst i k place less few (inr (inl is)) = subst (λ (x : List ℕ). Among x (drives n)) (sym is) (net_driven n place few)
      of_inst i k place less few (inr (inr (inl is))) = subst (λ (x : List ℕ). Among x (drives n)) (sym is) (shell_driven n i less).0
      of_inst i k place less few (inr (inr (inr (inl is)))) = subst (λ (x : List ℕ). Among x (drives n)) (sym is) (shell_driven n i less).1
      of_inst i k place less few (inr (inr (inr (inr none)))) = absurd none

      of_insts : Among name (flat_map actual_names (root_model s n).insts) → Among name (drives n)
      of_insts among =
          let found = flat_among actual_names name (root_model s n).insts among in
          let at = each_among (shell_at s n) n found.0 found.1 in
          of_inst at.0 (drawn s (2 * at.0) 4) (drawn s (2 * at.0 + 1) (count_places n)) at.1 (place_few s (2 * at.0 + 1)) (subst (λ (inst : Inst). Among name (actual_names inst)) at.2 found.2)

      of_two : Among name (flat_map cell_reads (root_model s n).cells) ⊎ Among name (flat_map actual_names (root_model s n).insts) → Among name (drives n)
      of_two (inl here) = of_cells here
      of_two (inr there) = of_insts there

      of_three : Among name (flat_map cell_reads (root_model s n).cells ++ flat_map actual_names (root_model s n).insts) ⊎ Among name (from_each output_name 0 4) → Among name (drives n)
      of_three (inl here) = of_two (among_append name (flat_map cell_reads (root_model s n).cells) (flat_map actual_names (root_model s n).insts) here)
      of_three (inr there) = among_left name (from_each input_name 0 4 ++ from_each output_name 0 4) (outs 0 n) (among_right name (from_each input_name 0 4) (from_each output_name 0 4) there)

  buffers : (cell : Cell) → Among cell (root_model s n).cells → (is_buffer cell || is_constant cell) ≡ true
  unfolding cover_value
  buffers cell among =
      let at = each_among (buffer_at (state_after (2 * n) s) n) 4 cell among in
      subst (λ (cell : Cell). (is_buffer cell || is_constant cell) ≡ true) (sym at.2) (one at.0 (drawn (state_after (2 * n) s) at.0 (count_places n)))
    where
      one : (j place : ℕ) → (is_buffer (buffer j place) || is_constant (buffer j place)) ≡ true
      one j place = refl

  pub root_plain : 0 < n → n ≤ 2000 → IsPlainRoot (made s n) (root_model s n)
  root_plain some few =
      let count = each_length (shell_at s n) 0 n in
      record {
        some = omega (arith, some, count);
        few = omega (arith, few, count);
        clocks = refl;
        logic = buffers;
        outputs = outputs_distinct;
        once = subst (IsDistinct bytes_eq) (sym root_drives) (drives_distinct n few);
        driven = λ name among. subst (λ (names : List (List ℕ)). Among name names) (sym root_drives) (reads_driven name among);
        insts = insts;
      }
    where
      insts : (inst : Inst) → Among inst (root_model s n).insts → (sub : Model) × IsPlainInst (made s n) inst sub
      insts inst among =
          let at = each_among (shell_at s n) n inst among in
          (kind_model (drawn s (2 * at.0) 4), subst (λ (inst : Inst). IsPlainInst (made s n) inst (kind_model (drawn s (2 * at.0) 4))) (sym at.2) (inst_plain s n at.0 (drawn s (2 * at.0) 4) (drawn s (2 * at.0 + 1) (count_places n)) (kind_few at.0)))
