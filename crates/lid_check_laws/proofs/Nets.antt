-- A plain model has no more nets than drivers.
use Rattle.std.proofs.Common.{◌≡◌, ◌⊎◌, ℕ, ◌≤◌, Bool, true, false, not, cond, List, [], ◌∷◌, ◌++◌, length, map, filter, Option, inl, inr, refl, sym, ◌∙◌, ap, subst}
use Rattle.std.specs.List.{AllByRecursion, IsDistinct, flat_map}
use Rattle.std.specs.Str.{bytes_eq}
use Rattle.std.specs.Cmp.{IsEquivalence}
use Rattle.std.proofs.lemmas.Map.Made.{length-le_from_is_member}
use Rattle.lid_base.specs.Lists.{Among}
use Rattle.lid_base.proofs.Lists.{among_left, among_right, among_append, among_map, among_flat, flat_among, filter_among, same_bytes, bytes_same}
use Rattle.lid_design.specs.declared.Design.{Design}
use Rattle.lid_design.specs.declared.Model.{Model}
use Rattle.lid_design.specs.declared.Cell.{Cell}
use Rattle.lid_design.specs.declared.Cell.TheVariants.{Names, Latch}
use Rattle.lid_design.specs.Columns.{is_clock}
use Rattle.lid_design.specs.Models.{control_names, cell_names, cell_out, cell_reads, actual_names, driven_by, occurrences, firsts, nets}
use Rattle.lid_check_names.proofs.Lists.{is_among_firsts}
use Rattle.lid_check_hierarchy.proofs.Numbers.{bytes_eq_comm}
use Rattle.lid_check_drivers.proofs.Names.{to_among, from_among}
use Rattle.lid_check.proofs.Widths.{names_equal}
use Rattle.lid_check_laws.proofs.Sets.{kept_all}
use Rattle.lid_check_laws.specs.Plain.{IsUnclocked, root_drivers}
use Rattle.lid_check_laws.proofs.Sound.{IsPlainModel}

pub distinct_kept : (p : List ℕ → Bool) (xs : List (List ℕ)) → IsDistinct bytes_eq xs → IsDistinct bytes_eq (filter p xs)
unfolding IsDistinct
distinct_kept p [] distinct = tt
distinct_kept p (x ∷ xs) distinct = by (p x) (distinct_kept p xs distinct.1)
  where
    by : (b : Bool) → IsDistinct bytes_eq (filter p xs) → IsDistinct bytes_eq (cond b (x ∷ filter p xs) (filter p xs))
    by true later = (kept_all (λ y. bytes_eq x y ≡ false) p xs distinct.0, later)
    by false later = later

others : (x : List ℕ) (xs : List (List ℕ)) → AllByRecursion (λ y. bytes_eq x y ≡ false) (filter (λ other. not (bytes_eq other x)) xs)
others x [] = tt
others x (y ∷ ys) = by (bytes_eq y x) refl (others x ys)
  where
    by : (b : Bool) → bytes_eq y x ≡ b → AllByRecursion (λ y. bytes_eq x y ≡ false) (filter (λ other. not (bytes_eq other x)) ys) → AllByRecursion (λ y. bytes_eq x y ≡ false) (cond (not b) (y ∷ filter (λ other. not (bytes_eq other x)) ys) (filter (λ other. not (bytes_eq other x)) ys))
    by true e later = later
    by false e later = (bytes_eq_comm x y ∙ e, later)

pub firsts_apart : (xs : List (List ℕ)) → IsDistinct bytes_eq (firsts xs)
unfolding IsDistinct
firsts_apart [] = tt
firsts_apart (x ∷ xs) = (others x (firsts xs), distinct_kept (λ other. not (bytes_eq other x)) (firsts xs) (firsts_apart xs))

module _ (d : Design) (is_root : Bool) (m : Model) (plain : IsPlainModel d is_root m) where
  cell_driven : (cell : Cell) → Among cell m.cells → IsUnclocked cell → (net : List ℕ) → Among net (cell_names cell) → Among net (root_drivers d m)
  cell_driven cell there unclocked net among = by cell there unclocked among
    where
      read : (cell : Cell) → Among cell m.cells → Among net (cell_reads cell) → Among net (root_drivers d m)
      read cell there here = plain.driven net (among_left net (flat_map cell_reads m.cells ++ flat_map actual_names m.insts) m.outputs (among_left net (flat_map cell_reads m.cells) (flat_map actual_names m.insts) (among_flat cell_reads cell net m.cells there here)))

      out : (cell : Cell) → Among cell m.cells → net ≡ cell_out cell → Among net (root_drivers d m)
      out cell there is =
          among_left net (m.inputs ++ map cell_out m.cells) (flat_map (driven_by d) m.insts)
          (among_right net m.inputs (map cell_out m.cells) (subst (λ (x : List ℕ). Among x (map cell_out m.cells)) (sym is) (among_map cell_out cell m.cells there)))

      of_names : (cell : Cell) → Among cell m.cells → Among net (cell_reads cell) ⊎ Among net (cell_out cell ∷ []) → Among net (root_drivers d m)
      of_names cell there (inl here) = read cell there here
      of_names cell there (inr (inl is)) = out cell there is
      of_names cell there (inr (inr none)) = absurd none

      by : (cell : Cell) → Among cell m.cells → IsUnclocked cell → Among net (cell_names cell) → Among net (root_drivers d m)
      by (Names inputs output cover) there unclocked here = of_names (Names inputs output cover) there (among_append net inputs (output ∷ []) here)
      by (Latch input output kind control init) there unclocked here =
          of_names (Latch input output kind control init) there
          (among_append net (input ∷ []) (output ∷ []) (subst (λ (o : Option (List ℕ)). Among net (input ∷ control_names o ++ output ∷ [])) unclocked.1 here))

  -- each net of a plain model is driven
  occurs_driven : (net : List ℕ) → Among net (occurrences m) → Among net (root_drivers d m)
  unfolding occurrences
  occurs_driven net among = first (among_append net (m.inputs ++ m.outputs ++ m.clocks ++ flat_map cell_names m.cells) (flat_map actual_names m.insts) among)
    where
      ports : Among net m.inputs ⊎ Among net m.outputs → Among net (root_drivers d m)
      ports (inl input) = among_left net (m.inputs ++ map cell_out m.cells) (flat_map (driven_by d) m.insts) (among_left net m.inputs (map cell_out m.cells) input)
      ports (inr output) = plain.driven net (among_right net (flat_map cell_reads m.cells ++ flat_map actual_names m.insts) m.outputs output)

      third : Among net (m.inputs ++ m.outputs) ⊎ Among net m.clocks → Among net (root_drivers d m)
      third (inl port) = ports (among_append net m.inputs m.outputs port)
      third (inr clock) = absurd (subst (λ (clocks : List (List ℕ)). Among net clocks) plain.clocks clock)

      second : Among net (m.inputs ++ m.outputs ++ m.clocks) ⊎ Among net (flat_map cell_names m.cells) → Among net (root_drivers d m)
      second (inl port) = third (among_append net (m.inputs ++ m.outputs) m.clocks port)
      second (inr cells) = let found = flat_among cell_names net m.cells cells in cell_driven found.0 found.1 (plain.cells found.0 found.1) net found.2

      first : Among net (m.inputs ++ m.outputs ++ m.clocks ++ flat_map cell_names m.cells) ⊎ Among net (flat_map actual_names m.insts) → Among net (root_drivers d m)
      first (inl inner) = second (among_append net (m.inputs ++ m.outputs ++ m.clocks) (flat_map cell_names m.cells) inner)
      first (inr actual) = plain.driven net (among_left net (flat_map cell_reads m.cells ++ flat_map actual_names m.insts) m.outputs (among_right net (flat_map cell_reads m.cells) (flat_map actual_names m.insts) actual))

  pub nets_few : length (nets d m) ≤ length (root_drivers d m)
  unfolding nets
  nets_few =
      length-le_from_is_member names_equal (nets d m) (root_drivers d m) (distinct_kept (λ net. not (is_clock d m net)) (firsts (occurrences m)) (firsts_apart (occurrences m)))
      (λ q here.
      let found = (filter_among (λ net. not (is_clock d m net)) q (firsts (occurrences m)) (to_among q (nets d m) here)).0 in
      let occurs = to_among q (occurrences m) (sym (is_among_firsts q (occurrences m)) ∙ from_among q (firsts (occurrences m)) found) in
      from_among q (root_drivers d m) (occurs_driven q occurs))
