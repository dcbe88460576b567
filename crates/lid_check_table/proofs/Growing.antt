-- Lists that the walk over a model numbers, one after the other.
use Rattle.std.proofs.Common.{◌≡◌, ℕ, ◌+◌, ◌<◌, List, [], ◌∷◌, ◌++◌, length, take, get_or, map, flat_map, Some, slice_get, sym, ◌∙◌, ap, subst, append_assoc}
use Rattle.std.proofs.lemmas.List.{append-nil, map-append, take_more, flat_map_more}
use Rattle.std.proofs.lemmas.Grind.{flat_map-append}
use Rattle.lid_design.specs.declared.Cell.{Cell}
use Rattle.lid_design.specs.declared.Cell.TheVariants.{Names, Latch}
use Rattle.lid_design.specs.Models.{cell_names, cell_reads, cell_out, control_names}
use Rattle.lid_check_names.specs.Names.{with_name}
use Rattle.lid_design.specs.declared.Model.{Model}
use Rattle.lid_check_table.specs.Tables.{AreNumbersOf, ArePortNumbers, with_names, cell_controls, Enters, EntersCells}
use Rattle.lid_check_table.proofs.Numbers.{moved, with_names_append}

-- a name, whose number is pushed
pub one_enters : (names now : List (List ℕ)) (name : List ℕ) (old new : List ℕ) (place : ℕ) → now ≡ with_name names name → slice_get now place ≡ Some name → new ≡ old ++ place ∷ [] → Enters names now old new (name ∷ [])
one_enters names now name old new place added here pushed = record {
  grown = added;
  pushed = λ done h.
      let kept : map (slice_get now) old ≡ map Some done = moved names now (name ∷ []) done old added h in
      let last : slice_get now place ∷ [] ≡ Some name ∷ [] = ap (λ o. o ∷ []) here in
      ap (map (slice_get now)) pushed
      ∙ map-append (slice_get now) old (place ∷ [])
      ∙ ap (λ os. os ++ slice_get now place ∷ []) kept
      ∙ ap (λ os. map Some done ++ os) last
      ∙ sym (map-append Some done (name ∷ []));
}

pub enters_then : (a b c : List (List ℕ)) (o w v : List ℕ) (xs ys : List (List ℕ)) → Enters a b o w xs → Enters b c w v ys → Enters a c o v (xs ++ ys)
enters_then a b c o w v xs ys first second = record {
  grown = second.grown ∙ ap (λ (ns : List (List ℕ)). with_names ns ys) first.grown ∙ sym (with_names_append a xs ys);
  pushed = λ done h. subst (λ (ns : List (List ℕ)). AreNumbersOf c ns v) (append_assoc done xs ys) (second.pushed (done ++ xs) (first.pushed done h));
}

-- a loop that enters what each of some items stands for
pub enters_more : {A : Type 0} (g : List A → List (List ℕ)) (f : A → List (List ℕ)) → ((xs : List A) (x : A) → g (xs ++ x ∷ []) ≡ g xs ++ f x) → (a b c : List (List ℕ)) (o w v : List ℕ) (xs : List A) (i : ℕ) (x : A) → x ≡ get_or xs i x → i < length xs → Enters a b o w (g (take i xs)) → Enters b c w v (f x) → Enters a c o v (g (take (i + 1) xs))
enters_more g f grows a b c o w v xs i x is below first second =
    subst (Enters a c o v) (sym (ap g (take_more xs i x below) ∙ grows (take i xs) (get_or xs i x) ∙ ap (λ y. g (take i xs) ++ f y) (sym is)))
    (enters_then a b c o w v (g (take i xs)) (f x) first second)

pub flat_grows : {A : Type 0} (f : A → List (List ℕ)) (xs : List A) (x : A) → flat_map f (xs ++ x ∷ []) ≡ flat_map f xs ++ f x
flat_grows f xs x = sym (flat_map_more f [] xs x)

-- the names of a cell: what it reads, its control, what it drives
cell_parts : (c : Cell) → (cell_reads c ++ cell_controls c) ++ cell_out c ∷ [] ≡ flat_map cell_names (c ∷ [])
cell_parts (Names inputs out cover) = ap (λ (ns : List (List ℕ)). ns ++ out ∷ []) (append-nil inputs) ∙ sym (append-nil (inputs ++ out ∷ []))
cell_parts (Latch input out kind control init) = sym (append-nil (input ∷ control_names control ++ out ∷ []))

pub cell_enters : (a b c d : List (List ℕ)) (r s o w : List ℕ) (cell : Cell) → Enters a b r s (cell_reads cell) → c ≡ with_names b (cell_controls cell) → Enters c d o w (cell_out cell ∷ []) → EntersCells a d r s o w (cell ∷ [])
cell_enters a b c d r s o w cell first control last =
    let reads = cell_reads cell in
    let between = cell_controls cell in
    let out = cell_out cell ∷ [] in
    let from : c ≡ with_names a (reads ++ between) = control ∙ ap (λ (ns : List (List ℕ)). with_names ns between) first.grown ∙ sym (with_names_append a reads between) in
    record {
      grown = last.grown ∙ ap (λ (ns : List (List ℕ)). with_names ns out) from ∙ sym (with_names_append a (reads ++ between) out) ∙ ap (with_names a) (cell_parts cell);
      for_reads = λ done h.
          subst (λ (ns : List (List ℕ)). AreNumbersOf d (done ++ ns) s) (sym (append-nil reads))
          (moved c d out (done ++ reads) s last.grown (moved b c between (done ++ reads) s control (first.pushed done h)));
      for_outs = λ done h. last.pushed done (moved a c (reads ++ between) done o from h);
    }

cells_then : (a b c : List (List ℕ)) (r s t o w v : List ℕ) (xs ys : List Cell) → EntersCells a b r s o w xs → EntersCells b c s t w v ys → EntersCells a c r t o v (xs ++ ys)
cells_then a b c r s t o w v xs ys first second = record {
  grown = second.grown ∙ ap (λ (ns : List (List ℕ)). with_names ns (flat_map cell_names ys)) first.grown ∙ sym (with_names_append a (flat_map cell_names xs) (flat_map cell_names ys)) ∙ ap (with_names a) (sym (flat_map-append cell_names xs ys));
  for_reads = λ done h.
      subst (λ (ns : List (List ℕ)). AreNumbersOf c ns t) ((append_assoc done (flat_map cell_reads xs) (flat_map cell_reads ys)) ∙ ap (λ (ns : List (List ℕ)). done ++ ns) (sym (flat_map-append cell_reads xs ys)))
      (second.for_reads (done ++ flat_map cell_reads xs) (first.for_reads done h));
  for_outs = λ done h.
      subst (λ (ns : List (List ℕ)). AreNumbersOf c ns v) ((append_assoc done (map cell_out xs) (map cell_out ys)) ∙ ap (λ (ns : List (List ℕ)). done ++ ns) (sym (map-append cell_out xs ys)))
      (second.for_outs (done ++ map cell_out xs) (first.for_outs done h));
}

pub cells_more : (a b c : List (List ℕ)) (r s t o w v : List ℕ) (xs : List Cell) (i : ℕ) (x : Cell) → x ≡ get_or xs i x → i < length xs → EntersCells a b r s o w (take i xs) → EntersCells b c s t w v (x ∷ []) → EntersCells a c r t o v (take (i + 1) xs)
cells_more a b c r s t o w v xs i x is below first second =
    subst (EntersCells a c r t o v) (sym (take_more xs i x below ∙ ap (λ y. take i xs ++ y ∷ []) (sym is))) (cells_then a b c r s t o w v (take i xs) (x ∷ []) first second)

-- numbers that were pushed where there were none
pub begun : (names now list : List (List ℕ)) (old new numbers : List ℕ) → old ≡ [] → numbers ≡ new → ((done : List (List ℕ)) → AreNumbersOf names done old → AreNumbersOf now (done ++ list) new) → AreNumbersOf now list numbers
begun names now list old new numbers none same pushed = subst (AreNumbersOf now list) (sym same) (pushed [] (ap (map (slice_get names)) none))

-- three lists that are numbered one after the other
pub lists_enter : (m : Model) (a b c e : List (List ℕ)) (inputs outputs clocks : List ℕ) → b ≡ with_names a m.inputs → c ≡ with_names b m.outputs → e ≡ with_names c m.clocks → AreNumbersOf b m.inputs inputs → AreNumbersOf c m.outputs outputs → AreNumbersOf e m.clocks clocks → (e ≡ with_names a (m.inputs ++ m.outputs ++ m.clocks)) × ArePortNumbers m e inputs outputs clocks
lists_enter m a b c e inputs outputs clocks first second third i o k = (
  third
      ∙ ap (λ (ns : List (List ℕ)). with_names ns m.clocks) (second ∙ ap (λ (ns : List (List ℕ)). with_names ns m.outputs) first ∙ sym (with_names_append a m.inputs m.outputs))
      ∙ sym (with_names_append a (m.inputs ++ m.outputs) m.clocks),
  record {
    for_inputs = moved c e m.clocks m.inputs inputs third (moved b c m.outputs m.inputs inputs second i);
    for_outputs = moved c e m.clocks m.outputs outputs third o;
    for_clocks = k;
  },
)
