-- Numbers stay those of their names while further names are added.
use Rattle.std.proofs.Common.{◌≡◌, ℕ, Bool, true, false, cond, List, [], ◌∷◌, ◌++◌, map, flat_map, Some, slice_get, refl, sym, ◌∙◌, ap, subst, append_assoc}
use Rattle.std.proofs.lemmas.List.{append-nil}
use Rattle.lid_base.proofs.Places.{get_left}
use Rattle.lid_check_names.specs.Names.{is_among, firsts, with_name}
use Rattle.lid_check_names.proofs.Lists.{firsts_more}
use Rattle.lid_design.specs.declared.Model.{Model}
use Rattle.lid_design.specs.Models.{occurrences, cell_names, cell_reads, cell_out, actual_names}
use Rattle.lid_check_table.specs.Tables.{names_in, AreNumbersOf, AreNumbers, ArePortNumbers, AreCellNumbers, with_names}

stays_one : (names : List (List ℕ)) (n : List ℕ) (i : ℕ) (x : List ℕ) → slice_get names i ≡ Some x → slice_get (with_name names n) i ≡ Some x
stays_one names n i x here = by (is_among n names)
  where
    by : (b : Bool) → slice_get (cond b names (names ++ n ∷ [])) i ≡ Some x
    by true = here
    by false = get_left names (n ∷ []) i x here

stays : (names list : List (List ℕ)) (i : ℕ) (x : List ℕ) → slice_get names i ≡ Some x → slice_get (with_names names list) i ≡ Some x
stays names [] i x here = here
stays names (n ∷ list) i x here = stays (with_name names n) list i x (stays_one names n i x here)

numbers_stay : (names list done : List (List ℕ)) (numbers : List ℕ) → AreNumbersOf names done numbers → AreNumbersOf (with_names names list) done numbers
numbers_stay names list [] [] h = refl
numbers_stay names list [] (k ∷ ks) h = absurd (let f : slice_get names k ∷ map (slice_get names) ks ≡ [] = h in cc)
numbers_stay names list (x ∷ xs) [] h = absurd (let f : [] ≡ Some x ∷ map Some xs = h in cc)
numbers_stay names list (x ∷ xs) (k ∷ ks) h =
    let f : slice_get names k ∷ map (slice_get names) ks ≡ Some x ∷ map Some xs = h in
    let here : slice_get names k ≡ Some x = cc in
    let rest : map (slice_get names) ks ≡ map Some xs = cc in
    let head = stays names list k x here in
    let tail : map (slice_get (with_names names list)) ks ≡ map Some xs = numbers_stay names list xs ks rest in
    cc

-- numbers, where names were added
pub moved : (names now list done : List (List ℕ)) (numbers : List ℕ) → now ≡ with_names names list → AreNumbersOf names done numbers → AreNumbersOf now done numbers
moved names now list done numbers is h = subst (λ (ns : List (List ℕ)). AreNumbersOf ns done numbers) (sym is) (numbers_stay names list done numbers h)

pub with_names_append : (names xs ys : List (List ℕ)) → with_names names (xs ++ ys) ≡ with_names (with_names names xs) ys
with_names_append names [] ys = refl
with_names_append names (x ∷ xs) ys = with_names_append (with_name names x) xs ys

-- names that are added one by one to the first places of a list
with_firsts : (done list : List (List ℕ)) → with_names (firsts done) list ≡ firsts (done ++ list)
with_firsts done [] = ap firsts (sym (append-nil done))
with_firsts done (n ∷ list) =
    ap (λ (ns : List (List ℕ)). with_names ns list) (sym (firsts_more done n))
    ∙ with_firsts (done ++ n ∷ []) list
    ∙ ap firsts (append_assoc done (n ∷ []) list)

-- all names of a list, added one by one, are its first places
pub all_firsts : (list : List (List ℕ)) → with_names [] list ≡ firsts list
all_firsts list = with_firsts [] list

-- the names of a model, added part by part
pub whole_names : (m : Model) (a b c e : List (List ℕ)) → a ≡ [] → b ≡ with_names a (m.inputs ++ m.outputs ++ m.clocks) → c ≡ with_names b (flat_map cell_names m.cells) → e ≡ with_names c (flat_map actual_names m.insts) → e ≡ names_in m
unfolding occurrences
whole_names m a b c e none ports cells insts =
    let p = m.inputs ++ m.outputs ++ m.clocks in
    let q = flat_map cell_names m.cells in
    let r = flat_map actual_names m.insts in
    insts
    ∙ ap (λ (ns : List (List ℕ)). with_names ns r) (cells ∙ ap (λ (ns : List (List ℕ)). with_names ns q) (ports ∙ ap (λ (ns : List (List ℕ)). with_names ns p) none) ∙ sym (with_names_append [] p q))
    ∙ sym (with_names_append [] (p ++ q) r)
    ∙ all_firsts (p ++ q ++ r)

-- the numbers of a model's places, by its names
pub all_numbers : (m : Model) (b c e : List (List ℕ)) (inputs outputs clocks reads outs actuals : List ℕ) → e ≡ names_in m → c ≡ with_names b (flat_map cell_names m.cells) → e ≡ with_names c (flat_map actual_names m.insts) → ArePortNumbers m b inputs outputs clocks → AreCellNumbers m.cells c reads outs → AreNumbersOf e (flat_map actual_names m.insts) actuals → AreNumbers m inputs outputs clocks reads outs actuals
all_numbers m b c e inputs outputs clocks reads outs actuals whole cells insts ports inner last =
    let own = λ (done : List (List ℕ)) (numbers : List ℕ) (h : AreNumbersOf e done numbers). subst (λ (ns : List (List ℕ)). AreNumbersOf ns done numbers) whole h in
    let from_cells = λ (done : List (List ℕ)) (numbers : List ℕ) (h : AreNumbersOf c done numbers). own done numbers (moved c e (flat_map actual_names m.insts) done numbers insts h) in
    let from_ports = λ (done : List (List ℕ)) (numbers : List ℕ) (h : AreNumbersOf b done numbers). from_cells done numbers (moved b c (flat_map cell_names m.cells) done numbers cells h) in
    record {
      for_inputs = from_ports m.inputs inputs ports.for_inputs;
      for_outputs = from_ports m.outputs outputs ports.for_outputs;
      for_clocks = from_ports m.clocks clocks ports.for_clocks;
      for_reads = from_cells (flat_map cell_reads m.cells) reads inner.for_reads;
      for_outs = from_cells (map cell_out m.cells) outs inner.for_outs;
      for_actuals = own (flat_map actual_names m.insts) actuals last;
    }
