-- Each column stands at its place among all columns, and nowhere else.
use Rattle.std.proofs.Common.{◌≡◌, ◌⊎◌, ℕ, zero, suc, ◌+◌, ◌-◌, ◌≤◌, true, false, not, List, [], ◌∷◌, ◌++◌, length, take, filter, Option, Some, None, option_and_then, option_map, slice_get, inl, inr, refl, sym, ◌∙◌, ap, subst, arith, zero-add, add-zero}
use Rattle.std.specs.Option.{option_map_or}
use Rattle.std.specs.List.{flat_map, enumerate_from}
use Rattle.std.specs.Str.{bytes_eq}
use Rattle.std.proofs.lemmas.Option.{slice_get-map}
use Rattle.lid_base.specs.Lists.{Among, AreOnce}
use Rattle.lid_base.proofs.Lists.{filter_among, bytes_same}
use Rattle.lid_design.specs.declared.Design.{Design}
use Rattle.lid_design.specs.declared.Model.{Model}
use Rattle.lid_design.specs.declared.Inst.{Inst}
use Rattle.lid_design.specs.Columns.{Column, column, is_clock}
use Rattle.lid_design.specs.Models.{occurrences, firsts, nets, insts_of, number_named, instance_number, number_from}
use Rattle.lid_design.specs.Elaboration.{instance, instances, model_nets, columns_at, columns}
use Rattle.lid_check_elab.specs.Numbers.{over_insts, size_within, size_of, offset_of, start_of, columns_in}
use Rattle.lid_check_drivers.specs.Judged.{IsJudged}
use Rattle.lid_check_drivers.proofs.Shallow.{IsShallow, shallow_le, shallow_of}
use Rattle.lid_check_elab.proofs.Numbering.{block, columns_step, columns_length, size_same, over_same, take_get, at_length}
use Rattle.lid_base.proofs.Once.{once_filter, once_at}

-- where an item of two joined lists stands
pub get_split : {A : Type 0} (xs ys : List A) (m : ℕ) (x : A) → slice_get (xs ++ ys) m ≡ Some x → (slice_get xs m ≡ Some x) ⊎ ((n : ℕ) × (m ≡ length xs + n) × (slice_get ys n ≡ Some x))
get_split [] ys m x here = inr (m, sym (zero-add m), here)
get_split (y ∷ xs) ys zero x here = inl here
get_split {A} (y ∷ xs) ys (suc m) x here = by (get_split xs ys m x here)
  where
    by : (slice_get xs m ≡ Some x) ⊎ ((n : ℕ) × (m ≡ length xs + n) × (slice_get ys n ≡ Some x)) → (slice_get (y ∷ xs) (suc m) ≡ Some x) ⊎ ((n : ℕ) × (suc m ≡ length (y ∷ xs) + n) × (slice_get ys n ≡ Some x))
    by (inl first) = inl first
    by (inr (n, sum, later)) = inr (n, (let e = sum in let goal : suc m ≡ suc (length xs) + n = omega arith in goal), later)

-- names each once
firsts_once : (xs : List (List ℕ)) → AreOnce (firsts xs)
firsts_once [] = tt
firsts_once (x ∷ xs) = (other, once_filter (λ other. not (bytes_eq other x)) (firsts xs) (firsts_once xs))
  where
    other : Among x (filter (λ other. not (bytes_eq other x)) (firsts xs)) → ⊥
    other among =
        let kept = filter_among (λ other. not (bytes_eq other x)) x (firsts xs) among in
        let e : false ≡ true = ap not (sym (bytes_same x x refl)) ∙ kept.1 in
        cc

nets_once : (d : Design) (m : Model) → AreOnce (nets d m)
unfolding nets
nets_once d m = once_filter (λ net. not (is_clock d m net)) (firsts (occurrences m)) (firsts_once (occurrences m))

pub model_nets_once : (d : Design) (k : ℕ) → AreOnce (model_nets d k)
model_nets_once d k = by (slice_get d.models k)
  where
    by : (o : Option Model) → AreOnce (option_map_or (nets d) o [])
    by None = tt
    by (Some m) = nets_once d m

-- a column of a number, by its path and its net
pub record Located (d : Design) (n : ℕ) (c : Column) : Type 0 where
  pub model : ℕ
  pub leads : number_from d d.root c.path ≡ Some model
  pub net : ℕ
  pub here : slice_get (model_nets d model) net ≡ Some c.net
  pub sum : n ≡ start_of d c.path + net

module _ (d : Design) where
  -- an instance that is there, and the number of its model
  record Placed (found : Option Inst) : Type 0 where
    inst : Inst
    number : ℕ
    at : found ≡ Some inst
    names : number_named d inst.model ≡ Some number

  -- a column of the instances of a model
  record InBlock (n : ℕ) (path : List ℕ) (first : ℕ) (insts : List Inst) (m : ℕ) (c : Column) : Type 0 where
    i : ℕ
    sub : Placed (slice_get insts i)
    rest : ℕ
    split : m ≡ over_insts d (size_within n d) (take i insts) + rest
    inner : slice_get (columns_in n d ((first + i) ∷ path) sub.number) rest ≡ Some c

  in_block : (n : ℕ) (path : List ℕ) (first : ℕ) (insts : List Inst) (m : ℕ) (c : Column) → slice_get (flat_map (block d n path) (enumerate_from first insts)) m ≡ Some c → InBlock n path first insts m c
  in_block n path first [] m c here = absurd (let e : None ≡ Some c = here in cc)
  in_block n path first (x ∷ insts) m c here = by (get_split (block d n path (first, x)) (flat_map (block d n path) (enumerate_from (first + 1) insts)) m c here) (λ m later. in_block n path (first + 1) insts m c later)
    where
      sized : (o : Option ℕ) → length (option_map_or (columns_in n d (first ∷ path)) o []) ≡ option_map_or (size_within n d) o 0
      sized None = refl
      sized (Some k) = columns_length d n (first ∷ path) k

      at_first : (o : Option ℕ) → number_named d x.model ≡ o → slice_get (option_map_or (columns_in n d (first ∷ path)) o []) m ≡ Some c → InBlock n path first (x ∷ insts) m c
      at_first None e none = absurd (let f : None ≡ Some c = none in cc)
      at_first (Some j) e inner = record {
        i = zero;
        sub = record { inst = x; number = j; at = refl; names = e };
        rest = m;
        split = sym (zero-add m);
        inner = subst (λ (f : ℕ). slice_get (columns_in n d (f ∷ path) j) m ≡ Some c) (sym (add-zero first)) inner;
      }

      by : (slice_get (block d n path (first, x)) m ≡ Some c) ⊎ ((rest : ℕ) × (m ≡ length (block d n path (first, x)) + rest) × (slice_get (flat_map (block d n path) (enumerate_from (first + 1) insts)) rest ≡ Some c)) → ((rest : ℕ) → slice_get (flat_map (block d n path) (enumerate_from (first + 1) insts)) rest ≡ Some c → InBlock n path (first + 1) insts rest c) → InBlock n path first (x ∷ insts) m c
      by (inl inner) next = at_first (number_named d x.model) refl inner
      by (inr (rest, sum, later)) next =
          let found = next rest later in
          let number : (first + 1) + found.i ≡ first + suc found.i = omega arith in
          let one = sized (number_named d x.model) in
          let two = found.split in
          let whole : m ≡ (option_map_or (size_within n d) (number_named d x.model) 0 + over_insts d (size_within n d) (take found.i insts)) + found.rest = omega arith in
          record {
            i = suc found.i;
            sub = found.sub;
            rest = found.rest;
            split = whole;
            inner = subst (λ (f : ℕ). slice_get (columns_in n d (f ∷ path) found.sub.number) found.rest ≡ Some c) number found.inner;
          }

  -- enough steps give the size
  size_le : (n m k : ℕ) → n ≤ m → IsShallow d n k → size_within n d k ≡ size_within m d k
  size_le n m k le deep = by (m - n) (n + (m - n)) refl ∙ ap (λ (x : ℕ). size_within x d k) (let e : n + (m - n) ≡ m = omega arith in e)
    where
      by : (more total : ℕ) → n + more ≡ total → size_within n d k ≡ size_within total d k
      by zero total sum = ap (λ (x : ℕ). size_within x d k) (sym (add-zero n) ∙ sum)
      by (suc more) total sum =
          let last : suc (n + more) ≡ total = omega arith in
          by more (n + more) refl ∙ size_same d (n + more) k (shallow_le d n (n + more) k (omega arith) deep) ∙ ap (λ (x : ℕ). size_within x d k) last

  module _ (judged : IsJudged d) where
    located_in : (n : ℕ) (path : List ℕ) (k : ℕ) → n ≤ length d.models → number_from d d.root path ≡ Some k → IsShallow d n k → (m : ℕ) (c : Column) → slice_get (columns_in n d path k) m ≡ Some c → Located d (start_of d path + m) c
    unfolding number_from start_of size_of
    located_in zero path k le leads none m c here = absurd none
    located_in (suc n) path k le leads deep m c here = by (get_split (columns_at d (instance path k)) (flat_map (block d n path) (enumerate_from 0 (insts_of d k))) m c (ap (λ (cs : List Column). slice_get cs m) (sym (columns_step d n path k)) ∙ here)) (λ i j m c inner leads sub. located_in n (i ∷ path) j (omega arith) leads sub m c inner)
      where
        own : (o : Option (List ℕ)) → slice_get (model_nets d k) m ≡ o → option_map (column path) o ≡ Some c → Located d (start_of d path + m) c
        own None e none = absurd (let f : None ≡ Some c = none in cc)
        own (Some net) e is =
            let same : column path net ≡ c = (let f : Some (column path net) ≡ Some c = is in cc) in
            subst (Located d (start_of d path + m)) same (record { model = k; leads = leads; net = m; here = e; sum = refl })

        by : (slice_get (columns_at d (instance path k)) m ≡ Some c) ⊎ ((rest : ℕ) × (m ≡ length (columns_at d (instance path k)) + rest) × (slice_get (flat_map (block d n path) (enumerate_from 0 (insts_of d k))) rest ≡ Some c)) → ((i j m : ℕ) (c : Column) → slice_get (columns_in n d (i ∷ path) j) m ≡ Some c → number_from d d.root (i ∷ path) ≡ Some j → IsShallow d n j → Located d (start_of d (i ∷ path) + m) c) → Located d (start_of d path + m) c
        by (inl mine) next = own (slice_get (model_nets d k) m) refl (sym (slice_get-map (column path) (model_nets d k) m) ∙ mine)
        by (inr (rest, sum, later)) next =
            let found = in_block n path 0 (insts_of d k) rest c later in
            let j = found.sub.number in
            let names : instance_number d found.i k ≡ Some j = ap (option_and_then (λ inst. number_named d inst.model)) found.sub.at ∙ found.sub.names in
            let inner_leads : number_from d d.root (found.i ∷ path) ≡ Some j = ap (option_and_then (instance_number d found.i)) leads ∙ names in
            let inner = subst (λ (f : ℕ). slice_get (columns_in n d (f ∷ path) j) found.rest ≡ Some c) (zero-add found.i) found.inner in
            let there = next found.i j found.rest c inner inner_leads (deep found.i j names) in
            let sizes : over_insts d (size_within n d) (take found.i (insts_of d k)) ≡ over_insts d (size_within (length d.models) d) (take found.i (insts_of d k)) =
            over_same d (size_within n d) (size_within (length d.models) d) (take found.i (insts_of d k)) (λ i b named. size_le n (length d.models) b (omega arith) (deep i b (take_get d found.i i b (insts_of d k) named))) in
            let first : start_of d (found.i ∷ path) ≡ start_of d path + offset_of d k found.i = ap (λ (o : Option ℕ). start_of d path + option_map_or (λ k. offset_of d k found.i) o 0) leads in
            let long = at_length d path k in
            let split = found.split in
            let whole : start_of d (found.i ∷ path) + found.rest ≡ start_of d path + m = omega arith in
            subst (λ (x : ℕ). Located d x c) whole there

    pub located : (n : ℕ) (c : Column) → slice_get (columns d) n ≡ Some c → Located d n c
    unfolding columns instances start_of number_from
    located n c here = subst (λ (x : ℕ). Located d x c) (zero-add n) (located_in (length d.models) [] d.root (omega arith) refl (shallow_of d judged d.root ([], refl)) n c here)

    -- each column has one number
    pub columns_once : (i j : ℕ) (c : Column) → slice_get (columns d) i ≡ Some c → slice_get (columns d) j ≡ Some c → i ≡ j
    columns_once i j c a b =
        let first = located i c a in
        let second = located j c b in
        let model : first.model ≡ second.model = (let e : Some first.model ≡ Some second.model = sym first.leads ∙ second.leads in cc) in
        let net = once_at (model_nets d second.model) (model_nets_once d second.model) first.net second.net c.net (subst (λ (k : ℕ). slice_get (model_nets d k) first.net ≡ Some c.net) model first.here) second.here in
        let one = first.sum in
        let two = second.sum in
        omega arith
