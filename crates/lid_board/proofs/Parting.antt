-- The whole board where ends go from hand to hand.
use Rattle.std.proofs.Common.{◌≡◌, ℕ, zero, suc, ◌+◌, ◌≤◌, cond, Bool, true, false, List, [], ◌∷◌, ◌++◌, length, set, refl, sym, ◌∙◌, ap, subst, arith, ◌⊎◌, inl, inr, map, lt_of_not-le}
use Rattle.std.specs.Prelude.{Option, Some, None, option_map}
use Rattle.std.specs.List.{sum_by}
use Rattle.std.proofs.lemmas.List.Sums.{sum_by-append, sum_by-cons}
use Rattle.std.proofs.lemmas.Option.{same_Some}
use Rattle.atomic_table.specs.Table.{State, Splits, Joins}
use Rattle.atomic_table.proofs.Lists.{at_set, at_snoc, set_else}
use Rattle.lid_station.specs.Boards.{fill, drain}
use Rattle.lid_board.specs.Owners.{IsOwned}
use Rattle.lid_board.specs.Parting.{unseen, or_else, left_from, right_from, merged_ends}
use Rattle.lid_board.specs.Relation.{Kept, Related, IsPlanned, first_word}
use Rattle.lid_board.specs.Views.{EndTable, at, held, has, one_of}
use Rattle.lid_board.specs.declared.view.EndFacts.{EndFacts}
use Rattle.lid_board.specs.declared.view.HandView.{HandView}
use Rattle.lid_board.proofs.Frames.{sum_set, sum_two}
use Rattle.lid_board.proofs.Stations.{kept_unseen_in, kept_unseen_out}
use mathlib.Core.Option.{some}
use mathlib.Core.Logic.{dite}
use native.Mathlib.Decide.{dec_le}
use lib.ListN.{get_elem?}

none_either : (b : Bool) → ◌≡◌ {A = Option EndFacts} None (cond b None None)
none_either true = refl
none_either false = refl

-- the ends that stay, one by one
at_left_from : (chosen : ℕ → Bool) (end : ℕ) (os : EndTable) (k : ℕ) → at (left_from chosen end os) k ≡ cond (chosen (end + k)) None (at os k)
at_left_from chosen end [] k = none_either (chosen (end + k))
at_left_from chosen end (o ∷ os) zero = ap (λ (n : ℕ). cond (chosen n) None o) (let e : end ≡ end + 0 = omega arith in e)
at_left_from chosen end (o ∷ os) (suc k) = at_left_from chosen (suc end) os k ∙ ap (λ (n : ℕ). cond (chosen n) None (at os k)) (let e : suc end + k ≡ end + suc k = omega arith in e)

at_right_from : (chosen : ℕ → Bool) (end : ℕ) (os : EndTable) (k : ℕ) → at (right_from chosen end os) k ≡ cond (chosen (end + k)) (option_map unseen (at os k)) None
at_right_from chosen end [] k = none_either (chosen (end + k))
at_right_from chosen end (o ∷ os) zero = ap (λ (n : ℕ). cond (chosen n) (option_map unseen o) None) (let e : end ≡ end + 0 = omega arith in e)
at_right_from chosen end (o ∷ os) (suc k) = at_right_from chosen (suc end) os k ∙ ap (λ (n : ℕ). cond (chosen n) (option_map unseen (at os k)) None) (let e : suc end + k ≡ end + suc k = omega arith in e)

pub at_left : (chosen : ℕ → Bool) (os : EndTable) (k : ℕ) → at (left_from chosen 0 os) k ≡ cond (chosen k) None (at os k)
at_left chosen os k = at_left_from chosen 0 os k ∙ ap (λ (n : ℕ). cond (chosen n) None (at os k)) (let e : 0 + k ≡ k = omega arith in e)

pub at_right : (chosen : ℕ → Bool) (os : EndTable) (k : ℕ) → at (right_from chosen 0 os) k ≡ cond (chosen k) (option_map unseen (at os k)) None
at_right chosen os k = at_right_from chosen 0 os k ∙ ap (λ (n : ℕ). cond (chosen n) (option_map unseen (at os k)) None) (let e : 0 + k ≡ k = omega arith in e)

at_map : (os : EndTable) (k : ℕ) → at (map (option_map unseen) os) k ≡ option_map unseen (at os k)
at_map [] k = refl
at_map (o ∷ os) zero = refl
at_map (o ∷ os) (suc k) = at_map os k

or-none : {A : Type 0} (o : Option A) → o ≡ or_else o None
or-none None = refl
or-none (Some x) = refl

pub at_merged : (os xs : EndTable) (k : ℕ) → at (merged_ends os xs) k ≡ or_else (at os k) (option_map unseen (at xs k))
at_merged [] xs k = at_map xs k
at_merged (o ∷ os) [] k = or-none (at (o ∷ os) k)
at_merged (o ∷ os) (x ∷ xs) zero = refl
at_merged (o ∷ os) (x ∷ xs) (suc k) = at_merged os xs k

-- an end is as it was, but that something may not be seen any more
abbrev Rests : EndFacts → EndFacts → Type 0
Rests t u = (u ≡ t) ⊎ (u ≡ unseen t)

kept_rests : (words : List ℕ) (first : ℕ) (f d g e : EndFacts) → Kept words first f d → Rests f g → Rests d e → Kept words first g e
kept_rests words first f d g e k (inl p) (inl q) = subst (λ (y : EndFacts). Kept words first y e) (sym p) (subst (λ (y : EndFacts). Kept words first f y) (sym q) k)
kept_rests words first f d g e k (inl p) (inr q) = subst (λ (y : EndFacts). Kept words first y e) (sym p) (subst (λ (y : EndFacts). Kept words first f y) (sym q) (kept_unseen_in words first f d k))
kept_rests words first f d g e k (inr p) (inl q) = subst (λ (y : EndFacts). Kept words first y e) (sym p) (subst (λ (y : EndFacts). Kept words first (unseen f) y) (sym q) (kept_unseen_out words first f d k))
kept_rests words first f d g e k (inr p) (inr q) = subst (λ (y : EndFacts). Kept words first y e) (sym p) (subst (λ (y : EndFacts). Kept words first (unseen f) y) (sym q) (kept_unseen_in words first (unseen f) d (kept_unseen_out words first f d k)))

planned_rests : (p t u : EndFacts) → IsPlanned p t → Rests t u → IsPlanned p u
planned_rests p t u is (inl e) = subst (IsPlanned p) (sym e) is
planned_rests p t u is (inr e) = subst (IsPlanned p) (sym e) record { stream = is.stream; start = is.start; cap = is.cap }

one_map : (o : Option EndFacts) → one_of (option_map unseen o) ≡ one_of o
one_map None = refl
one_map (Some h) = refl

-- what is let go where it is chosen
abbrev let_go : Bool → EndFacts → EndFacts
let_go b t = cond b (unseen t) t

let_go_rests : (b : Bool) (t : EndFacts) → Rests t (let_go b t)
let_go_rests true t = inr refl
let_go_rests false t = inl refl

part_one : (b : Bool) (o : Option EndFacts) → one_of (cond b None o) + one_of (cond b (option_map unseen o) None) ≡ one_of o
part_one true o = let e = one_map o in omega arith
part_one false o = omega arith

left_is : (b : Bool) (o : Option EndFacts) (h t : EndFacts) → cond b None o ≡ Some h → (o ≡ Some h → h ≡ t) → h ≡ let_go b t
left_is true o h t e known = absurd (cc)
left_is false o h t e known = known e

right_is : (b : Bool) (o : Option EndFacts) (h t : EndFacts) → cond b (option_map unseen o) None ≡ Some h → ((x : EndFacts) → o ≡ Some x → x ≡ t) → h ≡ let_go b t
right_is true None h t e known = absurd (cc)
right_is true (Some x) h t e known = sym (same_Some (unseen x) h e) ∙ ap unseen (known x refl)
right_is false o h t e known = absurd (cc)

else_is : (b : Bool) (t : EndFacts) → (b ≡ true → ⊥) → t ≡ let_go b t
else_is true t not = absurd (not refl)
else_is false t not = refl

module _ {S : Type 0} (plan : EndTable) where
  -- ends go from hand to hand: each stays in as many views, and what was seen there may be let go
  dealt : (st : State S HandView) (r : Related plan st) (views : List HandView) (truth : ℕ → EndFacts)
      → ((k : ℕ) → sum_by (has k) views ≡ sum_by (has k) st.views) → ((k : ℕ) → Rests (r.truth k) (truth k))
      → ((j : ℕ) (u : HandView) (k : ℕ) (h : EndFacts) → get_elem? views j ≡ some u → at u.ends k ≡ Some h → h ≡ truth k)
      → Related plan (record { words = st.words; homes = st.homes; views = views })
  dealt st r views truth counts rests agree = record {
    truth = truth;
    stations = r.stations;
    ends = r.ends;
    words = r.words;
    no_station = r.no_station;
    one = λ k inside. counts k ∙ r.one k inside;
    none = λ k past. counts k ∙ r.none k past;
    agree = agree;
    planned = λ k inside. planned_rests (held plan k) (r.truth k) (truth k) (r.planned k inside) (rests k);
    kept = λ station there.
        kept_rests st.words (first_word plan station) (r.truth (fill station)) (r.truth (drain station)) (truth (fill station)) (truth (drain station)) (r.kept station there)
        (rests (fill station)) (rests (drain station));
  }

  -- ends that are owned go to a new hand
  pub splits : (id : ℕ) (v : HandView) (chosen : ℕ → Bool) → ((k : ℕ) → chosen k ≡ true → IsOwned v.ends k)
      → Splits {S = S} (Related plan) id v (record { ends = left_from chosen 0 v.ends; steps = v.steps }) (record { ends = right_from chosen 0 v.ends; steps = [] })
  splits id v chosen owned st r here =
      let left : HandView = record { ends = left_from chosen 0 v.ends; steps = v.steps } in
      let right : HandView = record { ends = right_from chosen 0 v.ends; steps = [] } in
      let truth : ℕ → EndFacts = λ k. let_go (chosen k) (r.truth k) in
      let counts : (k : ℕ) → sum_by (has k) (set st.views id left ++ right ∷ []) ≡ sum_by (has k) st.views =
      λ k. (
      let a = sum_by-append (has k) (set st.views id left) (right ∷ []) in
      let b = sum_by-cons (has k) right [] in
      let c = sum_set (has k) st.views id v left here in
      let d : has k left ≡ one_of (cond (chosen k) None (at v.ends k)) = ap one_of (at_left chosen v.ends k) in
      let e : has k right ≡ one_of (cond (chosen k) (option_map unseen (at v.ends k)) None) = ap one_of (at_right chosen v.ends k) in
      let f = part_one (chosen k) (at v.ends k) in
      omega arith) in
      dealt st r (set st.views id left ++ right ∷ []) truth counts (λ k. let_go_rests (chosen k) (r.truth k))
      (λ j u k h there is.
      elim (at_snoc (set st.views id left) right u j there) [
        | inl before ↦
            elim (at_set st.views id j left u before) [
              | inl mine ↦
                  left_is (chosen k) (at v.ends k) h (r.truth k) (sym (at_left chosen v.ends k) ∙ ap (λ (y : HandView). at y.ends k) mine.1 ∙ is) (r.agree id v k h here)
              | inr other ↦
                  r.agree j u k h other.1 is
                  ∙ else_is (chosen k) (r.truth k) (λ hit.
                  let mine : has k v ≡ 1 = ap one_of (owned k hit) in
                  let theirs : has k u ≡ 1 = ap one_of is in
                  let two = sum_two (has k) st.views j id u v other.0 other.1 here in
                  dite (dec_le (length plan) k)
                  (λ past. let none = r.none k past in omega arith)
                  (λ inside. let one = r.one k (lt_of_not-le inside) in omega arith))
            ]
        | inr last ↦
            right_is (chosen k) (at v.ends k) h (r.truth k) (sym (at_right chosen v.ends k) ∙ ap (λ (y : HandView). at y.ends k) last ∙ is) (λ x e. r.agree id v k x here e)
      ])

-- what is let go where another has it
abbrev gone_or : Option EndFacts → EndFacts → EndFacts
gone_or None t = t
gone_or (Some h) t = unseen h

gone_or_rests : (o : Option EndFacts) (t : EndFacts) → ((h : EndFacts) → o ≡ Some h → h ≡ t) → Rests t (gone_or o t)
gone_or_rests None t known = inl refl
gone_or_rests (Some h) t known = inr (ap unseen (known h refl))

merge_one : (o x : Option EndFacts) → one_of o + one_of x ≤ 1 → one_of (or_else o (option_map unseen x)) ≡ one_of o + one_of x
merge_one None x le = let e = one_map x in omega arith
merge_one (Some h) None le = refl
merge_one (Some h) (Some y) le = absurd (omega arith)

merge_is : (o x : Option EndFacts) (h t : EndFacts) → one_of o + one_of x ≤ 1 → or_else o (option_map unseen x) ≡ Some h → (o ≡ Some h → h ≡ t) → h ≡ gone_or x t
merge_is None None h t le e known = absurd (cc)
merge_is None (Some y) h t le e known = sym (same_Some (unseen y) h e)
merge_is (Some z) None h t le e known = known e
merge_is (Some z) (Some y) h t le e known = absurd (omega arith)

none_is : (x : Option EndFacts) (t : EndFacts) → one_of x ≤ 0 → t ≡ gone_or x t
none_is None t le = refl
none_is (Some y) t le = absurd (omega arith)

module _ {S : Type 0} (plan : EndTable) where
  most_one : (st : State S HandView) (r : Related plan st) (k : ℕ) → sum_by (has k) st.views ≤ 1
  most_one st r k =
      dite (dec_le (length plan) k)
      (λ past. let none = r.none k past in omega arith)
      (λ inside. let one = r.one k (lt_of_not-le inside) in omega arith)

  -- the ends of a second hand go to the first
  pub joins : (id : ℕ) (v : HandView) (other : ℕ) (w : HandView) → Joins {S = S} (Related plan) id v other w (record { ends = merged_ends v.ends w.ends; steps = v.steps }) (record { ends = []; steps = [] })
  joins id v other w st r here apart there_both =
      let both : HandView = record { ends = merged_ends v.ends w.ends; steps = v.steps } in
      let spent : HandView = record { ends = []; steps = [] } in
      let there : get_elem? st.views other ≡ some w = sym (set_else st.views id other both apart) ∙ there_both in
      let truth : ℕ → EndFacts = λ k. gone_or (at w.ends k) (r.truth k) in
      let few : (k : ℕ) → one_of (at v.ends k) + one_of (at w.ends k) ≤ 1 =
      λ k. (let two = sum_two (has k) st.views id other v w (λ e. apart (sym e)) here there in let most = most_one st r k in omega arith) in
      let rests : (k : ℕ) → Rests (r.truth k) (truth k) = λ k. gone_or_rests (at w.ends k) (r.truth k) (λ h e. r.agree other w k h there e) in
      let counts : (k : ℕ) → sum_by (has k) (set (set st.views id both) other spent) ≡ sum_by (has k) st.views =
      λ k. (
      let a = sum_set (has k) st.views id v both here in
      let b = sum_set (has k) (set st.views id both) other w spent there_both in
      let c : has k both ≡ one_of (or_else (at v.ends k) (option_map unseen (at w.ends k))) = ap one_of (at_merged v.ends w.ends k) in
      let d = merge_one (at v.ends k) (at w.ends k) (few k) in
      let e : has k spent ≡ 0 = refl in
      omega arith) in
      dealt plan st r (set (set st.views id both) other spent) truth counts rests
      (λ j u k h at_j is.
      elim (at_set (set st.views id both) other j spent u at_j) [
        | inl gone ↦ let none : None ≡ Some h = ap (λ (y : HandView). at y.ends k) gone.1 ∙ is in absurd (cc)
        | inr rest ↦
            elim (at_set st.views id j both u rest.1) [
              | inl mine ↦
                  merge_is (at v.ends k) (at w.ends k) h (r.truth k) (few k) (sym (at_merged v.ends w.ends k) ∙ ap (λ (y : HandView). at y.ends k) mine.1 ∙ is) (r.agree id v k h here)
              | inr third ↦
                  r.agree j u k h third.1 is
                  ∙ none_is (at w.ends k) (r.truth k)
                  (let theirs : has k u ≡ 1 = ap one_of is in let two = sum_two (has k) st.views j other u w rest.0 third.1 there in let most = most_one st r k in omega arith)
            ]
      ])
