-- The whole board through a step of one hand at one end.
use Rattle.std.proofs.Common.{◌≡◌, ℕ, zero, suc, ◌+◌, ◌/◌, ◌%◌, ◌<◌, ◌≤◌, ◌==◌, cond, Bool, List, [], ◌∷◌, length, get_or, set, refl, sym, ◌∙◌, ap, subst, arith, eq-eqb, ne_eqb, lt_of_not-le, length-set, get_or-set_same, get_or-set_other, inl, inr}
use Rattle.std.specs.Prelude.{Some, None}
use Rattle.std.specs.List.{sum_by}
use Rattle.std.proofs.lemmas.List.Sums.{sum_by-set, sum_by-cons}
use Rattle.std.proofs.lemmas.Option.{same_Some}
use Rattle.atomic_table.specs.Table.{State}
use Rattle.atomic_table.proofs.Lists.{at_set}
use Rattle.lid_station.specs.Boards.{fill, drain}
use Rattle.lid_board.specs.Relation.{AreWithin, Kept, Related, IsPlanned, word_count, first_word, capacity_of, stream_of}
use Rattle.lid_board.specs.Views.{EndTable, at, held, one_of, has, changed, stepped_at, sure, IsEarly}
use Rattle.lid_board.specs.declared.view.EndFacts.{EndFacts}
use Rattle.lid_board.specs.declared.view.HandView.{HandView}
use Rattle.lid_board.proofs.Stations.{kept_frame}
use mathlib.Core.Option.{some, some-ne-none, some-injective}
use mathlib.Core.Logic.{dite}
use native.Mathlib.Decide.{dec_le, ℕ_discrete}
use lib.ListN.{get_elem?}

-- views by their numbers
pub view_within : (views : List HandView) (id : ℕ) (v : HandView) → get_elem? views id ≡ some v → id < length views
view_within [] id v e = absurd (some-ne-none v (sym e))
view_within (x ∷ xs) zero v e = omega arith
view_within (x ∷ xs) (suc id) v e = let h = view_within xs id v e in omega arith

view-is : (views : List HandView) (id : ℕ) (v : HandView) → get_elem? views id ≡ some v → get_or views id v ≡ v
view-is [] id v e = absurd (some-ne-none v (sym e))
view-is (x ∷ xs) zero v e = some-injective x v e
view-is (x ∷ xs) (suc id) v e = view-is xs id v e

pub sum_set : (f : HandView → ℕ) (views : List HandView) (id : ℕ) (v w : HandView) → get_elem? views id ≡ some v → sum_by f (set views id w) + f v ≡ sum_by f views + f w
sum_set f views id v w e =
    let s = sum_by-set f views id w v (view_within views id v e) in
    let same : f (get_or views id v) ≡ f v = ap f (view-is views id v e) in
    omega arith

pub sum_one : (f : HandView → ℕ) (views : List HandView) (id : ℕ) (v : HandView) → get_elem? views id ≡ some v → f v ≤ sum_by f views
sum_one f [] id v e = absurd (some-ne-none v (sym e))
sum_one f (x ∷ xs) zero v e = let same : f x ≡ f v = ap f (some-injective x v e) in let s = sum_by-cons f x xs in omega arith
sum_one f (x ∷ xs) (suc id) v e = let h = sum_one f xs id v e in let s = sum_by-cons f x xs in omega arith

pub sum_two : (f : HandView → ℕ) (views : List HandView) (i j : ℕ) (v w : HandView) → (i ≡ j → ⊥) → get_elem? views i ≡ some v → get_elem? views j ≡ some w → f v + f w ≤ sum_by f views
sum_two f [] i j v w other e g = absurd (some-ne-none v (sym e))
sum_two f (x ∷ xs) zero zero v w other e g = absurd (other refl)
sum_two f (x ∷ xs) zero (suc j) v w other e g = let same : f x ≡ f v = ap f (some-injective x v e) in let h = sum_one f xs j w g in let s = sum_by-cons f x xs in omega arith
sum_two f (x ∷ xs) (suc i) zero v w other e g = let same : f x ≡ f w = ap f (some-injective x w g) in let h = sum_one f xs i v e in let s = sum_by-cons f x xs in omega arith
sum_two f (x ∷ xs) (suc i) (suc j) v w other e g = let h = sum_two f xs i j v w (λ q. other (ap suc q)) e g in let s = sum_by-cons f x xs in omega arith

-- an end that is there is within the list
pub at-within : (ends : EndTable) (end : ℕ) (h : EndFacts) → at ends end ≡ Some h → end < length ends
at-within [] end h e = absurd (cc)
at-within (x ∷ xs) zero h e = omega arith
at-within (x ∷ xs) (suc end) h e = let l = at-within xs end h e in omega arith

pub at_changed : (ends : EndTable) (end : ℕ) (h g : EndFacts) → at ends end ≡ Some h → at (changed ends end g) end ≡ Some g
at_changed ends end h g e = get_or-set_same ends end (Some g) None (at-within ends end h e)

pub at-other : (ends : EndTable) (end k : ℕ) (g : EndFacts) → (k ≡ end → ⊥) → at (changed ends end g) k ≡ at ends k
at-other ends end k g other = get_or-set_other ends end k (Some g) None other

-- a change at an end gives and takes no end
pub has_changed : (ends : EndTable) (end k : ℕ) (h g : EndFacts) → at ends end ≡ Some h → one_of (at (changed ends end g) k) ≡ one_of (at ends k)
has_changed ends end k h g e =
    dite (ℕ_discrete k end)
    (λ same.
    ap (λ (n : ℕ). one_of (at (changed ends end g) n)) same ∙ ap one_of (at_changed ends end h g e) ∙ sym (ap (λ (n : ℕ). one_of (at ends n)) same ∙ ap one_of e))
    (λ other. ap one_of (at-other ends end k g other))

-- the truth, changed at one end
abbrev pub swapped : (ℕ → EndFacts) → ℕ → EndFacts → ℕ → EndFacts
swapped truth end h k = cond (k == end) h (truth k)

pub swapped_here : (truth : ℕ → EndFacts) (end : ℕ) (h : EndFacts) → swapped truth end h end ≡ h
swapped_here truth end h = rw (eq-eqb end end refl) refl

pub swapped_else : (truth : ℕ → EndFacts) (end k : ℕ) (h : EndFacts) → (k ≡ end → ⊥) → swapped truth end h k ≡ truth k
swapped_else truth end k h other = rw (ne_eqb k end other) refl

module _ (plan : EndTable) where
  -- the words of two stations lie apart
  pub apart : (one two : ℕ) → one < two → first_word plan one + word_count (capacity_of plan one) ≤ first_word plan two
  apart one zero less = absurd (omega arith)
  apart one (suc two) less =
      dite (ℕ_discrete one two)
      (λ last. let e : first_word plan one + word_count (capacity_of plan one) ≡ first_word plan two + word_count (capacity_of plan two) = ap (λ (n : ℕ). first_word plan n + word_count (capacity_of plan n)) last in omega arith)
      (λ earlier. let h = apart one two (omega arith) in omega arith)

  pub first-some : (station : ℕ) → 1 ≤ first_word plan station
  first-some zero = omega arith
  first-some (suc station) = let h = first-some station in omega arith

  -- one word of one station changed; of another station all words are as they were
  untouched : (words : List ℕ) (one two number k n : ℕ) → (one ≡ two → ⊥) → k < word_count (capacity_of plan one) → number < word_count (capacity_of plan two)
      → get_or (set words (first_word plan one + k) n) (first_word plan two + number) 0 ≡ get_or words (first_word plan two + number) 0
  untouched words one two number k n other inside below =
      get_or-set_other words (first_word plan one + k) (first_word plan two + number) n 0
      (λ same.
      dite (dec_le two one)
      (λ low. let h = apart two one (omega arith) in omega arith)
      (λ high. let h = apart one two (lt_of_not-le high) in omega arith))

module _ {S : Type 0} (plan : EndTable) where
  -- who has an end knows the truth of it, and the end is of the board
  pub end_within : (st : State S HandView) (id : ℕ) (v : HandView) (end : ℕ) (h : EndFacts) → Related plan st → get_elem? st.views id ≡ some v → at v.ends end ≡ Some h → end < length plan
  end_within st id v end h r here e =
      dite (dec_le (length plan) end)
      (λ past.
      let none = r.none end past in
      let one : has end v ≡ 1 = ap one_of e in
      let some = sum_one (has end) st.views id v here in
      absurd (omega arith))
      (λ inside. lt_of_not-le inside)

  -- one end has changed, and each station is kept
  pub steps : (st : State S HandView) (words : List ℕ) (homes : List (mathlib.Core.Option.Option S)) (id : ℕ) (v : HandView) (end : ℕ) (h g : EndFacts) → (r : Related plan st)
      → get_elem? st.views id ≡ some v → at v.ends end ≡ Some h → IsPlanned h g
      → length words ≡ length st.words → get_or words 0 0 ≡ 0
      → ((station : ℕ) → station < r.stations → Kept words (first_word plan station) (swapped r.truth end g (fill station)) (swapped r.truth end g (drain station)))
      → Related plan (record { words = words; homes = homes; views = set st.views id (stepped_at v end g) })
  steps st words homes id v end h g r here e same long free kept =
      let w : HandView = stepped_at v end g in
      let counts : (k : ℕ) → sum_by (has k) (set st.views id w) ≡ sum_by (has k) st.views =
      λ k. (let s = sum_set (has k) st.views id v w here in let t : has k w ≡ has k v = has_changed v.ends end k h g e in omega arith) in
      record {
        truth = swapped r.truth end g;
        stations = r.stations;
        ends = r.ends;
        words = long ∙ r.words;
        no_station = free;
        one = λ k inside. counts k ∙ r.one k inside;
        none = λ k past. counts k ∙ r.none k past;
        agree = λ j u k x there is.
            elim (at_set st.views id j w u there) [
              | inl mine ↦
                  let known : at w.ends k ≡ Some x = ap (λ (y : HandView). at y.ends k) mine.1 ∙ is in
                  dite (ℕ_discrete k end)
                  (λ hit.
                  same_Some x g (sym known ∙ ap (λ (n : ℕ). at w.ends n) hit ∙ at_changed v.ends end h g e)
                  ∙ sym (ap (λ (n : ℕ). swapped r.truth end g n) hit ∙ swapped_here r.truth end g))
                  (λ miss.
                  r.agree id v k x here (sym (at-other v.ends end k g miss) ∙ known)
                  ∙ sym (swapped_else r.truth end k g miss))
              | inr other ↦
                  r.agree j u k x other.1 is
                  ∙ sym (swapped_else r.truth end k g (λ hit.
                  let mine : has end v ≡ 1 = ap one_of e in
                  let theirs : has end u ≡ 1 = ap one_of (ap (λ (n : ℕ). at u.ends n) (sym hit) ∙ is) in
                  let two = sum_two (has end) st.views j id u v other.0 other.1 here in
                  let one = r.one end (end_within st id v end h r here e) in
                  absurd (omega arith)))
            ];
        planned = λ k inside.
            dite (ℕ_discrete k end)
            (λ hit.
            let true_h : h ≡ r.truth end = r.agree id v end h here e in
            let was : IsPlanned (held plan k) (r.truth k) = r.planned k inside in
            let now : swapped r.truth end g k ≡ g = ap (λ (n : ℕ). swapped r.truth end g n) hit ∙ swapped_here r.truth end g in
            let old : r.truth k ≡ h = ap r.truth hit ∙ sym true_h in
            record {
              stream = ap (λ (y : EndFacts). y.stream) now ∙ same.stream ∙ sym (ap (λ (y : EndFacts). y.stream) old) ∙ was.stream;
              start = ap (λ (y : EndFacts). y.start) now ∙ same.start ∙ sym (ap (λ (y : EndFacts). y.start) old) ∙ was.start;
              cap = ap (λ (y : EndFacts). y.cap) now ∙ same.cap ∙ sym (ap (λ (y : EndFacts). y.cap) old) ∙ was.cap;
            })
            (λ miss. subst (IsPlanned (held plan k)) (sym (swapped_else r.truth end k g miss)) (r.planned k inside));
        kept = kept;
      }

  -- each station but one is kept, and that one too
  each_kept : (st : State S HandView) (one k n end : ℕ) (g : EndFacts) → (r : Related plan st) → k < word_count (capacity_of plan one) → (end / 2 ≡ one)
      → Kept (set st.words (first_word plan one + k) n) (first_word plan one) (swapped r.truth end g (fill one)) (swapped r.truth end g (drain one))
      → (station : ℕ) → station < r.stations
      → Kept (set st.words (first_word plan one + k) n) (first_word plan station) (swapped r.truth end g (fill station)) (swapped r.truth end g (drain station))
  each_kept st one k n end g r inside side here station there =
      let ends = r.ends in
      dite (ℕ_discrete one station)
      (λ same. subst (λ (s : ℕ). Kept (set st.words (first_word plan one + k) n) (first_word plan s) (swapped r.truth end g (fill s)) (swapped r.truth end g (drain s))) same here)
      (λ other.
      let fills : swapped r.truth end g (fill station) ≡ r.truth (fill station) = swapped_else r.truth end (fill station) g (λ e. other (omega arith)) in
      let drains : swapped r.truth end g (drain station) ≡ r.truth (drain station) = swapped_else r.truth end (drain station) g (λ e. other (omega arith)) in
      let cap : (r.truth (fill station)).cap ≡ capacity_of plan station = (r.planned (fill station) (omega arith)).cap in
      let was = kept_frame st.words (set st.words (first_word plan one + k) n) (first_word plan station) (r.truth (fill station)) (r.truth (drain station)) (r.kept station there)
      (λ number below. untouched plan st.words one station number k n other inside (let e : word_count (r.truth (fill station)).cap ≡ word_count (capacity_of plan station) = ap word_count cap in omega arith)) in
      subst (λ (y : EndFacts). Kept (set st.words (first_word plan one + k) n) (first_word plan station) y (swapped r.truth end g (drain station))) (sym fills)
      (subst (λ (y : EndFacts). Kept (set st.words (first_word plan one + k) n) (first_word plan station) (r.truth (fill station)) y) (sym drains) was))

  -- no look missed early at the ends of a hand
  pub is_early : (st : State S HandView) (id : ℕ) (v : HandView) → Related plan st → get_elem? st.views id ≡ some v → IsEarly v.ends
  is_early st id v r here end h is early =
      let inside = end_within st id v end h r here is in
      let ends = r.ends in
      let station = end / 2 in
      let true_h : h ≡ r.truth end = r.agree id v end h here is in
      let k = r.kept station (omega arith) in
      dite (ℕ_discrete (end % 2) 0)
      (λ even.
      let number : end ≡ fill station = omega arith in
      let x : h ≡ r.truth (fill station) = true_h ∙ ap r.truth number in
      let limit : sure end h ≡ h.cap = ap (λ (b : Bool). cond b h.cap h.start) (eq-eqb (end % 2) 0 even) in
      let cap = ap (λ (y : EndFacts). y.cap) x in
      let passed = ap (λ (y : EndFacts). y.passed) x in
      ap (λ (y : EndFacts). y.misses) x ∙ k.room_early (omega arith))
      (λ odd.
      let number : end ≡ drain station = omega arith in
      let x : h ≡ r.truth (drain station) = true_h ∙ ap r.truth number in
      let limit : sure end h ≡ h.start = ap (λ (b : Bool). cond b h.cap h.start) (ne_eqb (end % 2) 0 odd) in
      let start = ap (λ (y : EndFacts). y.start) x in
      let passed = ap (λ (y : EndFacts). y.passed) x in
      ap (λ (y : EndFacts). y.misses) x ∙ k.token_early (omega arith))

  -- no end of a hand was passed by more tokens than the stream has
  pub are_within : (st : State S HandView) (id : ℕ) (v : HandView) → Related plan st → get_elem? st.views id ≡ some v → AreWithin plan v.ends
  are_within st id v r here end h is =
      let inside = end_within st id v end h r here is in
      let ends = r.ends in
      let station = end / 2 in
      let k = r.kept station (omega arith) in
      let within = k.within in
      let ordered = k.ordered in
      let long : length (r.truth (fill station)).stream ≡ length (stream_of plan station) = ap (λ (s : List ℕ). length s) (r.planned (fill station) (omega arith)).stream in
      let known : h.passed ≡ (r.truth end).passed = ap (λ (y : EndFacts). y.passed) (r.agree id v end h here is) in
      dite (ℕ_discrete (end % 2) 0)
      (λ even.
      let number : end ≡ fill station = omega arith in
      let passed : (r.truth end).passed ≡ (r.truth (fill station)).passed = ap (λ (n : ℕ). (r.truth n).passed) number in
      omega arith)
      (λ odd.
      let number : end ≡ drain station = omega arith in
      let passed : (r.truth end).passed ≡ (r.truth (drain station)).passed = ap (λ (n : ℕ). (r.truth n).passed) number in
      omega arith)

  -- a step at an end that writes a word of its station
  steps_at : (st : State S HandView) (homes : List (mathlib.Core.Option.Option S)) (id : ℕ) (v : HandView) (station k n end : ℕ) (h e : EndFacts) → (r : Related plan st)
      → get_elem? st.views id ≡ some v → at v.ends end ≡ Some h → IsPlanned h e → k < word_count (capacity_of plan station) → end / 2 ≡ station
      → Kept (set st.words (first_word plan station + k) n) (first_word plan station) (swapped r.truth end e (fill station)) (swapped r.truth end e (drain station))
      → Related plan (record { words = set st.words (first_word plan station + k) n; homes = homes; views = set st.views id (stepped_at v end e) })
  steps_at st homes id v station k n end h e r here is same inside side kept =
      let some = first-some plan station in
      steps st (set st.words (first_word plan station + k) n) homes id v end h e r here is same
      (length-set st.words (first_word plan station + k) n)
      (get_or-set_other st.words (first_word plan station + k) 0 n 0 (λ z. omega arith) ∙ r.no_station)
      (each_kept st station k n end e r inside side kept)

  -- a step at a drained end
  pub steps_in : (st : State S HandView) (homes : List (mathlib.Core.Option.Option S)) (id : ℕ) (v : HandView) (station k n : ℕ) (d e : EndFacts) → (r : Related plan st)
      → get_elem? st.views id ≡ some v → at v.ends (drain station) ≡ Some d → IsPlanned d e → k < word_count (capacity_of plan station)
      → Kept (set st.words (first_word plan station + k) n) (first_word plan station) (r.truth (fill station)) e
      → Related plan (record { words = set st.words (first_word plan station + k) n; homes = homes; views = set st.views id (stepped_at v (drain station) e) })
  steps_in st homes id v station k n d e r here is same inside kept =
      steps_at st homes id v station k n (drain station) d e r here is same inside (omega arith)
      (subst (λ (y : EndFacts). Kept (set st.words (first_word plan station + k) n) (first_word plan station) y (swapped r.truth (drain station) e (drain station))) (sym (swapped_else r.truth (drain station) (fill station) e (λ z. omega arith)))
      (subst (λ (y : EndFacts). Kept (set st.words (first_word plan station + k) n) (first_word plan station) (r.truth (fill station)) y) (sym (swapped_here r.truth (drain station) e)) kept))

  -- a step at a filled end
  pub steps_out : (st : State S HandView) (homes : List (mathlib.Core.Option.Option S)) (id : ℕ) (v : HandView) (station k n : ℕ) (f e : EndFacts) → (r : Related plan st)
      → get_elem? st.views id ≡ some v → at v.ends (fill station) ≡ Some f → IsPlanned f e → k < word_count (capacity_of plan station)
      → Kept (set st.words (first_word plan station + k) n) (first_word plan station) e (r.truth (drain station))
      → Related plan (record { words = set st.words (first_word plan station + k) n; homes = homes; views = set st.views id (stepped_at v (fill station) e) })
  steps_out st homes id v station k n f e r here is same inside kept =
      steps_at st homes id v station k n (fill station) f e r here is same inside (omega arith)
      (subst (λ (y : EndFacts). Kept (set st.words (first_word plan station + k) n) (first_word plan station) y (swapped r.truth (fill station) e (drain station))) (sym (swapped_here r.truth (fill station) e))
      (subst (λ (y : EndFacts). Kept (set st.words (first_word plan station + k) n) (first_word plan station) e y) (sym (swapped_else r.truth (fill station) (drain station) e (λ z. omega arith))) kept))
