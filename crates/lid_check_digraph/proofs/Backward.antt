-- The search back from a number: marks, one number looked at, and the end.
use Rattle.std.proofs.Common.{◌≡◌, ℕ, zero, suc, ◌+◌, ◌<◌, ◌≢◌, ◌⊎◌, inl, inr, ◌↔◌, Bool, true, false, if◌then◌else◌, List, [], ◌∷◌, ◌++◌, length, set, replicate, refl, sym, ◌∙◌, ap, subst, arith}
use Rattle.std.proofs.lemmas.Bool.{cases_eq}
use Rattle.std.proofs.lemmas.List.{length-set, length-append, length-replicate}
use Rattle.std.proofs.lemmas.List.Sums.{sum_by-set}
use Rattle.lid_base.specs.Lists.{Among}
use Rattle.lid_base.proofs.Lists.{among_left, among_last, among_push, among_one}
use Rattle.lid_check_digraph.specs.Graphs.{reads_at, flag, WalkPast, IsReaching}
use Rattle.lid_check_digraph.specs.PartialOrders.{unmarked, count_false}
use Rattle.lid_check_digraph.specs.Searches.{IsFeeding, followed, AreMarked, Marks, IsSearch}
use Rattle.lid_check_digraph.proofs.Lists.{flag_here, flag_there}
use Rattle.lid_check_digraph.proofs.Walking.{past_first}

pub unmarked_less : (flags : List Bool) (k : ℕ) → k < length flags → flag flags k ≡ false → unmarked (set flags k true) + 1 ≡ unmarked flags
unmarked_less flags k h e =
    let sums : unmarked (set flags k true) + count_false (flag flags k) ≡ unmarked flags + count_false true = sum_by-set count_false flags k true false h in
    let one : count_false (flag flags k) ≡ 1 = ap count_false e in
    omega arith

-- numbers that are marked already
pub marks_kept : (numbers : List ℕ) (seen : List Bool) (todo : List ℕ) → ((b : ℕ) → Among b numbers → flag seen b ≡ true) → Marks numbers seen todo seen todo
marks_kept numbers seen todo on = record {
  count = refl;
  all = on;
  kept = λ c h. h;
  only = λ c h. inl h;
  new = λ c h. inl h;
  stays = λ c h. h;
  added = λ c h. inl h;
  less = omega arith;
}

pub marks_none : (seen : List Bool) (todo : List ℕ) → Marks [] seen todo seen todo
marks_none seen todo = marks_kept [] seen todo (λ b h. absurd h)

-- a number that is new
pub marks_new : (seen : List Bool) (todo : List ℕ) (k : ℕ) → k < length seen → flag seen k ≡ false → Marks (k ∷ []) seen todo (set seen k true) (todo ++ k ∷ [])
marks_new seen todo k within off = record {
  count = length-set seen k true;
  all = λ b h. ap (λ (x : ℕ). flag (set seen k true) x) (among_one b k h) ∙ here;
  kept = λ c h. kept c h (cases_eq c k);
  only = λ c h. only c h (cases_eq c k);
  new = λ c h. new c h (cases_eq c k);
  stays = λ c h. among_left c todo (k ∷ []) h;
  added = λ c h. added c (among_push c k todo h);
  less =
      let one = unmarked_less seen k within off in
      let long : length (todo ++ k ∷ []) ≡ length todo + 1 = length-append todo (k ∷ []) in
      omega arith;
}
  where
    here : flag (set seen k true) k ≡ true
    here = flag_here seen k true within

    kept : (c : ℕ) → flag seen c ≡ true → (c ≡ k) ⊎ (c ≢ k) → flag (set seen k true) c ≡ true
    kept c h (inl is) = ap (λ (x : ℕ). flag (set seen k true) x) is ∙ here
    kept c h (inr other) = flag_there seen k c true other ∙ h

    only : (c : ℕ) → flag (set seen k true) c ≡ true → (c ≡ k) ⊎ (c ≢ k) → (flag seen c ≡ true) ⊎ Among c (k ∷ [])
    only c h (inl is) = inr (inl is)
    only c h (inr other) = inl (sym (flag_there seen k c true other) ∙ h)

    new : (c : ℕ) → flag (set seen k true) c ≡ true → (c ≡ k) ⊎ (c ≢ k) → (flag seen c ≡ true) ⊎ Among c (todo ++ k ∷ [])
    new c h (inl is) = inr (subst (λ (x : ℕ). Among x (todo ++ k ∷ [])) (sym is) (among_last k todo))
    new c h (inr other) = inl (sym (flag_there seen k c true other) ∙ h)

    added : (c : ℕ) → Among c todo ⊎ (c ≡ k) → Among c todo ⊎ (flag (set seen k true) c ≡ true)
    added c (inl old) = inl old
    added c (inr is) = inr (ap (λ (x : ℕ). flag (set seen k true) x) is ∙ here)

-- marks after marks
pub marks_then : (xs : List ℕ) (k : ℕ) (s t u : List Bool) (p q r : List ℕ) → Marks xs s p t q → Marks (k ∷ []) t q u r → Marks (xs ++ k ∷ []) s p u r
marks_then xs k s t u p q r before after = record {
  count = after.count ∙ before.count;
  all = λ b h. all b (among_push b k xs h);
  kept = λ c h. after.kept c (before.kept c h);
  only = λ c h. only c (after.only c h);
  new = λ c h. new c (after.new c h);
  stays = λ c h. after.stays c (before.stays c h);
  added = λ c h. added c (after.added c h);
  less = let one = before.less in let two = after.less in omega arith;
}
  where
    all : (b : ℕ) → Among b xs ⊎ (b ≡ k) → flag u b ≡ true
    all b (inl old) = after.kept b (before.all b old)
    all b (inr is) = after.all b (inl is)

    only : (c : ℕ) → (flag t c ≡ true) ⊎ Among c (k ∷ []) → (flag s c ≡ true) ⊎ Among c (xs ++ k ∷ [])
    only c (inl on) = elim (before.only c on) [ inl old ↦ inl old | inr h ↦ inr (among_left c xs (k ∷ []) h) ]
    only c (inr h) = inr (subst (λ (x : ℕ). Among x (xs ++ k ∷ [])) (sym (among_one c k h)) (among_last k xs))

    new : (c : ℕ) → (flag t c ≡ true) ⊎ Among c r → (flag s c ≡ true) ⊎ Among c r
    new c (inl on) = elim (before.new c on) [ inl old ↦ inl old | inr h ↦ inr (after.stays c h) ]
    new c (inr h) = inr h

    added : (c : ℕ) → Among c q ⊎ (flag u c ≡ true) → Among c p ⊎ (flag u c ≡ true)
    added c (inl h) = elim (before.added c h) [ inl old ↦ inl old | inr on ↦ inr (after.kept c on) ]
    added c (inr on) = inr on

pub followed_free : (g : List (List ℕ)) (cut : List Bool) (c : ℕ) → flag cut c ≡ false → followed g cut c ≡ reads_at g c
followed_free g cut c free = ap (λ (b : Bool). if b then [] else reads_at g c) free

among_followed : (g : List (List ℕ)) (cut : List Bool) (c a : ℕ) → Among a (followed g cut c) → (flag cut c ≡ false) × Among a (reads_at g c)
among_followed g cut c a h = by_cut (flag cut c) refl h
  where
    by_cut : (b : Bool) → flag cut c ≡ b → Among a (if b then [] else reads_at g c) → (flag cut c ≡ false) × Among a (reads_at g c)
    by_cut true e h = absurd h
    by_cut false e h = (e, h)

module _ (g : List (List ℕ)) (cut : List Bool) (end : ℕ) where
  -- what is followed from the end is marked, with nothing marked before
  pub search_start : (old seen : List Bool) (none todo : List ℕ) → old ≡ replicate (length g) false → none ≡ [] → Marks (followed g cut end) old none seen todo → IsSearch g cut end seen todo
  search_start old seen none todo e empty marks = record {
    count = marks.count ∙ (ap length e ∙ length-replicate (length g) false);
    sound = λ a on. sound a (marks.only a on);
    first = λ free b h. marks.all b (subst (λ (xs : List ℕ). Among b xs) (sym (followed_free g cut end free)) h);
    rest = λ c on free. inl (rest c (marks.new c on));
    marked = λ c h. elim (marks.added c h) [ inl old ↦ absurd (subst (λ (xs : List ℕ). Among c xs) empty old) | inr on ↦ on ];
  }
    where
      all_false : (n k : ℕ) → flag (replicate n false) k ≡ false
      all_false zero k = refl
      all_false (suc n) zero = refl
      all_false (suc n) (suc k) = all_false n k

      none_old : (k : ℕ) → flag old k ≡ false
      none_old k = ap (λ (flags : List Bool). flag flags k) e ∙ all_false (length g) k

      sound : (a : ℕ) → (flag old a ≡ true) ⊎ Among a (followed g cut end) → IsFeeding g cut a end
      sound a (inl on) = absurd (let off = none_old a in cc)
      sound a (inr h) = let read = among_followed g cut end a h in (0, (a, refl, read.1, read.0))

      rest : (c : ℕ) → (flag old c ≡ true) ⊎ Among c todo → Among c todo
      rest c (inl on) = absurd (let off = none_old c in cc)
      rest c (inr h) = h

  -- what is followed from a number is marked
  pub search_on : (seen new_seen : List Bool) (todo new_todo : List ℕ) (c : ℕ) → IsSearch g cut end seen (todo ++ c ∷ []) → Marks (followed g cut c) seen todo new_seen new_todo → IsSearch g cut end new_seen new_todo
  search_on seen new_seen todo new_todo c search marks = record {
    count = marks.count ∙ search.count;
    sound = λ a on. sound a (marks.only a on);
    first = λ free b h. marks.kept b (search.first free b h);
    rest = λ d on free. rest d free (marks.new d on);
    marked = λ d h. marked d (marks.added d h);
  }
    where
      feeds : IsFeeding g cut c end
      feeds = search.sound c (search.marked c (among_last c todo))

      sound : (a : ℕ) → (flag seen a ≡ true) ⊎ Among a (followed g cut c) → IsFeeding g cut a end
      sound a (inl on) = search.sound a on
      sound a (inr h) = let read = among_followed g cut c a h in (suc feeds.0, past_first g cut (suc feeds.0) a c end read.1 read.0 feeds.1)

      after : (d : ℕ) → AreMarked seen (reads_at g d) → AreMarked new_seen (reads_at g d)
      after d done b h = marks.kept b (done b h)

      popped : (d : ℕ) → flag cut d ≡ false → Among d todo ⊎ (d ≡ c) → Among d new_todo ⊎ AreMarked new_seen (reads_at g d)
      popped d free (inl old) = inl (marks.stays d old)
      popped d free (inr is) = inr (subst (λ (xs : List ℕ). AreMarked new_seen xs) (ap (followed g cut) (sym is) ∙ followed_free g cut d free) marks.all)

      rest : (d : ℕ) → flag cut d ≡ false → (flag seen d ≡ true) ⊎ Among d new_todo → Among d new_todo ⊎ AreMarked new_seen (reads_at g d)
      rest d free (inr h) = inl h
      rest d free (inl on) = elim (search.rest d on free) [ inl h ↦ popped d free (among_push d c todo h) | inr done ↦ inr (after d done) ]

      marked : (d : ℕ) → Among d todo ⊎ (flag new_seen d ≡ true) → flag new_seen d ≡ true
      marked d (inl old) = marks.kept d (search.marked d (among_left d todo (c ∷ []) old))
      marked d (inr on) = on

  -- where nothing is still to be looked at, exactly what feeds the end is marked
  module _ (seen : List Bool) (search : IsSearch g cut end seen []) where
    closed : (n a c : ℕ) → flag seen c ≡ true → WalkPast g cut n a c → flag seen a ≡ true
    closed zero a c on w = ap (λ (x : ℕ). flag seen x) w ∙ on
    closed (suc n) a c on w = closed n a w.0 (elim (search.rest c on w.3) [ inl none ↦ absurd none | inr done ↦ done w.0 w.2 ]) w.1

    pub search_exact : (a : ℕ) → (flag seen a ≡ true) ↔ IsFeeding g cut a end
    search_exact a = (search.sound a, λ feeds. closed feeds.0 a feeds.1.0 (search.first feeds.1.3 feeds.1.0 feeds.1.2) feeds.1.1)

  -- with the end itself marked, exactly what reaches it
  pub reaching_exact : (seen : List Bool) → end < length seen → ((a : ℕ) → (flag seen a ≡ true) ↔ IsFeeding g cut a end) → (a : ℕ) → (flag (set seen end true) a ≡ true) ↔ IsReaching g cut a end
  reaching_exact seen within exact a = by_number (cases_eq a end)
    where
      to : (n : ℕ) → a ≢ end → WalkPast g cut n a end → flag seen a ≡ true
      to zero other w = absurd (other w)
      to (suc n) other w = (exact a).1 (n, w)

      by_number : (a ≡ end) ⊎ (a ≢ end) → (flag (set seen end true) a ≡ true) ↔ IsReaching g cut a end
      by_number (inl is) = (λ _. (0, is), λ _. ap (λ (x : ℕ). flag (set seen end true) x) is ∙ flag_here seen end true within)
      by_number (inr other) = (
        λ on. (let feeds = (exact a).0 (sym (flag_there seen end a true other) ∙ on) in (suc feeds.0, feeds.1)),
        λ reaching. flag_there seen end a true other ∙ to reaching.0 other reaching.1,
      )
