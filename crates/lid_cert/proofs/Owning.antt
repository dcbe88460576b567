-- Which part owns a transition, and what the edges say then.
use Rattle.std.proofs.Common.{◌≡◌, ℕ, zero, suc, ◌+◌, ◌<◌, ◌≤◌, ◌≢◌, ◌==◌, ◌⊎◌, inl, inr, Bool, true, false, cond, List, [], ◌∷◌, length, get_or, set, map, replicate, Option, Some, None, is_some, refl, sym, ◌∙◌, ap, subst, arith}
use Rattle.std.specs.List.{All, count_by}
use Rattle.std.specs.Option.{MatchOption}
use Rattle.std.proofs.lemmas.Bool.{cases_eq, cases_lt, eq-eqb}
use Rattle.std.proofs.lemmas.Option.{same_Some}
use Rattle.std.proofs.lemmas.List.{get_or-set_same, get_or-set_other, length-set, get_or_past, get_or_default, get_or-replicate, length-replicate}
use Rattle.std.proofs.lemmas.List.Sums.{sum_by-cons}
use Rattle.lid_base.proofs.Cutting.{position_none}
use Rattle.lid_graph.specs.declared.graph.Edge.{Edge}
use Rattle.lid_graph.specs.declared.graph.Graph.{Graph}
use Rattle.lid_cert.specs.declared.cert.Part.{Part}
use Rattle.lid_cert.specs.declared.cert.Cert.{Cert}
use Rattle.lid_cert.specs.Certificates.{place_in, has_node, least_node, ascends, IsEdgeMet, IsPart, Certifies, part_at, no_part}
use Rattle.lid_cert.specs.Owners.{owner_of, Claims, Owns, IsEdgeOwned, AreOwned}
use Rattle.lid_cert.proofs.Parts.{placed}

abbrev bit : Bool → ℕ
bit b = cond b 1 0

-- nothing is both
some_none : (o : Option ℕ) (j : ℕ) → o ≡ Some j → o ≡ None → ⊥
some_none o j a b = cc

other_places : (part : Part) (v : ℕ) → has_node part v ≡ false → (i : ℕ) → i < length part.nodes → get_or part.nodes i 0 ≢ v
other_places part v none i h is = by_place (place_in part v) refl none
  where
    by_place : (o : Option ℕ) → place_in part v ≡ o → is_some o ≡ false → ⊥
    by_place None e nobody =
        let fails : (get_or part.nodes i 0 == v) ≡ false = position_none (λ n. n == v) part.nodes (sym e) i 0 h in
        let passes : (get_or part.nodes i 0 == v) ≡ true = eq-eqb (get_or part.nodes i 0) v is in
        cc
    by_place (Some k) e nobody = cc

claims_keep : (number : ℕ) (nodes : List ℕ) (before after : List (Option ℕ)) → Claims number before nodes after → (v j : ℕ) → owner_of before v ≡ Some j → owner_of after v ≡ Some j
claims_keep number [] before after claims v j is = ap (λ (l : List (Option ℕ)). get_or l v None) claims ∙ is
claims_keep number (x ∷ xs) before after claims v j is = claims_keep number xs (set before x (Some number)) after claims.2 v j (by_place (cases_eq v x))
  where
    by_place : (v ≡ x) ⊎ (v ≢ x) → owner_of (set before x (Some number)) v ≡ Some j
    by_place (inl same) = absurd (some_none (owner_of before v) j is (ap (λ (n : ℕ). get_or before n None) same ∙ claims.1))
    by_place (inr other) = get_or-set_other before x v (Some number) None other ∙ is

claims_at : (number : ℕ) (nodes : List ℕ) (before after : List (Option ℕ)) → Claims number before nodes after → (i : ℕ) → i < length nodes → (owner_of before (get_or nodes i 0) ≡ None) × (owner_of after (get_or nodes i 0) ≡ Some number)
claims_at number [] before after claims i h = absurd (omega arith)
claims_at number (x ∷ xs) before after claims zero h = (claims.1, claims_keep number xs (set before x (Some number)) after claims.2 x number (get_or-set_same before x (Some number) None claims.0))
claims_at number (x ∷ xs) before after claims (suc i) h =
    let later = claims_at number xs (set before x (Some number)) after claims.2 i (omega arith) in
    (by_place (get_or xs i 0) later.0 (cases_eq (get_or xs i 0) x), later.1)
  where
    by_place : (v : ℕ) → owner_of (set before x (Some number)) v ≡ None → (v ≡ x) ⊎ (v ≢ x) → owner_of before v ≡ None
    by_place v none (inl same) =
        let here : owner_of (set before x (Some number)) v ≡ Some number = ap (λ (n : ℕ). get_or (set before x (Some number)) n None) same ∙ get_or-set_same before x (Some number) None claims.0 in
        absurd (some_none (owner_of (set before x (Some number)) v) number here none)
    by_place v none (inr other) = sym (get_or-set_other before x v (Some number) None other) ∙ none

claims_other : (number : ℕ) (nodes : List ℕ) (before after : List (Option ℕ)) → Claims number before nodes after → (v : ℕ) → ((i : ℕ) → i < length nodes → get_or nodes i 0 ≢ v) → owner_of after v ≡ owner_of before v
claims_other number [] before after claims v others = ap (λ (l : List (Option ℕ)). get_or l v None) claims
claims_other number (x ∷ xs) before after claims v others =
    claims_other number xs (set before x (Some number)) after claims.2 v (λ i h. others (suc i) (omega arith))
    ∙ get_or-set_other before x v (Some number) None (λ same. others 0 (omega arith) (sym same))

claims_long : (number : ℕ) (nodes : List ℕ) (before after : List (Option ℕ)) → Claims number before nodes after → length after ≡ length before
claims_long number [] before after claims = ap length claims
claims_long number (x ∷ xs) before after claims = claims_long number xs (set before x (Some number)) after claims.2 ∙ length-set before x (Some number)

-- where a part has a transition, no part owned it, and the part owns it now
claims_node : (number : ℕ) (part : Part) (before after : List (Option ℕ)) → Claims number before part.nodes after → (v : ℕ) → has_node part v ≡ true → (owner_of before v ≡ None) × (owner_of after v ≡ Some number)
claims_node number part before after claims v has =
    let at = placed part v has in
    let both = claims_at number part.nodes before after claims at.place at.within in
    (ap (λ (n : ℕ). get_or before n None) (sym (at.node 0)) ∙ both.0, ap (λ (n : ℕ). get_or after n None) (sym (at.node 0)) ∙ both.1)

owns_keep : (parts : List Part) (number : ℕ) (before after : List (Option ℕ)) → Owns number before parts after → (v j : ℕ) → owner_of before v ≡ Some j → owner_of after v ≡ Some j
owns_keep [] number before after owns v j is = ap (λ (l : List (Option ℕ)). get_or l v None) owns ∙ is
owns_keep (part ∷ parts) number before after owns v j is = owns_keep parts (number + 1) owns.0 after owns.2 v j (claims_keep number part.nodes before owns.0 owns.1 v j is)

owns_long : (parts : List Part) (number : ℕ) (before after : List (Option ℕ)) → Owns number before parts after → length after ≡ length before
owns_long [] number before after owns = ap length owns
owns_long (part ∷ parts) number before after owns = owns_long parts (number + 1) owns.0 after owns.2 ∙ claims_long number part.nodes before owns.0 owns.1

-- the part that has a transition owns it
owns_at : (parts : List Part) (number : ℕ) (before after : List (Option ℕ)) → Owns number before parts after → (i v : ℕ) → i < length parts → has_node (part_at parts i) v ≡ true → owner_of after v ≡ Some (number + i)
owns_at [] number before after owns i v h has = absurd (omega arith)
owns_at (part ∷ parts) number before after owns zero v h has =
    let now : owner_of owns.0 v ≡ Some number = (claims_node number part before owns.0 owns.1 v has).1 in
    owns_keep parts (number + 1) owns.0 after owns.2 v number now ∙ ap Some (let e : number ≡ number + 0 = omega arith in e)
owns_at (part ∷ parts) number before after owns (suc i) v h has =
    owns_at parts (number + 1) owns.0 after owns.2 i v (omega arith) has ∙ ap Some (let e : number + 1 + i ≡ number + suc i = omega arith in e)

-- the owner of a transition has it
owns_from : (parts : List Part) (number : ℕ) (before after : List (Option ℕ)) → Owns number before parts after → (v j : ℕ) → owner_of after v ≡ Some j → (owner_of before v ≡ Some j) ⊎ (i : ℕ) × (i < length parts) × (j ≡ number + i) × (has_node (part_at parts i) v ≡ true)
owns_from [] number before after owns v j is = inl (ap (λ (l : List (Option ℕ)). get_or l v None) (sym owns) ∙ is)
owns_from (part ∷ parts) number before after owns v j is = by_later (owns_from parts (number + 1) owns.0 after owns.2 v j is) (has_node part v) refl
  where
    by_later : (owner_of owns.0 v ≡ Some j) ⊎ (i : ℕ) × (i < length parts) × (j ≡ number + 1 + i) × (has_node (part_at parts i) v ≡ true) → (b : Bool) → has_node part v ≡ b → (owner_of before v ≡ Some j) ⊎ (i : ℕ) × (i < length (part ∷ parts)) × (j ≡ number + i) × (has_node (part_at (part ∷ parts) i) v ≡ true)
    by_later (inr at) b e = inr (suc at.0, omega (arith, at.1), omega (arith, at.2), at.3)
    by_later (inl now) true e =
        let own : number ≡ j = same_Some number j (sym ((claims_node number part before owns.0 owns.1 v e).1) ∙ now) in
        inr (0, omega arith, omega arith, e)
    by_later (inl now) false e = inl (sym (claims_other number part.nodes before owns.0 owns.1 v (other_places part v e)) ∙ now)

owns_count : (parts : List Part) (number : ℕ) (before after : List (Option ℕ)) → Owns number before parts after → (v : ℕ) → bit (is_some (owner_of before v)) + count_by (λ part. has_node part v) parts ≡ bit (is_some (owner_of after v))
owns_count [] number before after owns v =
    let same : bit (is_some (owner_of after v)) ≡ bit (is_some (owner_of before v)) = ap (λ (l : List (Option ℕ)). bit (is_some (get_or l v None))) owns in
    omega arith
owns_count (part ∷ parts) number before after owns v =
    let later = owns_count parts (number + 1) owns.0 after owns.2 v in
    let sums : count_by (λ x. has_node x v) (part ∷ parts) ≡ bit (has_node part v) + count_by (λ x. has_node x v) parts = sum_by-cons (λ (x : Part). bit (has_node x v)) part parts in
    let here = by_has (has_node part v) refl in
    omega arith
  where
    by_has : (b : Bool) → has_node part v ≡ b → bit (is_some (owner_of before v)) + bit (has_node part v) ≡ bit (is_some (owner_of owns.0 v))
    by_has true e = let both = claims_node number part before owns.0 owns.1 v e in rw (both.0, both.1, e) refl
    by_has false e = let same = claims_other number part.nodes before owns.0 owns.1 v (other_places part v e) in rw (same, e) (omega arith)

abbrev none_owner : Option ℕ
none_owner = None

replicate_long : (n : ℕ) → length (replicate n none_owner) ≤ n
replicate_long n = let l : length (replicate n none_owner) ≡ n = length-replicate n none_owner in omega arith

module _ (g : Graph) (parts : List Part) (owners : List (Option ℕ)) (owns : Owns 0 (replicate g.nodes None) parts owners) where
  none_first : (v : ℕ) → owner_of (replicate g.nodes None) v ≡ None
  none_first v = by_order (cases_lt v g.nodes)
    where
      by_order : (v < g.nodes) ⊎ (g.nodes ≤ v) → owner_of (replicate g.nodes None) v ≡ None
      by_order (inl h) = get_or-replicate g.nodes v None None h
      by_order (inr h) = get_or_past (replicate g.nodes None) v None (let l = replicate_long g.nodes in omega arith)

  pub long : length owners ≡ g.nodes
  long = owns_long parts 0 (replicate g.nodes None) owners owns ∙ length-replicate g.nodes None

  owner_has : (v j : ℕ) → owner_of owners v ≡ Some j → (j < length parts) × (has_node (part_at parts j) v ≡ true)
  owner_has v j is = by_case (owns_from parts 0 (replicate g.nodes None) owners owns v j is)
    where
      by_case : (owner_of (replicate g.nodes None) v ≡ Some j) ⊎ (i : ℕ) × (i < length parts) × (j ≡ 0 + i) × (has_node (part_at parts i) v ≡ true) → (j < length parts) × (has_node (part_at parts j) v ≡ true)
      by_case (inl first) = absurd (some_none (owner_of (replicate g.nodes None) v) j first (none_first v))
      by_case (inr at) = let same : at.0 ≡ j = omega (arith, at.2) in (omega (arith, at.1), subst (λ (n : ℕ). has_node (part_at parts n) v ≡ true) same at.3)

  pub owner_within : (v j : ℕ) → owner_of owners v ≡ Some j → j < length parts
  owner_within v j is = (owner_has v j is).0

  alone : (j v : ℕ) → j < length parts → has_node (part_at parts j) v ≡ true → owner_of owners v ≡ Some j
  alone j v h has = owns_at parts 0 (replicate g.nodes None) owners owns j v h has ∙ ap Some (let e : 0 + j ≡ j = omega arith in e)

  pub counted : (v : ℕ) → count_by (λ part. has_node part v) parts ≡ bit (is_some (owner_of owners v))
  counted v =
      let sums = owns_count parts 0 (replicate g.nodes None) owners owns v in
      let none : bit (is_some (owner_of (replicate g.nodes None) v)) ≡ 0 = ap (λ (o : Option ℕ). bit (is_some o)) (none_first v) in
      omega arith

  has_not : (j v : ℕ) → (has_node (part_at parts j) v ≡ true → ⊥) → has_node (part_at parts j) v ≡ false
  has_not j v never = by_has (has_node (part_at parts j) v) refl
    where
      by_has : (b : Bool) → has_node (part_at parts j) v ≡ b → has_node (part_at parts j) v ≡ false
      by_has true e = absurd (never e)
      by_has false e = e

  outside : (j : ℕ) (e : Edge) → has_node (part_at parts j) e.from ≡ false → has_node (part_at parts j) e.to ≡ false → IsEdgeMet (part_at parts j) e
  outside j e from to = record { stays = from ∙ sym to; lag = λ has. absurd (cc) }

  -- an edge that is owned meets the rule of each part
  met : (j : ℕ) (e : Edge) → j < length parts → IsEdgeOwned parts owners e → IsEdgeMet (part_at parts j) e
  met j e h owned = by_owner (owner_of owners e.from) refl owned
    where
      by_owner : (o : Option ℕ) → owner_of owners e.from ≡ o → MatchOption o (owner_of owners e.to ≡ None) (λ number. IsEdgeMet (part_at parts number) e) → IsEdgeMet (part_at parts j) e
      by_owner None none to =
          outside j e
          (has_not j e.from (λ has. some_none (owner_of owners e.from) j (alone j e.from h has) none))
          (has_not j e.to (λ has. some_none (owner_of owners e.to) j (alone j e.to h has) to))
      by_owner (Some i) is meets = by_number (cases_eq i j)
        where
          by_number : (i ≡ j) ⊎ (i ≢ j) → IsEdgeMet (part_at parts j) e
          by_number (inl same) = subst (λ (n : ℕ). IsEdgeMet (part_at parts n) e) same meets
          by_number (inr other) =
              let own = owner_has e.from i is in
              let to_own : owner_of owners e.to ≡ Some i = alone i e.to own.0 (sym meets.stays ∙ own.1) in
              outside j e
              (has_not j e.from (λ has. other (same_Some i j (sym is ∙ alone j e.from h has))))
              (has_not j e.to (λ has. other (same_Some i j (sym to_own ∙ alone j e.to h has))))

  -- an edge that meets the rule of each part is owned
  owned_by : (e : Edge) → ((j : ℕ) → j < length parts → IsEdgeMet (part_at parts j) e) → IsEdgeOwned parts owners e
  owned_by e meets = by_owner (owner_of owners e.from) refl
    where
      by_owner : (o : Option ℕ) → owner_of owners e.from ≡ o → MatchOption o (owner_of owners e.to ≡ None) (λ number. IsEdgeMet (part_at parts number) e)
      by_owner (Some i) is = meets i (owner_within e.from i is)
      by_owner None none = by_end (owner_of owners e.to) refl
        where
          by_end : (o : Option ℕ) → owner_of owners e.to ≡ o → owner_of owners e.to ≡ None
          by_end None is = is
          by_end (Some i) is =
              let own = owner_has e.to i is in
              absurd (some_none (owner_of owners e.from) i (alone i e.from own.0 ((meets i own.0).stays ∙ own.1)) none)

  each_met : AreOwned g parts owners → All (IsPart g) parts
  each_met owned k d h = record {
    inside = owned.inside k d h;
    edges = λ i e l. subst (λ (part : Part). IsEdgeMet part (get_or g.edges i e)) (get_or_default parts k no_part d h) (met k (get_or g.edges i e) h (owned.edges i e l));
  }

  pub certifies_of : (cert : Cert) → parts ≡ cert.parts → AreOwned g parts owners → Certifies g cert
  certifies_of cert is owned = record {
    some = subst (λ (l : List Part). 1 ≤ length l) is owned.some;
    parts = subst (All (IsPart g)) is (each_met owned);
    once = λ v h. subst (λ (l : List Part). count_by (λ part. has_node part v) l ≡ 1) is (counted v ∙ ap bit (owned.owned v None (let l = long in omega arith)));
    ascending = ap (λ (l : List Part). ascends (map least_node l)) (sym is) ∙ owned.ascending;
  }

  pub owned_of : (cert : Cert) → parts ≡ cert.parts → Certifies g cert → AreOwned g parts owners
  owned_of cert is certifies =
      let all : All (IsPart g) parts = subst (All (IsPart g)) (sym is) certifies.parts in
      record {
        some = subst (λ (l : List Part). 1 ≤ length l) (sym is) certifies.some;
        inside = λ k d h. (all k d h).inside;
        ascending = ap (λ (l : List Part). ascends (map least_node l)) is ∙ certifies.ascending;
        owned = λ v d h. by_owner v (get_or owners v d) (get_or_default owners v None d h) (sym (counted v) ∙ subst (λ (l : List Part). count_by (λ part. has_node part v) l ≡ 1) (sym is) (certifies.once v (let l = long in omega arith)));
        edges = λ i e l. owned_by (get_or g.edges i e) (λ j h. (all j no_part h).edges i e l);
      }
    where
      by_owner : (v : ℕ) (o : Option ℕ) → get_or owners v None ≡ o → bit (is_some (owner_of owners v)) ≡ 1 → is_some o ≡ true
      by_owner v None none one = let zero_is : bit (is_some (owner_of owners v)) ≡ 0 = ap (λ (o : Option ℕ). bit (is_some o)) none in absurd (omega arith)
      by_owner v (Some j) e one = refl
