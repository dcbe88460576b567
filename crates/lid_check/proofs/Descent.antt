-- What never leads back to itself among finitely many ends.
use Rattle.std.proofs.Common.{◌≡◌, ◌⊎◌, ℕ, zero, suc, ◌<◌, ◌≤◌, List, [], ◌∷◌, length, inl, inr, refl, sym, ◌∙◌, ap, subst, arith}
use Rattle.lid_base.specs.Lists.{Among}
use Rattle.lid_design.specs.Network.{Driver}
use Rattle.lid_design.specs.Walks.{WalksEnd, IsDriven}
use Rattle.lid_design.specs.Feeds.{Feeds, EdgesLead}

-- a list without one of its items
pub record Without {A : Type 0} (x : A) (xs : List A) : Type 0 where
  pub rest : List A
  pub long : length xs ≡ suc (length rest)
  pub others : (y : A) → Among y xs → (y ≡ x) ⊎ Among y rest

with_first : {A : Type 0} (x y : A) (ys : List A) → Without x ys → Without x (y ∷ ys)
with_first {A} x y ys found = record { rest = y ∷ found.rest; long = ap suc found.long; others = by }
  where
    move : (z : A) → (z ≡ x) ⊎ Among z found.rest → (z ≡ x) ⊎ Among z (y ∷ found.rest)
    move z (inl e) = inl e
    move z (inr among) = inr (inr among)

    by : (z : A) → Among z (y ∷ ys) → (z ≡ x) ⊎ Among z (y ∷ found.rest)
    by z (inl e) = inr (inl e)
    by z (inr among) = move z (found.others z among)

pub without : {A : Type 0} (x : A) (xs : List A) → Among x xs → Without x xs
without x [] none = absurd none
without {A} x (y ∷ ys) (inl same) = record { rest = ys; long = refl; others = by }
  where
    by : (z : A) → Among z (y ∷ ys) → (z ≡ x) ⊎ Among z ys
    by z (inl e) = inl (e ∙ sym same)
    by z (inr later) = inr later
without x (y ∷ ys) (inr later) = with_first x y ys (without x ys later)

module _ {C : Type 0} (drivers : C → List (Driver C)) where
  -- one or more edges lead from a to c
  abbrev pub Leads : C → C → Type 0
  Leads a c = (n : ℕ) × EdgesLead drivers (suc n) a c

  -- an edge before a walk
  edge_before : (n : ℕ) (a b c : C) → Feeds drivers a b → EdgesLead drivers n b c → EdgesLead drivers (suc n) a c
  edge_before zero a b c edge w = (a, refl, subst (λ (x : C). Feeds drivers a x) w edge)
  edge_before (suc n) a b c edge w = (w.0, edge_before n a b w.0 edge w.1, w.2)

  leads_on : (b c x : C) → Feeds drivers b c → Leads c x → Leads b x
  leads_on b c x edge (n, w) = (suc n, edge_before (suc n) b c x edge w)

  one_edge : (b c x : C) → Feeds drivers b c → x ≡ c → Leads b x
  one_edge b c x edge same = (zero, (b, refl, subst (λ (y : C). Feeds drivers b y) (sym same) edge))

  some_driver : (s : Driver C) (ss : List (Driver C)) → Among s ss → 0 < length ss
  some_driver s [] among = absurd among
  some_driver s (t ∷ ss) among = omega arith

  pub fed_driven : (a c : C) → Feeds drivers a c → IsDriven drivers c
  fed_driven a c feeds = some_driver feeds.0 (drivers c) feeds.1

  -- where c leads to each driven column but those of a list
  abbrev Covers : C → List C → Type 0
  Covers c rest = (x : C) → IsDriven drivers x → Leads c x ⊎ Among x rest

  step_covers : (b c : C) (rest others : List C) → Feeds drivers b c → Covers c rest → ((y : C) → Among y rest → (y ≡ c) ⊎ Among y others) → Covers b others
  step_covers b c rest others edge cover split x driven = by (cover x driven)
    where
      at : (x ≡ c) ⊎ Among x others → Leads b x ⊎ Among x others
      at (inl same) = inl (one_edge b c x edge same)
      at (inr among) = inr among

      by : Leads c x ⊎ Among x rest → Leads b x ⊎ Among x others
      by (inl leads) = inl (leads_on b c x edge leads)
      by (inr among) = at (split x among)

  no_walk : ((c : C) → Leads c c → ⊥) → (n : ℕ) (rest : List C) → length rest ≤ n → (c : C) → Covers c rest → (a : C) → EdgesLead drivers (suc n) a c → ⊥
  no_walk none zero rest few c cover a w = by (cover c (fed_driven w.0 c w.2))
    where
      by : Leads c c ⊎ Among c rest → ⊥
      by (inl loop) = none c loop
      by (inr among) = let found = without c rest among in let long = found.long in absurd (omega arith)
  no_walk none (suc n) rest few c cover a w = by (cover c (fed_driven w.0 c w.2)) (λ others less covers. no_walk none n others less w.0 covers a w.1)
    where
      by : Leads c c ⊎ Among c rest → ((others : List C) → length others ≤ n → Covers w.0 others → ⊥) → ⊥
      by (inl loop) next = none c loop
      by (inr among) next =
          let found = without c rest among in
          let long = found.long in
          next found.rest (omega arith) (step_covers w.0 c rest found.rest w.2 cover found.others)

  -- where no walk is closed, none has more edges than there are driven columns
  pub walks_end : ((c : C) → Leads c c → ⊥) → (all : List C) → ((c : C) → IsDriven drivers c → Among c all) → WalksEnd drivers (suc (length all))
  walks_end none all driven c a w = no_walk none (length all) all (omega arith) c (λ x is. inr (driven x is)) a w
