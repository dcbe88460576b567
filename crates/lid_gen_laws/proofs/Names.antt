-- The nets of a generated root have different names.
use Rattle.std.proofs.Common.{◌≡◌, ◌⊎◌, ℕ, zero, suc, ◌+◌, ◌-◌, ◌/◌, ◌%◌, ◌^◌, ◌<◌, ◌≤◌, ◌==◌, nat_lt, Bool, true, false, cond, List, [], ◌∷◌, ◌++◌, length, inl, inr, refl, sym, ◌∙◌, ap, subst, arith, length-append}
use Rattle.std.specs.Fmt.{decimal}
use Rattle.std.proofs.lemmas.Fmt.{decimal_injective}
use Rattle.std.specs.List.{AllByRecursion, IsDistinct}
use Rattle.std.specs.Str.{bytes_eq}
use Rattle.std.proofs.lemmas.Bool.{ltb-true, ltb-false}
use Rattle.lid_base.specs.Lists.{Among}
use Rattle.lid_base.proofs.Lists.{among_left, among_right}
use Rattle.lid_base.specs.Each.{from_each}
use Rattle.lid_gen.specs.Designs.{input_name, output_name, shell_net, letter_of, net_at, count_places}
use Rattle.lid_gen_laws.proofs.Each.{each_among, among_each, apart, all_apart, distinct_join}

-- the first byte of a name
abbrev pub first : List ℕ → ℕ
first [] = 0
first (b ∷ bs) = b

-- lists that are the same but for their last two items are as long
last_two : (xs ys : List ℕ) (a b : ℕ) → xs ++ 95 ∷ a ∷ [] ≡ ys ++ 95 ∷ b ∷ [] → (xs ≡ ys) × (a ≡ b)
last_two [] [] a b h = (refl, ap (λ (bs : List ℕ). second bs) h)
  where
    second : List ℕ → ℕ
    second [] = 0
    second (x ∷ []) = 0
    second (x ∷ y ∷ bs) = y
last_two [] (y ∷ ys) a b h = absurd (let e = ap length h in let f = length-append (y ∷ ys) (95 ∷ b ∷ []) in omega arith)
last_two (x ∷ xs) [] a b h = absurd (let e = ap length h in let f = length-append (x ∷ xs) (95 ∷ a ∷ []) in omega arith)
last_two (x ∷ xs) (y ∷ ys) a b h =
    let later = last_two xs ys a b (let e : x ∷ (xs ++ 95 ∷ a ∷ []) ≡ y ∷ (ys ++ 95 ∷ b ∷ []) = h in cc) in
    let head : x ≡ y = (let e : x ∷ (xs ++ 95 ∷ a ∷ []) ≡ y ∷ (ys ++ 95 ∷ b ∷ []) = h in cc) in
    let tail = later.0 in
    (cc, later.1)

pub net_one : (i j a b : ℕ) → i < 2 ^ 64 → j < 2 ^ 64 → shell_net i a ≡ shell_net j b → (i ≡ j) × (a ≡ b)
net_one i j a b few fewer h =
    let both = last_two (110 ∷ decimal i) (110 ∷ decimal j) a b h in
    let e : 110 ∷ decimal i ≡ 110 ∷ decimal j = both.0 in
    let digits : decimal i ≡ decimal j = cc in
    (decimal_injective i j few fewer digits, both.1)

-- the outputs of so many shells from one on
abbrev pub outs : ℕ → ℕ → List (List ℕ)
outs k zero = []
outs k (suc n) = shell_net k 113 ∷ shell_net k 114 ∷ outs (k + 1) n

pub record IsOut (k n : ℕ) (name : List ℕ) : Type 0 where
  pub shell : ℕ
  pub letter : ℕ
  pub from : k ≤ shell
  pub below : shell < k + n
  pub is : name ≡ shell_net shell letter

pub is_out : (k n : ℕ) (name : List ℕ) → Among name (outs k n) → IsOut k n name
is_out k zero name among = absurd among
is_out k (suc n) name (inl is) = record { shell = k; letter = 113; from = omega arith; below = omega arith; is = is }
is_out k (suc n) name (inr (inl is)) = record { shell = k; letter = 114; from = omega arith; below = omega arith; is = is }
is_out k (suc n) name (inr (inr later)) =
    let found = is_out (k + 1) n name later in
    record { shell = found.shell; letter = found.letter; from = omega (arith, found.from); below = omega (arith, found.below); is = found.is }

outs_have : (k n i : ℕ) → i < n → Among (shell_net (k + i) 113) (outs k n) × Among (shell_net (k + i) 114) (outs k n)
outs_have k zero i less = absurd (omega (arith, less))
outs_have k (suc n) zero less =
    let e : k + 0 ≡ k = omega arith in
    (inl (ap (λ (m : ℕ). shell_net m 113) e), inr (inl (ap (λ (m : ℕ). shell_net m 114) e)))
outs_have k (suc n) (suc i) less =
    let e : (k + 1) + i ≡ k + suc i = omega arith in
    let later = outs_have (k + 1) n i (omega (arith, less)) in
    (inr (inr (subst (λ (m : ℕ). Among (shell_net m 113) (outs (k + 1) n)) e later.0)), inr (inr (subst (λ (m : ℕ). Among (shell_net m 114) (outs (k + 1) n)) e later.1)))

pub out_q : (n i : ℕ) → i < n → Among (shell_net i 113) (outs 0 n)
out_q n i less = let e : 0 + i ≡ i = omega arith in subst (λ (m : ℕ). Among (shell_net m 113) (outs 0 n)) e (outs_have 0 n i less).0

pub out_r : (n i : ℕ) → i < n → Among (shell_net i 114) (outs 0 n)
out_r n i less = let e : 0 + i ≡ i = omega arith in subst (λ (m : ℕ). Among (shell_net m 114) (outs 0 n)) e (outs_have 0 n i less).1

pub outs_distinct : (k n : ℕ) → k + n ≤ 2000 → IsDistinct bytes_eq (outs k n)
unfolding IsDistinct
outs_distinct k zero few = tt
outs_distinct k (suc n) few =
    ((apart (shell_net k 113) (shell_net k 114) letters, later 113), (later 114, outs_distinct (k + 1) n (omega (arith, few))))
  where
    letters : shell_net k 113 ≡ shell_net k 114 → ⊥
    letters h = absurd (let e = (net_one k k 113 114 (omega (arith, few)) (omega (arith, few)) h).1 in omega (arith, e))

    later : (letter : ℕ) → AllByRecursion (λ y. bytes_eq (shell_net k letter) y ≡ false) (outs (k + 1) n)
    later letter = all_apart (shell_net k letter) (outs (k + 1) n) (λ y among h.
        let found = is_out (k + 1) n y among in
        let same = (net_one k found.shell letter found.letter (omega (arith, few)) (omega (arith, few, found.below)) (h ∙ found.is)).0 in
        absurd (omega (arith, found.from, same)))

inputs_distinct : IsDistinct bytes_eq (from_each input_name 0 4)
unfolding IsDistinct
inputs_distinct = ((refl, (refl, (refl, tt))), ((refl, (refl, tt)), ((refl, tt), (tt, tt))))

pub outputs_distinct : IsDistinct bytes_eq (from_each output_name 0 4)
unfolding IsDistinct
outputs_distinct = ((refl, (refl, (refl, tt))), ((refl, (refl, tt)), ((refl, tt), (tt, tt))))

-- what the root drives: its inputs, its outputs, and the outputs of its shells
abbrev pub drives : ℕ → List (List ℕ)
drives n = from_each input_name 0 4 ++ from_each output_name 0 4 ++ outs 0 n

pub drives_distinct : (n : ℕ) → n ≤ 2000 → IsDistinct bytes_eq (drives n)
drives_distinct n few =
    distinct_join (from_each input_name 0 4 ++ from_each output_name 0 4) (outs 0 n) (distinct_join (from_each input_name 0 4) (from_each output_name 0 4) inputs_distinct outputs_distinct (λ x y here there h.
    let input = each_among input_name 4 x here in
    let output = each_among output_name 4 y there in
    let e : 120 ≡ 121 = ap first (sym input.2 ∙ h ∙ output.2) in
    absurd (omega (arith, e)))) (outs_distinct 0 n (omega (arith, few))) (λ x y here there h.
    let out = is_out 0 n y there in
    ports x out.shell out.letter here (h ∙ out.is))
  where
    ports : (x : List ℕ) (i letter : ℕ) → Among x (from_each input_name 0 4 ++ from_each output_name 0 4) → x ≡ shell_net i letter → ⊥
    ports x i letter among h = elim (of x among) [ inl e ↦ (let f : 120 ≡ 110 = sym e ∙ ap first h in absurd (omega (arith, f))) | inr e ↦ (let f : 121 ≡ 110 = sym e ∙ ap first h in absurd (omega (arith, f))) ]
      where
        of : (x : List ℕ) → Among x (from_each input_name 0 4 ++ from_each output_name 0 4) → (first x ≡ 120) ⊎ (first x ≡ 121)
        of x (inl is) = inl (ap first is)
        of x (inr (inl is)) = inl (ap first is)
        of x (inr (inr (inl is))) = inl (ap first is)
        of x (inr (inr (inr (inl is)))) = inl (ap first is)
        of x (inr (inr (inr (inr (inl is))))) = inr (ap first is)
        of x (inr (inr (inr (inr (inr (inl is)))))) = inr (ap first is)
        of x (inr (inr (inr (inr (inr (inr (inl is))))))) = inr (ap first is)
        of x (inr (inr (inr (inr (inr (inr (inr (inl is)))))))) = inr (ap first is)
        of x (inr (inr (inr (inr (inr (inr (inr (inr none)))))))) = absurd none

pub letter_cases : (b : Bool) → (◌≡◌ {A = ℕ} (cond b 113 114) 113) ⊎ (◌≡◌ {A = ℕ} (cond b 113 114) 114)
letter_cases true = inl refl
letter_cases false = inr refl

-- each place of the list of nets has a net that is driven
pub net_driven : (n place : ℕ) → place < count_places n → Among (net_at place) (drives n)
net_driven n place few = by (nat_lt place 4) refl
  where
    ports : List (List ℕ)
    ports = from_each input_name 0 4 ++ from_each output_name 0 4

    by : (b : Bool) → nat_lt place 4 ≡ b → Among (cond b (input_name place) (shell_net ((place - 4) / 2) (letter_of ((place - 4) % 2)))) (drives n)
    by true e = among_left (input_name place) ports (outs 0 n) (among_left (input_name place) (from_each input_name 0 4) (from_each output_name 0 4) (among_each input_name 4 place (ltb-true place 4 e)))
    by false e =
        let least = ltb-false place 4 e in
        let i = (place - 4) / 2 in
        let less : i < n = omega (arith, few, least) in
        let letter = letter_of ((place - 4) % 2) in
        among_right (shell_net i letter) ports (outs 0 n) (elim (letter_cases ((place - 4) % 2 == 0)) [ inl q ↦ subst (λ (l : ℕ). Among (shell_net i l) (outs 0 n)) (sym q) (out_q n i less) | inr r ↦ subst (λ (l : ℕ). Among (shell_net i l) (outs 0 n)) (sym r) (out_r n i less) ])

pub shell_driven : (n i : ℕ) → i < n → Among (shell_net i 113) (drives n) × Among (shell_net i 114) (drives n)
shell_driven n i less =
    let ports = from_each input_name 0 4 ++ from_each output_name 0 4 in
    (among_right (shell_net i 113) ports (outs 0 n) (out_q n i less), among_right (shell_net i 114) ports (outs 0 n) (out_r n i less))
