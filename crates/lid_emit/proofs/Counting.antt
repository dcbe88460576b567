-- How many names begin with a prefix, and with a longer one.
use Rattle.std.proofs.Common.{◌≡◌, ◌⊎◌, ℕ, suc, ◌+◌, ◌-◌, ◌^◌, ◌<◌, ◌≤◌, ◌==◌, ◌&&◌, nat_eq, Bool, true, false, cond, List, [], ◌∷◌, ◌++◌, length, inl, inr, refl, sym, ◌∙◌, ap, subst, arith}
use Rattle.std.specs.List.{AllByRecursion, starts_with}
use Rattle.std.proofs.lemmas.Bool.{eqb-true, eq-eqb}
use Rattle.std.proofs.lemmas.List.Sums.{sum_by-cons, count_by-le-length}
use Rattle.std.proofs.lemmas.List.{length-append}
use Rattle.std.proofs.Math.Nat.{pow-succ'}
use Rattle.lid_emit_names.specs.Spelling.{IsFree}
use Rattle.lid_emit.specs.Prefixes.{IsLonger, begins_with, count_with}

-- what a slice begins with
pub starts_is : (prefix name : List ℕ) → starts_with nat_eq name prefix ≡ begins_with prefix name
starts_is [] name = refl
starts_is (b ∷ prefix) [] = refl
starts_is (b ∷ prefix) (c ∷ name) = ap (λ (later : Bool). (b == c) && later) (starts_is prefix name)

-- a name begins with a prefix that it goes on from
begins_so : (prefix rest : List ℕ) → begins_with prefix (prefix ++ rest) ≡ true
begins_so [] rest = refl
begins_so (b ∷ prefix) rest = ap (λ (first : Bool). first && begins_with prefix (prefix ++ rest)) (eq-eqb b b refl) ∙ begins_so prefix rest

abbrev pub bit : Bool → ℕ
bit b = cond b 1 0

with_test : (test a b all : Bool) → bit a + bit b ≤ bit all → bit (test && a) + bit (test && b) ≤ bit (test && all)
with_test true a b all h = h
with_test false a b all h = omega arith

-- a name goes on with one of two letters at most
one_letter : (prefix name : List ℕ) → bit (begins_with (prefix ++ 97 ∷ []) name) + bit (begins_with (prefix ++ 98 ∷ []) name) ≤ bit (begins_with prefix name)
one_letter [] [] = omega arith
one_letter [] (c ∷ name) = by (97 == c) refl (98 == c) refl
  where
    by : (a : Bool) → (97 == c) ≡ a → (b : Bool) → (98 == c) ≡ b → bit (a && true) + bit (b && true) ≤ 1
    by true e true f = absurd (let is_a = eqb-true 97 c e in let is_b = eqb-true 98 c f in omega arith)
    by true e false f = omega arith
    by false e true f = omega arith
    by false e false f = omega arith
one_letter (b ∷ prefix) [] = omega arith
one_letter (b ∷ prefix) (c ∷ name) = with_test (b == c) (begins_with (prefix ++ 97 ∷ []) name) (begins_with (prefix ++ 98 ∷ []) name) (begins_with prefix name) (one_letter prefix name)

both_letters : (prefix : List ℕ) (names : List (List ℕ)) → count_with (prefix ++ 97 ∷ []) names + count_with (prefix ++ 98 ∷ []) names ≤ count_with prefix names
both_letters prefix [] = omega arith
both_letters prefix (name ∷ names) =
    let first = one_letter prefix name in
    let later = both_letters prefix names in
    let a = sum_by-cons (λ x. bit (begins_with (prefix ++ 97 ∷ []) x)) name names in
    let b = sum_by-cons (λ x. bit (begins_with (prefix ++ 98 ∷ []) x)) name names in
    let all = sum_by-cons (λ x. bit (begins_with prefix x)) name names in
    omega arith

two_letters : (prefix a b : List ℕ) (names : List (List ℕ)) → a ≡ prefix ++ 97 ∷ [] → b ≡ prefix ++ 98 ∷ [] → count_with a names + count_with b names ≤ count_with prefix names
two_letters prefix a b names is_a is_b =
    let both = both_letters prefix names in
    let x : count_with a names ≡ count_with (prefix ++ 97 ∷ []) names = ap (λ p. count_with p names) is_a in
    let y : count_with b names ≡ count_with (prefix ++ 98 ∷ []) names = ap (λ p. count_with p names) is_b in
    omega arith

-- the letter with which fewer names go on
pub fewer_a : (prefix a b : List ℕ) (names : List (List ℕ)) → a ≡ prefix ++ 97 ∷ [] → b ≡ prefix ++ 98 ∷ [] → count_with a names ≤ count_with b names → IsLonger prefix a names
fewer_a prefix a b names is_a is_b fewer = record {
  last = 97;
  letter = inl refl;
  is = is_a;
  half = let both = two_letters prefix a b names is_a is_b in omega arith;
}

pub fewer_b : (prefix a b : List ℕ) (names : List (List ℕ)) → a ≡ prefix ++ 97 ∷ [] → b ≡ prefix ++ 98 ∷ [] → count_with b names < count_with a names → IsLonger prefix b names
fewer_b prefix a b names is_a is_b fewer = record {
  last = 98;
  letter = inr refl;
  is = is_b;
  half = let both = two_letters prefix a b names is_a is_b in omega arith;
}

-- a prefix with which no name begins
pub free_so : (prefix : List ℕ) (names : List (List ℕ)) → count_with prefix names ≡ 0 → IsFree prefix names
free_so prefix [] none name rest among is = absurd among
free_so prefix (x ∷ xs) none name rest (inl same) is =
    let all = sum_by-cons (λ x. bit (begins_with prefix x)) x xs in
    let here : bit (begins_with prefix x) ≡ 1 = ap (λ (n : List ℕ). bit (begins_with prefix n)) (sym same ∙ is) ∙ ap bit (begins_so prefix rest) in
    absurd (omega arith)
free_so prefix (x ∷ xs) none name rest (inr later) is =
    let all = sum_by-cons (λ x. bit (begins_with prefix x)) x xs in
    let none' : count_with prefix xs ≡ 0 = omega arith in
    free_so prefix xs none' name rest later is

-- a prefix of so many letters a and b, with which few names begin
pub record HasRoom (prefix : List ℕ) (n : ℕ) (names : List (List ℕ)) : Type 0 where
  pub letters : AllByRecursion (λ b. (b ≡ 97) ⊎ (b ≡ 98)) prefix
  pub long : length prefix ≡ n
  pub few : count_with prefix names < 2 ^ (15 - n)

letters_more : (prefix : List ℕ) (last : ℕ) → AllByRecursion (λ b. (b ≡ 97) ⊎ (b ≡ 98)) prefix → (last ≡ 97) ⊎ (last ≡ 98) → AllByRecursion (λ b. (b ≡ 97) ⊎ (b ≡ 98)) (prefix ++ last ∷ [])
letters_more [] last all letter = (letter, tt)
letters_more (b ∷ prefix) last all letter = (all.0, letters_more prefix last all.1 letter)

-- a letter more halves the names
pub room_more : (prefix longer : List ℕ) (n : ℕ) (names : List (List ℕ)) → n < 15 → HasRoom prefix n names → IsLonger prefix longer names → HasRoom longer (n + 1) names
room_more prefix longer n names less room more = record {
  letters = subst (AllByRecursion (λ b. (b ≡ 97) ⊎ (b ≡ 98))) (sym more.is) (letters_more prefix more.last room.letters more.letter);
  long = ap length more.is ∙ length-append prefix (more.last ∷ []) ∙ ap (λ (m : ℕ). m + 1) room.long;
  few =
      let left : 15 - n ≡ suc (15 - (n + 1)) = omega arith in
      let power : 2 ^ (15 - n) ≡ 2 ^ suc (15 - (n + 1)) = ap (λ (m : ℕ). 2 ^ m) left in
      omega (arith, pow-succ' 2 (15 - (n + 1)), room.few, more.half);
}

-- no letter yet
pub room_first : (names : List (List ℕ)) → length names < 32768 → HasRoom [] 0 names
room_first names few = record {
  letters = tt;
  long = refl;
  few = omega (arith, count_by-le-length (begins_with []) names);
}
