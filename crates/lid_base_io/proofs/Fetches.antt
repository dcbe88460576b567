-- A file that is fetched piece by piece.
use Rattle.std.proofs.Common.{◌≡◌, ◌⊎◌, ℕ, zero, suc, ◌+◌, ◌-◌, ◌<◌, ◌≤◌, nat_lt, Bool, true, false, List, [], ◌∷◌, ◌++◌, length, take, drop, min, Option, Some, None, inl, inr, refl, sym, ◌∙◌, ap, subst, arith}
use Rattle.std.specs.Option.{IfSome}
use Rattle.std.proofs.Math.Seq.{take-add}
use Rattle.std.proofs.lemmas.Bool.{ltb-true, ltb-false}
use Rattle.std.proofs.lemmas.List.{take_all}
use Rattle.lid_base_io.specs.Transfer.{FetchedNext}

pub below_or_not : (k n : ℕ) → (k < n) ⊎ (n ≤ k)
below_or_not k n = by (nat_lt k n) refl
  where
    by : (b : Bool) → nat_lt k n ≡ b → (k < n) ⊎ (n ≤ k)
    by true e = inl (ltb-true k n e)
    by false e = inr (ltb-false k n e)

-- where the file's bytes are told, these are its first
pub record IsFront (bytes file : List ℕ) : Type 0 where
  pub front : bytes ≡ take (length bytes) file

abbrev pub IsStart : Option (List ℕ) → List ℕ → Type 0
IsStart held bytes = IfSome held (IsFront bytes)

pub start_begins : (held : Option (List ℕ)) → IsStart held []
start_begins None = tt
start_begins (Some file) = record { front = refl }

-- the first bytes are as many as they are
take_front : (n : ℕ) (file : List ℕ) → take n file ≡ take (length (take n file)) file
take_front zero file = refl
take_front (suc n) [] = refl
take_front (suc n) (b ∷ file) = ap (λ l. b ∷ l) (take_front n file)

pub front_more : (file old new : List ℕ) (room : ℕ) → IsFront old file → new ≡ old ++ take room (drop (length old) file) → IsFront new file
front_more file old new room o e =
    let whole : new ≡ take (length old + room) file =
    e ∙ ap (λ l. l ++ take room (drop (length old) file)) o.front ∙ sym (take-add (length old) room file) in
    record { front = subst (λ l. l ≡ take (length l) file) (sym whole) (take_front (length old + room) file) }

-- one more piece leaves the first bytes of the file
pub start_more : (whole : Bool) (held : Option (List ℕ)) (old new : List ℕ) (room : ℕ) → IsStart held old → FetchedNext whole held old new room → IsStart held new
start_more whole None old new room s f = tt
start_more whole (Some file) old new room s f = front_more file old new f.count s f.bytes

-- a fetch of no bytes into some room is the end
pub start_ended : (whole : Bool) (held : Option (List ℕ)) (old new : List ℕ) (room limit : ℕ) → 0 < room → length old ≤ limit + 1 → length new ≡ length old → IsStart held old → FetchedNext whole held old new room → IfSome held (λ file. new ≡ take (limit + 1) file)
start_ended whole None old new room limit r l e s f = tt
start_ended whole (Some file) old new room limit r l e s f =
    let here : IsFront new file = front_more file old new f.count s f.bytes in
    let over : length file ≤ length old = not_before (below_or_not (length old) (length file)) in
    let all : new ≡ file = here.front ∙ take_all (length new) file (omega (arith, over, e)) in
    all ∙ sym (take_all (limit + 1) file (omega (arith, over, l)))
  where
    not_before : (length old < length file) ⊎ (length file ≤ length old) → length file ≤ length old
    not_before (inl before) = absurd (let some = f.some r before in let size = f.size in omega arith)
    not_before (inr over) = over

-- one byte more than the limit is there
pub start_full : (held : Option (List ℕ)) (bytes : List ℕ) (limit : ℕ) → length bytes ≡ limit + 1 → IsStart held bytes → IfSome held (λ file. bytes ≡ take (limit + 1) file)
start_full None bytes limit size s = tt
start_full (Some file) bytes limit size s = s.front ∙ ap (λ (n : ℕ). take n file) size

-- how many bytes a fetch gave, from a whole shelf
pub given : (whole : Bool) (held : Option (List ℕ)) (old new : List ℕ) (room n : ℕ) → length new ≡ length old + n → FetchedNext whole held old new room → whole ≡ true → IfSome held (λ file. n ≡ min room (length file - length old))
given whole None old new room n size f w = tt
given whole (Some file) old new room n size f w = (let own = f.size in let same : n ≡ f.count = omega arith in same) ∙ f.all w
