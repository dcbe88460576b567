-- Lists that grow by the names that a test takes.
use Rattle.std.proofs.Common.{◌≡◌, ℕ, ◌+◌, ◌<◌, Bool, false, ◌||◌, List, [], ◌∷◌, ◌++◌, length, take, get_or, sym, ◌∙◌, ap}
use Rattle.std.specs.List.{list_any}
use Rattle.std.specs.Str.{bytes_eq}
use Rattle.std.proofs.Math.Bool.{or-false, or_assoc}
use Rattle.std.proofs.lemmas.List.{take_more}
use Rattle.std.proofs.lemmas.List.Folds.{list_any-append}
use Rattle.lid_check_names.specs.Names.{is_among}
use Rattle.lid_check_names.proofs.Lists.{is_among_append}
use Rattle.lid_check_hierarchy.specs.Clocks.{GrowsBy}

pub grows_none : (set : List (List ℕ)) → GrowsBy (λ net. false) set set
grows_none set net = sym (or-false (is_among net set))

pub grows_name : (old new : List (List ℕ)) (name : List ℕ) → new ≡ old ++ name ∷ [] → GrowsBy (λ net. bytes_eq net name) old new
grows_name old new name added net =
    ap (is_among net) added ∙ is_among_append net old (name ∷ []) ∙ ap (λ (b : Bool). is_among net old || b) (or-false (bytes_eq net name))

pub grows_like : (p q : List ℕ → Bool) (old new : List (List ℕ)) → ((net : List ℕ) → p net ≡ q net) → GrowsBy p old new → GrowsBy q old new
grows_like p q old new same grows net = grows net ∙ ap (λ (b : Bool). is_among net old || b) (same net)

pub grows_twice : (p q : List ℕ → Bool) (old mid new : List (List ℕ)) → GrowsBy p old mid → GrowsBy q mid new → GrowsBy (λ net. p net || q net) old new
grows_twice p q old mid new first second net =
    second net ∙ ap (λ (b : Bool). b || q net) (first net) ∙ or_assoc (is_among net old) (p net) (q net)

-- one more item of a list whose items a test takes
pub grows_more : {A : Type 0} (p : List ℕ → A → Bool) (xs : List A) (i : ℕ) (d : A) → i < length xs → (old mid new : List (List ℕ)) → GrowsBy (λ net. list_any (p net) (take i xs)) old mid → GrowsBy (λ net. p net (get_or xs i d)) mid new → GrowsBy (λ net. list_any (p net) (take (i + 1) xs)) old new
grows_more {A} p xs i d h old mid new first second =
    grows_like _ _ old new
    (λ net.
    let one : list_any (p net) (get_or xs i d ∷ []) ≡ p net (get_or xs i d) = or-false (p net (get_or xs i d)) in
    ap (λ (b : Bool). list_any (p net) (take i xs) || b) (sym one)
    ∙ sym (list_any-append (p net) (take i xs) (get_or xs i d ∷ []))
    ∙ ap (list_any (p net)) (sym (take_more xs i d h)))
    (grows_twice (λ net. list_any (p net) (take i xs)) (λ net. p net (get_or xs i d)) old mid new first second)

-- the same of an item that was read
pub grows_item : {A : Type 0} (p : List ℕ → A → Bool) (xs : List A) (i : ℕ) (x : A) → i < length xs → x ≡ get_or xs i x → (old mid new : List (List ℕ)) → GrowsBy (λ net. list_any (p net) (take i xs)) old mid → GrowsBy (λ net. p net x) mid new → GrowsBy (λ net. list_any (p net) (take (i + 1) xs)) old new
grows_item p xs i x h is old mid new first second =
    grows_more p xs i x h old mid new first (grows_like (λ net. p net x) (λ net. p net (get_or xs i x)) mid new (λ net. ap (p net) is) second)
