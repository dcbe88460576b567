-- What a reading by `clap` says of the words.
use Rattle.std.proofs.Common.{◌≡◌, ◌≢◌, ◌∙◌, ◌==◌, length, true≢false, inl, inr, sym, ap, ap₂, subst, refl, ℕ, true, List, [], ◌∷◌, map, Some, None}
use Rattle.std.proofs.lemmas.List.{map-id}
use Rattle.std.proofs.Math.Dec.{eqb-suc-zero}
use Rattle.std.specs.Borrow.{Bor}
use Rattle.clap.specs.Words.{App, Kinds, HasKind, HasMatchesOf, is_simple, is_simple_and_free, fault_of, matches_of, kind_of}
use Rattle.clap.specs.Walk.{Row}
use Rattle.clap.specs.declared.error.Error.{Error}
use Rattle.clap.specs.declared.error.kind.ErrorKind.TheVariants.{OutOfMemory}
use Rattle.clap.specs.declared.parser.matches.ArgMatches.{ArgMatches}
use Rattle.lid_top_words.specs.Reading.{lid_app, given_in, matches_in, matches_unless}
use Rattle.lid_top_words.specs.Jobs.{files_fit}

-- `clap` states what it finds by this command
pub is_simple_lid : is_simple lid_app ≡ true
unfolding lid_app
is_simple_lid = refl

-- `clap` states the faults by this command
pub is_free_lid : is_simple_and_free lid_app ≡ true
unfolding lid_app
is_free_lid = refl

-- no kind of fault comes, so the matches are given
pub given_free : (words : List (List ℕ)) → fault_of lid_app words ≡ [] → Some (matches_of lid_app words) ≡ given_in words
unfolding given_in
given_free words e = sym (ap (λ (kinds : Kinds). matches_unless kinds (matches_of lid_app words)) e)

-- matches without a fault are what is given
pub given_matches : (words : List (List ℕ)) (a : App) (m : ArgMatches) → a ≡ lid_app → HasMatchesOf a (map (λ t. t) words) m → (is_simple_and_free a ≡ true → fault_of a (map (λ t. t) words) ≡ [])
    → Some (matches_in m) ≡ given_in words
unfolding matches_in
given_matches words a m is has free =
    let found : matches_in m ≡ matches_of a (map (λ t. t) words) = (has (ap is_simple is ∙ is_simple_lid)).0 in
    let none : fault_of a (map (λ t. t) words) ≡ [] = free (ap is_simple_and_free is ∙ is_free_lid) in
    ap Some (found ∙ ap₂ matches_of is (map-id words)) ∙ given_free words (sym (ap₂ fault_of is (map-id words)) ∙ none)

-- a fault of some kind leaves nothing
pub no_rows : (kinds : Kinds) (found : List Row) (e : Error) → HasKind kinds e → kind_of e ≢ OutOfMemory → matches_unless kinds found ≡ None
no_rows [] found e (inl is) not = absurd (not is)
no_rows [] found e (inr among) not = absurd among
no_rows (k ∷ ks) found e has not = refl

-- a fault that is not want of memory is in the words
pub none_given : (words : List (List ℕ)) (a : App) (e : Error) → a ≡ lid_app → (is_simple_and_free a ≡ true → HasKind (fault_of a (map (λ t. t) words)) e) → kind_of e ≢ OutOfMemory
    → None ≡ given_in words
unfolding given_in
none_given words a e is kinds not =
    let has : HasKind (fault_of a (map (λ t. t) words)) e = kinds (ap is_simple_and_free is ∙ is_free_lid) in
    let P : Kinds → Type 0 = λ ks. HasKind ks e in
    sym (no_rows (fault_of lid_app words) (matches_of lid_app words) e (subst P (ap₂ fault_of is (map-id words)) has) not)

-- files without a place for them
pub fit_without_places : (files : List (List ℕ)) (places : List (Bor (List ℕ))) → true ≡ (length places == 0) → true ≡ files_fit files (map (λ p. p.now) places)
fit_without_places [] places e = refl
fit_without_places (file ∷ files) [] e = refl
fit_without_places (file ∷ files) (place ∷ places) e = absurd (true≢false (e ∙ eqb-suc-zero (length places)))
