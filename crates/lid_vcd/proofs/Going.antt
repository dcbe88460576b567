-- Words by which a dump goes on, and the cells that they show.
use Rattle.std.proofs.Common.{◌≡◌, ℕ, Bool, true, List, [], ◌∷◌, ◌++◌, refl, sym, ap, ◌∙◌, subst, append_assoc, cond}
use Rattle.std.specs.Prelude.{Option, Some, None, Result, Ok, Err, option_and_then}
use Rattle.lid_base.specs.declared.runs.Shown.{Shown}
use Rattle.lid_vcd_form.specs.declared.form.Place.{Place}
use Rattle.lid_vcd_form.specs.Form.{step, read_words, is_time, going_on, ended}
use Rattle.lid_vcd.specs.Laws.{place_after}
use Rattle.lid_vcd_form.specs.Shows.{time_of, cycles_until, values_after, cells_with, cells_on}

abbrev pub goes : Place → List (ℕ × List ℕ) → Option Place
goes p words = place_after p words

-- these words lead from a place to another, set these values and show these cells
pub record Goes (p : Place) (values : List ℕ) (words : List (ℕ × List ℕ)) (q : Place) (after : List ℕ) (cells : List Shown) : Type 0 where
  pub leads : goes p words ≡ Some q
  pub shows : (more : List (ℕ × List ℕ)) → cells_on p values (words ++ more) ≡ cells ++ cells_on q after more

pub nothing : (p : Place) (values : List ℕ) → Goes p values [] p values []
nothing p values = record { leads = refl; shows = λ more. refl }

pub goes_on : (p q : Place) (xs ys : List (ℕ × List ℕ)) → goes p xs ≡ Some q → goes p (xs ++ ys) ≡ goes q ys
goes_on p q [] ys h = ap (λ (o : Option Place). option_and_then (λ r. goes r ys) o) h
goes_on p q (word ∷ xs) ys h = by (step p word.1) (λ r. goes_on r q xs ys) h
  where
    by : (o : Option Place) → ((r : Place) → goes r xs ≡ Some q → goes r (xs ++ ys) ≡ goes q ys) → option_and_then (λ r. goes r xs) o ≡ Some q → option_and_then (λ r. goes r (xs ++ ys)) o ≡ goes q ys
    by None next e = absurd (let f : None ≡ Some q = e in cc)
    by (Some r) next e = next r e

-- one after the other
pub then_goes : (p q r : Place) (u v w : List ℕ) (xs ys : List (ℕ × List ℕ)) (c d : List Shown) → Goes p u xs q v c → Goes q v ys r w d → Goes p u (xs ++ ys) r w (c ++ d)
then_goes p q r u v w xs ys c d first second = record {
  leads = goes_on p q xs ys first.leads ∙ second.leads;
  shows = λ more.
      ap (cells_on p u) (append_assoc xs ys more) ∙ first.shows (ys ++ more) ∙ ap (λ (cells : List Shown). c ++ cells) (second.shows more) ∙ sym (append_assoc c d (cells_on r w more));
}

-- one word
pub one_word : (n : ℕ) (p q : Place) (values word : List ℕ) → step p word ≡ Some q → Goes p values ((n, word) ∷ []) q (values_after values q.next) (cycles_until (time_of p.next) values q.next)
one_word n p q values word e = record {
  leads = ap (λ (o : Option Place). option_and_then (λ r. goes r []) o) e;
  shows = λ more. ap (λ (o : Option Place). cells_with (time_of p.next) values o (λ r next. cells_on r next more)) e;
}

-- a word and those after it
pub word_then : (n : ℕ) (p q r : Place) (values after word : List ℕ) (words : List (ℕ × List ℕ)) (cells : List Shown) → step p word ≡ Some q →
    Goes q (values_after values q.next) words r after cells → Goes p values ((n, word) ∷ words) r after (cycles_until (time_of p.next) values q.next ++ cells)
word_then n p q r values after word words cells e rest =
    then_goes p q r values (values_after values q.next) after ((n, word) ∷ []) words (cycles_until (time_of p.next) values q.next) cells (one_word n p q values word e) rest

-- at the end
pub run_goes : (last : ℕ) (p q : Place) (words : List (ℕ × List ℕ)) → goes p words ≡ Some q → is_time q.next ≡ true → read_words last p words ≡ Ok q
run_goes last p q [] e h =
    let same : p ≡ q = (let f : Some p ≡ Some q = e in cc) in
    let done : Result Place ℕ = Ok q in
    let over : Result Place ℕ = Err last in
    subst (λ (r : Place). ended last r ≡ Ok q) (sym same) (ap (λ (b : Bool). cond b done over) h)
run_goes last p q (word ∷ words) e h = by (step p word.1) (λ r f. run_goes word.0 r q words f h) e
  where
    by : (o : Option Place) → ((r : Place) → goes r words ≡ Some q → read_words word.0 r words ≡ Ok q) → option_and_then (λ r. goes r words) o ≡ Some q → going_on word.0 o (λ r. read_words word.0 r words) ≡ Ok q
    by None next f = absurd (let g : None ≡ Some q = f in cc)
    by (Some r) next f = next r f
