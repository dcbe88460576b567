-- Words by which a dump goes on, without their lines.
use Rattle.std.proofs.Common.{◌≡◌, ℕ, List, [], ◌∷◌, ◌++◌, map, refl, sym, ◌∙◌, ap, subst, append_assoc, append-nil}
use Rattle.std.specs.Prelude.{Some}
use Rattle.lid_base.specs.declared.runs.Shown.{Shown}
use Rattle.lid_vcd_form.specs.declared.form.Next.{Next}
use Rattle.lid_vcd_form.specs.declared.form.Place.{Place}
use Rattle.lid_vcd_form.specs.Form.{step}
use Rattle.lid_vcd_form.specs.Shows.{time_of, cycles_until, values_after}
use Rattle.lid_base_lines.specs.Texts.{Words}
use Rattle.lid_vcd.proofs.Going.{Goes, nothing, word_then}

-- words lead from a place to another, set values and show cells
abbrev pub Leads : Place → List ℕ → Words → Place → List ℕ → List Shown → Type 0
Leads p values [] q after cells = (p ≡ q) × (values ≡ after) × (cells ≡ [])
Leads p values (word ∷ words) q after cells =
    (r : Place) × (rest : List Shown) × (step p word ≡ Some r) × (cells ≡ cycles_until (time_of p.next) values r.next ++ rest) × Leads r (values_after values r.next) words q after rest

pub leads_none : (p : Place) (values : List ℕ) → Leads p values [] p values []
leads_none p values = (refl, refl, refl)

pub leads_then : (xs ys : Words) (p q r : Place) (u v w : List ℕ) (c d : List Shown) → Leads p u xs q v c → Leads q v ys r w d → Leads p u (xs ++ ys) r w (c ++ d)
leads_then [] ys p q r u v w c d first second =
    subst (λ (x : List Shown). Leads p u ys r w (x ++ d)) (sym first.2)
    (subst (λ (x : Place). Leads x u ys r w d) (sym first.0) (subst (λ (x : List ℕ). Leads q x ys r w d) (sym first.1) second))
leads_then (x ∷ xs) ys p q r u v w c d first second = (
  first.0,
  first.1 ++ d,
  first.2,
  ap (λ (cs : List Shown). cs ++ d) first.3 ∙ append_assoc (cycles_until (time_of p.next) u first.0.next) first.1 d,
  leads_then xs ys first.0 q r (values_after u first.0.next) v w first.1 d first.4 second,
)

-- before the body nothing is set or shown
abbrev pub Passes : Place → Words → Place → Type 0
Passes p words q = (values : List ℕ) → Leads p values words q values []

pub passes_none : (p : Place) → Passes p [] p
passes_none p values = leads_none p values

pub passes_then : (xs ys : Words) (p q r : Place) → Passes p xs q → Passes q ys r → Passes p (xs ++ ys) r
passes_then xs ys p q r first second values = leads_then xs ys p q r values values values [] [] (first values) (second values)

-- a place where nothing was set or shown by the last word
pub record IsQuiet (next : Next) : Type 0 where
  pub cells : (at : ℕ) (values : List ℕ) → cycles_until at values next ≡ []
  pub values : (values : List ℕ) → values_after values next ≡ values

pub word_passes : (p r q : Place) (word : List ℕ) (words : Words) → step p word ≡ Some r → IsQuiet r.next → Passes r words q → Passes p (word ∷ words) q
word_passes p r q word words e quiet rest values = (
  r,
  [],
  e,
  sym (append-nil (cycles_until (time_of p.next) values r.next) ∙ quiet.cells (time_of p.next) values),
  subst (λ (x : List ℕ). Leads r x words q values []) (sym (quiet.values values)) (rest values),
)

pub passes_same : (p q : Place) (xs ys : Words) → xs ≡ ys → Passes p ys q → Passes p xs q
passes_same p q xs ys same passes values = subst (λ (ws : Words). Leads p values ws q values []) (sym same) (passes values)

-- with their lines
abbrev pub word_of : ℕ × List ℕ → List ℕ
word_of placed = placed.1

pub goes_by : (p q : Place) (values after : List ℕ) (placed : List (ℕ × List ℕ)) (cells : List Shown) → Leads p values (map word_of placed) q after cells → Goes p values placed q after cells
goes_by p q values after [] cells l =
    subst (λ (x : Place). Goes p values [] x after cells) l.0 (subst (λ (x : List ℕ). Goes p values [] p x cells) l.1 (subst (λ (x : List Shown). Goes p values [] p values x) (sym l.2) (nothing p values)))
goes_by p q values after (w ∷ placed) cells l =
    subst (λ (x : List Shown). Goes p values (w ∷ placed) q after x) (sym l.3)
    (word_then w.0 p l.0 q values after w.1 placed l.1 l.2 (goes_by l.0 q (values_after values l.0.next) after placed l.1 l.4))
