-- One end changes, and no other.
use Rattle.std.proofs.Common.{◌≡◌, ℕ, ◌+◌, ◌==◌, inl, inr, Bool, true, false, cond, List, refl, sym, ◌∙◌, ap, subst, eq-eqb}
use Rattle.std.specs.Prelude.{Option, Some, None, option_map}
use Rattle.std.proofs.lemmas.Bool.{ne_eqb, cases_eq}
use Rattle.lid_station.specs.Boards.{Facts, Ends, Changes, missed, marked, advanced}
use Rattle.lid_shell.specs.Steps.{IsOwn, Stays, Moves}

-- the end that changed
pub here : (old new : Ends) (end : ℕ) (step : Facts → Facts) (f : Facts) → Changes old end step new → old end ≡ Some f → new end ≡ Some (step f)
here old new end step f changes was =
    changes end
    ∙ ap (λ (b : Bool). cond b (option_map step (old end)) (old end)) (eq-eqb end end refl)
    ∙ ap (option_map step) was

-- any other
pub elsewhere : (old new : Ends) (end : ℕ) (step : Facts → Facts) (k : ℕ) → Changes old end step new → (k ≡ end → ⊥) → new k ≡ old k
elsewhere old new end step k changes other =
    changes k ∙ ap (λ (b : Bool). cond b (option_map step (old k)) (old k)) (ne_eqb k end other)

none_both : (step : Facts → Facts) (b : Bool) → cond b (option_map step None) None ≡ None
none_both step true = refl
none_both step false = refl

-- an end that is not served is not served then
nowhere : (old new : Ends) (end : ℕ) (step : Facts → Facts) (k : ℕ) → Changes old end step new → old k ≡ None → new k ≡ None
nowhere old new end step k changes was =
    changes k ∙ ap (λ (o : Option Facts). cond (k == end) (option_map step o) o) was ∙ none_both step (k == end)

moved : (ins outs : List ℕ) (missed : Option ℕ) (old new : Ends) (end : ℕ) (step : Facts → Facts) → Changes old end step new → IsOwn ins outs end
    → ((f : Facts) → Stays missed end f (step f)) → ((k : ℕ) (f : Facts) → (k ≡ end → ⊥) → Stays missed k f f) → Moves ins outs missed old new
moved ins outs missed old new end step changes own at else =
    record {
      others = λ k not_own. elsewhere old new end step k changes (λ same. not_own (subst (IsOwn ins outs) (sym same) own));
      none = λ k was. nowhere old new end step k changes was;
      some = λ k f was.
          elim (cases_eq k end) [
            | inl same ↦
                (let there : new k ≡ Some (step f) = subst (λ (e : ℕ). new e ≡ Some (step f)) (sym same) (here old new end step f changes (subst (λ (e : ℕ). old e ≡ Some f) same was)) in
                let stays : Stays missed k f (step f) = subst (λ (e : ℕ). Stays missed e f (step f)) (sym same) (at f) in (step f, there, stays))
            | inr other ↦ (f, elsewhere old new end step k changes other ∙ was, else k f other)
          ];
    }

-- a mark is set
pub moves_marked : (ins outs : List ℕ) (old new : Ends) (end : ℕ) → Changes old end marked new → IsOwn ins outs end → Moves ins outs None old new
moves_marked ins outs old new end changes own =
    moved ins outs None old new end marked changes own (λ f. record { cap = refl; start = refl; misses = refl }) (λ k f other. record { cap = refl; start = refl; misses = refl })

-- a token passes
pub moves_advanced : (ins outs : List ℕ) (old new : Ends) (end : ℕ) → Changes old end advanced new → IsOwn ins outs end → Moves ins outs None old new
moves_advanced ins outs old new end changes own =
    moved ins outs None old new end advanced changes own (λ f. record { cap = refl; start = refl; misses = refl }) (λ k f other. record { cap = refl; start = refl; misses = refl })

-- a look misses
pub moves_missed : (ins outs : List ℕ) (old new : Ends) (end : ℕ) → Changes old end missed new → IsOwn ins outs end → Moves ins outs (Some end) old new
moves_missed ins outs old new end changes own =
    moved ins outs (Some end) old new end missed changes own
    (λ f. record {
      cap = refl;
      start = refl;
      misses = ap (λ (b : Bool). cond b (option_map (λ (n : ℕ). n + 1) f.misses) f.misses) (sym (eq-eqb end end refl));
    })
    (λ k f other. record {
      cap = refl;
      start = refl;
      misses = ap (λ (b : Bool). cond b (option_map (λ (n : ℕ). n + 1) f.misses) f.misses) (sym (ne_eqb k end other));
    })

-- nothing happens
pub moves_not : (ins outs : List ℕ) (ends : Ends) → Moves ins outs None ends ends
moves_not ins outs ends =
    record {
      others = λ k not_own. refl;
      none = λ k was. was;
      some = λ k f was. (f, was, record { cap = refl; start = refl; misses = refl });
    }
