-- How the script of `gen` ends.
use Rattle.std.proofs.Common.{◌≡◌, ℕ, List, Option, None, Some, ◌⊎◌, inl, inr, refl, sym, subst}
use Rattle.lid_gen.specs.declared.fault.GenFault.{GenFault}
use Rattle.lid_gen.specs.declared.fault.GenFault.TheVariants.{Size, Memory}
use Rattle.lid_gen.specs.Designs.{size_fault}
use Rattle.lid_top_refusals.specs.declared.refusal.Refusal.TheVariants.{Gen}
use Rattle.lid_top_refusals.specs.Refusals.{refusal_line}
use Rattle.lid_top_script.specs.Causes.{stop_of_gen, IsCause}
use Rattle.lid_top_script.specs.Outputs.{IsTextOf}
use Rattle.lid_top_script.specs.Scripts.{Ending, refuses, gives, end, read_then, size_good, size_read, generating, gen_script, EndsIn}
use Rattle.lid_top_script.specs.Statuses.{HasText}

module _ (held : List ℕ → Option (List ℕ)) (seed shells : ℕ) (run : Option ℕ) where
  -- by the judgement of the size
  abbrev Ends : Option GenFault → Ending → Type 0
  Ends fault ending = EndsIn held (read_then (size_good fault) (λ _. end (gives (generating seed shells run)))) ending

  -- the size is good
  pub gen_has_text : (text : List ℕ) → size_fault shells ≡ None → IsTextOf (generating seed shells run) text → HasText held (gen_script seed shells run) text
  unfolding gen_script size_read
  gen_has_text text sized is = record {
    output = generating seed shells run;
    ends = subst (λ fault. Ends fault (gives (generating seed shells run))) (sym sized) refl;
    text_of = is;
  }

  -- there is no design
  pub gen_has_cause : (before after : List ℕ → ℕ) (fault : GenFault) → (size_fault shells ≡ Some fault) ⊎ ((size_fault shells ≡ None) × (fault ≡ Memory)) → IsCause held (gen_script seed shells run) before after (stop_of_gen fault)
  unfolding gen_script size_read
  gen_has_cause before after Memory why = tt
  gen_has_cause before after (Size n) (inl refused) = subst (λ fault. Ends fault (refuses (refusal_line (Gen (Size n))))) (sym refused) refl
  gen_has_cause before after (Size n) (inr memory) = subst (λ fault. IsCause held (gen_script seed shells run) before after (stop_of_gen fault)) (sym memory.1) tt
