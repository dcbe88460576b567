-- Where a step of a script fails, that is a cause for the script to end.
use Rattle.std.proofs.Common.{ℕ, ◌≤◌, List, Option, inl, inr, refl, sym, subst, arith}
use Rattle.lid_base.specs.Outside.{Rose}
use Rattle.lid_design.specs.declared.Design.{Design}
use Rattle.lid_top_script.specs.declared.fault.Stop.{Stop}
use Rattle.lid_top_script.specs.declared.fault.Stop.TheVariants.{Refused, Read, Memory, Denied}
use Rattle.lid_top_script.specs.Scripts.{refuses, Script, decide, Reading, read_then, read_step, check_step, IsFetched, IsChecked, IsUnchecked, EndsIn}
use Rattle.lid_top_refusals.specs.Refusals.{refusal_line}
use Rattle.lid_top_script.specs.Causes.{Refuses, Declines, FailsCheck, IsWant, Misses, IsCause}

-- a count that rose after it had grown
pub rose_later : (a b c : ℕ) → a ≤ b → Rose b c → Rose a c
rose_later a b c g r = omega (arith, g, r)

-- a file is fetched and read
module _ {A : Type 0} (held : List ℕ → Option (List ℕ)) (name : List ℕ) (limit : ℕ) (read : List ℕ → Reading A) where
  pub misses_reading : (bytes : List ℕ) (before after : List ℕ → ℕ) (stop : Stop) → IsFetched held name limit bytes → Declines (read bytes) stop → Misses held name limit read before after stop
  misses_reading bytes before after (Refused refusal) f d = record { bytes = bytes; fetched = f; refused = d }
  misses_reading bytes before after (Read file) f d = absurd d
  misses_reading bytes before after Memory f d = tt
  misses_reading bytes before after Denied f d = absurd d

  module _ (next : A → Script) where
    pub cause_here : (before after : List ℕ → ℕ) (stop : Stop) → Misses held name limit read before after stop → IsCause held (read_step name limit read next) before after stop
    cause_here before after (Refused refusal) m =
        (m.bytes, m.fetched, subst (λ r. EndsIn held (read_then r next) (refuses (refusal_line refusal))) (sym m.refused) refl)
    cause_here before after (Read file) m = (inl (sym m.0), subst (λ n. Rose (before n) (after n)) (sym m.0) m.1)
    cause_here before after Memory m = tt
    cause_here before after Denied m = absurd m

-- a step without a fetch: a value that is good, or a line that is bad
module _ {A : Type 0} (held : List ℕ → Option (List ℕ)) (Good : A → Type 0) (Bad : List ℕ → Type 0) (next : A → Script) where
  pub cause_undecided : (before after : List ℕ → ℕ) (stop : Stop) → Refuses Bad stop → IsCause held (decide Good Bad next) before after stop
  cause_undecided before after (Refused refusal) b = inr (refusal_line refusal, b, refl)
  cause_undecided before after (Read file) b = absurd b
  cause_undecided before after Memory b = tt
  cause_undecided before after Denied b = absurd b

-- a reading decides the step
pub cause_declined : {A : Type 0} (held : List ℕ → Option (List ℕ)) (reading : Reading A) (next : A → Script) (before after : List ℕ → ℕ) (stop : Stop) → Declines reading stop → IsCause held (read_then reading next) before after stop
cause_declined held reading next before after (Refused refusal) d = subst (λ r. EndsIn held (read_then r next) (refuses (refusal_line refusal))) (sym d) refl
cause_declined held reading next before after (Read file) d = absurd d
cause_declined held reading next before after Memory d = tt
cause_declined held reading next before after Denied d = absurd d

-- a design is checked
pub cause_unchecked : (held : List ℕ → Option (List ℕ)) (root : Option (List ℕ)) (d : Design) (next : Design → Script) (before after : List ℕ → ℕ) (stop : Stop) → FailsCheck root d stop → IsCause held (check_step root d next) before after stop
cause_unchecked held root d = cause_undecided held (IsChecked root d) (IsUnchecked root d)

-- want of memory may end any script
pub want_anywhere : (held : List ℕ → Option (List ℕ)) (script : Script) (before after : List ℕ → ℕ) (stop : Stop) → IsWant stop → IsCause held script before after stop
want_anywhere held script before after (Refused refusal) w = absurd w
want_anywhere held script before after (Read file) w = absurd w
want_anywhere held script before after Memory w = tt
want_anywhere held script before after Denied w = absurd w
