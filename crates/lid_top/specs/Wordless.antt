-- With which status the program ends where the system gives it no words.
use Rattle.std.specs.Prelude.{◌≡◌, ◌≢◌, ℕ}
use Rattle.std.specs.IoError.{error_kind}
use Rattle.std.specs.declared.io.Error.{Error}
use Rattle.std.specs.declared.io.ErrorKind.TheVariants.{OutOfMemory}

-- 5 where that was for want of memory; and 2 for every other cause, as for a word that is no text
pub record IsStatusWithout (cause : Error) (status : ℕ) : Type 0 where
  pub wanting : error_kind cause ≡ OutOfMemory → status ≡ 5
  pub usage : error_kind cause ≢ OutOfMemory → status ≡ 2
