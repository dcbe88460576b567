-- What holds of a result that is handed on.
use Rattle.std.proofs.Common.{Result, Ok, Err, OnOk}

-- what holds anyway
pub on_any : {A E : Type 0} {P : Type 0} → P → (r : Result A E) → OnOk r P
on_any p (Ok x) = p
on_any p (Err e) = tt
