-- A code that is not refused.
use Rattle.std.proofs.Common.{Result, Ok, Err, refl}
use Rattle.std.specs.Result.{IsOk, IsErrOf}
use Rattle.rs_code.specs.declared.code_error.CodeError.{CodeError}
use Rattle.rs_code.specs.declared.code_error.CodeError.TheVariants.{BadK, BadN}

pub code_made : {C : Type 0} (r : Result C CodeError) → (IsErrOf r BadK → ⊥) → (IsErrOf r BadN → ⊥) → IsOk r
code_made (Ok code) k n = refl
code_made (Err BadK) k n = absurd (k refl)
code_made (Err BadN) k n = absurd (n refl)
