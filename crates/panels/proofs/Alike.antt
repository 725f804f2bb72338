-- A list of one value, read with that value as the default: it is read everywhere, past the end too.
use Rattle.std.proofs.Common.{◌≡◌, ℕ, zero, suc, get_or, replicate, refl}

pub alike_everywhere : {X : Type 0} (n j : ℕ) (x : X) → get_or (replicate n x) j x ≡ x
alike_everywhere zero j x = refl
alike_everywhere (suc n) zero x = refl
alike_everywhere (suc n) (suc j) x = alike_everywhere n j x
