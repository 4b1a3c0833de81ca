-- A call that gives one list gives any that is equal to it.
use Rattle.std.proofs.Common.{◌≡◌, Result, Ok, Err, IfOk, ◌∙◌}

pub if_ok : {A E : Type 0} (r : Result A E) (x y : A) → x ≡ y → IfOk r (λ v. v ≡ x) → IfOk r (λ v. v ≡ y)
if_ok (Ok v) x y e h = h ∙ e
if_ok (Err f) x y e h = tt
