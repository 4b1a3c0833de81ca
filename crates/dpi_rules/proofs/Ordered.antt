-- The order is total, and the lesser of several doesn't depend on how they are grouped.
use Rattle.std.proofs.Common.{◌≡◌, refl, ap, ◌∙◌, arith, Bool, true, false, Option, Some, None, if◌then◌else◌}
use Rattle.std.proofs.lemmas.Bool.Decides.{nat_tests}
use Rattle.dpi_rules.specs.declared.violation.Violation.{Violation}
use Rattle.dpi_rules.specs.Order.{violation, before, lesser, joined, IsTotalOrder}

pub before_self : (v : Violation) → before v v ≡ false
before_self v = grind (arith, nat_tests)

pub before_back : (v w : Violation) → before v w ≡ true → before w v ≡ false
before_back v w h = grind (arith, nat_tests)

pub before_on : (u v w : Violation) → before u v ≡ true → before v w ≡ true → before u w ≡ true
before_on u v w h k = grind (arith, nat_tests)

-- what stands behind nothing of a second, which stands behind nothing of a first, stands behind nothing of the first
pub not_before_on : (u v w : Violation) → before v u ≡ false → before w v ≡ false → before w u ≡ false
not_before_on u v w h k = grind (arith, nat_tests)

same : (v w : Violation) → v.file ≡ w.file → v.token ≡ w.token → v.rule ≡ w.rule → v ≡ w
same v w f t r =
    ap (λ x. violation x v.token v.rule) f ∙ ap (λ x. violation w.file x v.rule) t ∙ ap (violation w.file w.token) r

pub before_neither : (v w : Violation) → before v w ≡ false → before w v ≡ false → v ≡ w
before_neither v w h k = same v w (grind (arith, nat_tests)) (grind (arith, nat_tests)) (grind (arith, nat_tests))

pub order_is_total : IsTotalOrder
order_is_total = record { irreflexive = before_self; transitive = before_on; total = before_neither }

lesser_of : (u v w : Violation) (b c d : Bool) → before v u ≡ b → before w v ≡ c → before w u ≡ d → lesser (if b then Some v else Some u) w ≡ joined (Some u) (if c then Some w else Some v)
lesser_of u v w true true d h k m = rw (k, before_on w v u k h) refl
lesser_of u v w true false d h k m = rw (k, h) refl
lesser_of u v w false true d h k m = refl
lesser_of u v w false false d h k m = rw (h, not_before_on u v w h k) refl

pub lesser_joined : (a b : Option Violation) (w : Violation) → lesser (joined a b) w ≡ joined a (lesser b w)
lesser_joined None None w = refl
lesser_joined None (Some v) w = elim (before w v) as (λ x. (if x then Some w else Some v) ≡ joined None (if x then Some w else Some v)) [ true ↦ refl | false ↦ refl ]
lesser_joined (Some u) None w = refl
lesser_joined (Some u) (Some v) w = lesser_of u v w (before v u) (before w v) (before w u) refl refl refl
