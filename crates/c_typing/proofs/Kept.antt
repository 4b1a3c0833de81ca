-- What is kept of two operands with an operator between.
use Rattle.std.proofs.Common.{◌≡◌, List, ◌++◌, ap, ◌∙◌, Option}
use Rattle.dpi_rules.specs.declared.violation.Violation.{Violation}
use Rattle.dpi_rules.specs.Order.{joined}
use Rattle.dpi_rules.specs.Least.{least}
use Rattle.dpi_rules.proofs.Firsts.{joined_is_least}
use Rattle.c_typing.specs.Judged.{Judged}
use Rattle.c_typing.specs.declared.chain.Typed.{Typed}
use Rattle.c_typing.specs.Binary.{binary, TypedJoins}

-- what is kept of three lists
three : (us vs ws : List Violation) → least ((us ++ vs) ++ ws) ≡ joined (joined (least us) (least vs)) (least ws)
three us vs ws = joined_is_least (us ++ vs) ws ∙ ap (λ o. joined o (least ws)) (joined_is_least us vs)

pub typed_joins : TypedJoins
typed_joins s a b =
    let j : Judged = binary s.place s.operator a.value b.value in
    let P : Option Violation → Typed = λ o. record { found = o; value = j.value } in
    ap P (three a.found b.found j.found)
