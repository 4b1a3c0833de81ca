use Rattle.std.proofs.Common.{◌≡◌, ◌+◌, ◌∙◌, ◌∷◌, [], sym, ap, drop, arith}
use Rattle.sv_names.specs.declared.entry.Thing.TheVariants.{Variable}
use Rattle.sv_names.specs.Declaring.{declared}
use Rattle.sv_names.specs.Subroutines.{formals_declare, kind_at}
use Rattle.sv_names.proofs.DeclaredLists.{rest_of, declaring_more}
use Rattle.sv_names.proofs.subroutines.declare_formals.Goals as goal

pub loop-formal-preserved : goal.loop-formal-preserved
loop-formal-preserved c =
    let kinds = c.args.kinds.now in
    let at = c.loop-formal.at in
    let x = c.formal-item.result in
    let rest = formals_declare kinds (at + 1) (drop (c.loop-formal.formal-index + 1) c.args.formals.now) in
    let split =
    ap (formals_declare kinds at) (rest_of c.args.formals.now c.loop-formal.formal-index x c.loop-formal-test.true c.formal-item.is)
    ∙ ap (λ k. declared x.name (Variable k) ∷ rest) (sym c.kind_at-kind.ensures) in
    record {
      counted = let h : at ≡ c.loop-formal.formal-index = c.loop-formal.invariant.counted in omega arith;
      declaring = declaring_more rest split c.in_ok-declare.ensures c.loop-formal.invariant.declaring;
    }
