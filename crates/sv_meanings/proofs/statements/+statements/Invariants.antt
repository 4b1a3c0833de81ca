use Rattle.std.proofs.Common.{drop}
use Rattle.sv_names.specs.Scopes.{scopes_of}
use Rattle.sv_walk.specs.Around.{inside}
use Rattle.sv_meanings.specs.Statements.{in_stmt, in_item, in_else_if}
use Rattle.sv_meanings.proofs.Walking.{IsWalking}
use Rattle.sv_meanings.proofs.statements.+statements.Given as goal

-- what is listed, and the statements left over
abbrev pub invariant-add_stmts-loop-stmt : goal.invariant-add_stmts-loop-stmt
invariant-add_stmts-loop-stmt l =
    IsWalking (λ x. in_stmt x (inside l.around (scopes_of l.initial.scopes))) (scopes_of l.initial.scopes) l.initial.list.items l.stmts (drop l.stmt-index l.stmts) (scopes_of l.scopes) l.list.items

-- what is listed, and the items left over
abbrev pub invariant-add_items-loop-item : goal.invariant-add_items-loop-item
invariant-add_items-loop-item l =
    IsWalking (λ x. in_item x (inside l.around (scopes_of l.initial.scopes))) (scopes_of l.initial.scopes) l.initial.list.items l.items (drop l.item-index l.items) (scopes_of l.scopes) l.list.items

-- what is listed, and the parts left over
abbrev pub invariant-add_others-loop-other : goal.invariant-add_others-loop-other
invariant-add_others-loop-other l =
    IsWalking (λ x. in_else_if x (inside l.around (scopes_of l.initial.scopes))) (scopes_of l.initial.scopes) l.initial.list.items l.others (drop l.other-index l.others) (scopes_of l.scopes) l.list.items
