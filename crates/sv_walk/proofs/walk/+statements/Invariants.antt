use Rattle.std.proofs.Common.{drop}
use Rattle.sv_names.specs.Scopes.{scopes_of}
use Rattle.sv_walk.specs.Around.{inside}
use Rattle.sv_walk.specs.Walk.{in_stmt, in_item, in_else_if}
use Rattle.sv_walk.proofs.Walking.{IsWalking}
use Rattle.sv_walk.proofs.walk.+statements.Given as goal

-- what is noted so far, and what the ones left over violate
abbrev pub invariant-walk_statements-loop-statement : goal.invariant-walk_statements-loop-statement
invariant-walk_statements-loop-statement l =
    IsWalking (λ x. in_stmt x (inside l.around (scopes_of l.initial.scopes))) (scopes_of l.initial.scopes) l.initial.found l.statements (drop l.statement-index l.statements) (scopes_of l.scopes) l.found

-- what is noted so far, and what the ones left over violate
abbrev pub invariant-walk_case-loop-item : goal.invariant-walk_case-loop-item
invariant-walk_case-loop-item l =
    IsWalking (λ x. in_item x (inside l.around (scopes_of l.initial.scopes))) (scopes_of l.initial.scopes) l.initial.found l.items (drop l.item-index l.items) (scopes_of l.scopes) l.found

-- what is noted so far, and what the ones left over violate
abbrev pub invariant-walk_others-loop-other : goal.invariant-walk_others-loop-other
invariant-walk_others-loop-other l =
    IsWalking (λ x. in_else_if x (inside l.around (scopes_of l.initial.scopes))) (scopes_of l.initial.scopes) l.initial.found l.others (drop l.other-index l.others) (scopes_of l.scopes) l.found
