use Rattle.std.proofs.Common.{◌≡◌, ◌++◌, drop, flat_map}
use Rattle.sv_judge.specs.Calls.{env_of}
use Rattle.sv_facts.specs.Exprs.{expr_facts, select_facts, term_facts}
use Rattle.sv_facts.proofs.expressions.+expressions.Given as goal

-- what is listed, and the expressions left over
abbrev pub invariant-add_exprs-loop-e : goal.invariant-add_exprs-loop-e
invariant-add_exprs-loop-e l =
    let of = expr_facts (env_of l.place) in
    l.list.items ++ flat_map of (drop l.e-index l.es) ≡ l.initial.list.items ++ flat_map of l.es

-- what is listed, and the selects left over
abbrev pub invariant-add_selects-loop-select : goal.invariant-add_selects-loop-select
invariant-add_selects-loop-select l =
    let of = select_facts (env_of l.place) in
    l.list.items ++ flat_map of (drop l.select-index l.selects) ≡ l.initial.list.items ++ flat_map of l.selects

-- what is listed, and the operands left over
abbrev pub invariant-add_terms-loop-term : goal.invariant-add_terms-loop-term
invariant-add_terms-loop-term l =
    let of = term_facts (env_of l.place) in
    l.list.items ++ flat_map of (drop l.term-index l.rest) ≡ l.initial.list.items ++ flat_map of l.rest
