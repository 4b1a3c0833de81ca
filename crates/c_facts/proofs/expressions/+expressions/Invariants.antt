use Rattle.std.proofs.Common.{◌≡◌, ◌++◌, drop, flat_map}
use Rattle.c_judge.specs.Calls.{env_of}
use Rattle.c_walk.specs.Around.{values_of}
use Rattle.c_facts.specs.Exprs.{expr_facts, assignment_facts, term_facts, suffix_facts}
use Rattle.c_facts.proofs.expressions.+expressions.Given as goal

-- what is listed, and the expressions left over
abbrev pub invariant-add_exprs-loop-e : goal.invariant-add_exprs-loop-e
invariant-add_exprs-loop-e l =
    let of = expr_facts (env_of l.around) (values_of l.defines) in
    l.list.items ++ flat_map of (drop l.e-index l.es) ≡ l.initial.list.items ++ flat_map of l.es

-- what is listed, and the parts left over
abbrev pub invariant-add_assignments-loop-part : goal.invariant-add_assignments-loop-part
invariant-add_assignments-loop-part l =
    let of = assignment_facts (env_of l.around) (values_of l.defines) in
    l.list.items ++ flat_map of (drop l.part-index l.rest) ≡ l.initial.list.items ++ flat_map of l.rest

-- what is listed, and the operands left over
abbrev pub invariant-add_terms-loop-term : goal.invariant-add_terms-loop-term
invariant-add_terms-loop-term l =
    let of = term_facts (env_of l.around) (values_of l.defines) in
    l.list.items ++ flat_map of (drop l.term-index l.rest) ≡ l.initial.list.items ++ flat_map of l.rest

-- what is listed, and the suffixes left over
abbrev pub invariant-add_suffixes-loop-suffix : goal.invariant-add_suffixes-loop-suffix
invariant-add_suffixes-loop-suffix l =
    let of = suffix_facts (env_of l.around) (values_of l.defines) in
    l.list.items ++ flat_map of (drop l.suffix-index l.suffixes) ≡ l.initial.list.items ++ flat_map of l.suffixes
