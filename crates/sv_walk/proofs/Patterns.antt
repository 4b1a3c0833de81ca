-- What a pattern violates, by its parts.
use Rattle.std.proofs.Common.{◌≡◌, ℕ, List, ◌++◌, map, flat_map, length, sym, ap, ◌∙◌, Option}
use Rattle.std.proofs.lemmas.List.{length-map}
use Rattle.std.proofs.lemmas.List.Folds.{flat_map-map}
use Rattle.sv_tree.specs.declared.statements.Init.{Init, fold-roll-Init}
use Rattle.sv_tree.specs.declared.statements.Init.TheVariants as inits
use Rattle.sv_tree.specs.declared.statements.Init.TheOpen.{Init-F}
use Rattle.sv_typing.specs.declared.types.ExprType.{ExprType}
use Rattle.sv_contexts.specs.Patterns.{pattern_violations, part_target}
use Rattle.sv_judge.specs.Calls.{Env}
use Rattle.sv_walk.specs.Values.{Assigned, init_step, init_violations}

pub pattern_is : (env : Env) (k : ℕ) (parts : List Init) (target : Option ExprType)
    → init_violations env (inits.Pattern k parts) target
    ≡ pattern_violations env.file k target (length parts) ++ flat_map (λ x. init_violations env x (part_target target)) parts
pattern_is env k parts target =
    ap (λ f. f target) (ap (init_violations env) (sym (inits.rolls-Pattern k parts)) ∙ fold-roll-Init Assigned (init_step env) (Init-F.Pattern k parts))
    ∙ ap (λ n. pattern_violations env.file k target n ++ flat_map (λ (p : Assigned). p (part_target target)) (map (init_violations env) parts)) (length-map parts (init_violations env))
    ∙ ap (λ vs. pattern_violations env.file k target (length parts) ++ vs) (flat_map-map (λ (p : Assigned). p (part_target target)) (init_violations env) parts)
