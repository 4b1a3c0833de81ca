-- Declared names, and what variables begin with.
use Rattle.std.specs.Prelude.{Option, Some, None, List, [], ◌∷◌, ◌++◌, flat_map}
use Rattle.sv_tree.specs.declared.leaves.Name.{Name}
use Rattle.sv_tree.specs.declared.statements.Init.{Init, fold-Init}
use Rattle.sv_tree.specs.declared.statements.Init.TheOpen.{Init-F}
use Rattle.sv_tree.specs.declared.statements.Initializer.{Initializer}
use Rattle.sv_tree.specs.declared.statements.Declarator.{Declarator}
use Rattle.sv_tree.specs.declared.statements.Variables.{Variables}
use Rattle.sv_judge.specs.Calls.{Env}
use Rattle.sv_facts.specs.declared.facts.Meant.{Meant}
use Rattle.sv_facts.specs.declared.facts.Meant.TheVariants as meanings
use Rattle.sv_facts.specs.declared.facts.Fact.TheVariants as facts
use Rattle.sv_facts.specs.Exprs.{expr_facts}
use Rattle.sv_meanings.specs.Places.{Facts}

-- this name means this
abbrev pub means : Name → Meant → Facts
means n m = facts.Name n.token m ∷ []

-- a variable or a formal is told at its own name
abbrev pub declares : Name → Facts
declares n = means n (meanings.Declaration n.token)

-- a value, or the parts of a pattern
abbrev pub init_step : Env → Init-F Facts → Facts
init_step env (Init-F.Value e) = expr_facts env e
init_step env (Init-F.Pattern k parts) = flat_map (λ fs. fs) parts

abbrev pub init_facts : Env → Init → Facts
init_facts env = fold-Init Facts (init_step env)

-- what a variable begins with, if anything
abbrev pub initial_facts : Env → Option Initializer → Facts
initial_facts env None = []
initial_facts env (Some i) = init_facts env i.value

-- a variable: its name, and what it begins with
abbrev pub declarator_facts : Env → Declarator → Facts
declarator_facts env d = declares d.name ++ initial_facts env d.initializer

abbrev pub variables_facts : Env → Variables → Facts
variables_facts env v = flat_map (declarator_facts env) v.declarators
