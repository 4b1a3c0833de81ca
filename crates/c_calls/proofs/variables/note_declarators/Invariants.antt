use Rattle.std.proofs.Common.{drop}
use Rattle.dpi_rules.proofs.Noting.{IsNoted}
use Rattle.c_calls.specs.Refusals.{rules_of}
use Rattle.c_calls.specs.Statements.{in_declarator}
use Rattle.c_calls.proofs.variables.note_declarators.Given as goal

-- what is noted so far, and what the ones left over break
abbrev pub invariant-loop-declarator : goal.invariant-loop-declarator
invariant-loop-declarator l = IsNoted (in_declarator l.file (rules_of l.refusals)) l.initial.found l.declarators (drop l.declarator-index l.declarators) l.found
