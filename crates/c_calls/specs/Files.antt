-- Refused calls in a file.
use Rattle.std.specs.Prelude.{ℕ, List, [], map}
use Rattle.c_tree.specs.declared.file.Body.{Body}
use Rattle.c_tree.specs.declared.file.Body.TheVariants as bodies
use Rattle.c_tree.specs.declared.file.External.{External}
use Rattle.c_tree.specs.declared.file.External.TheVariants as externals
use Rattle.c_tree.specs.declared.file.CFile.{CFile}
use Rattle.c_calls.specs.Refusals.{Rules}
use Rattle.c_calls.specs.Expressions.{Broken, all_of}
use Rattle.c_calls.specs.Statements.{in_variables, in_block}

module _ (file : ℕ) (rules : Rules) where
  abbrev pub in_body : Body → Broken
  in_body (bodies.Prototype k) = []
  in_body (bodies.Block b) = in_block file rules b

  abbrev pub in_external : External → Broken
  in_external (externals.Define d) = []
  in_external (externals.Function f) = in_body f.body
  in_external (externals.Variables v) = in_variables file rules v

  -- the calls of a file that break a rule, each at its name
  abbrev pub in_file : CFile → Broken
  in_file f = all_of (map in_external f.externals)
