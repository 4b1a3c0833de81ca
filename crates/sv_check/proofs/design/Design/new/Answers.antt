use Rattle.std.proofs.Common.{◌≤◌, List, length, take, sym, ap, ◌∙◌, subst}
use Rattle.sv_tree.specs.declared.items.SvFile.{SvFile}
use Rattle.sv_instances.specs.Modules.{modules_in}
use Rattle.sv_design.specs.Items.{declarations_in}
use Rattle.sv_design.specs.Subroutines.{subroutines_in}
use Rattle.sv_design.specs.Imports.{imports_in}
use Rattle.sv_design.specs.Exports.{exports_in}
use Rattle.sv_design.specs.Places.{initials_in, blocks_in}
use Rattle.sv_scopes.specs.Instances.{instances}
use Rattle.sv_scopes.specs.Scopes.{scopes_in}
use Rattle.sv_scopes.specs.Variables.{variables_in}
use Rattle.sv_check.specs.Check.{violations}
use Rattle.sv_check.specs.Facts.{meanings_in, types_in}
use Rattle.sv_check.proofs.design.Design.new.Goals as goal

pub listed_scopes-requires-clause-listed : goal.listed_scopes-requires-clause-listed
listed_scopes-requires-clause-listed c =
    c.as_slice.ensures ∙ c.requires.listed ∙ ap (λ fs. take 1001 (instances 1001 (modules_in fs))) (sym c.as_slice-trees.ensures.value)

pub invariant_of-result : goal.invariant_of-result
invariant_of-result c =
    let kept = c.in_ok-files.ensures in
    let same = c.as_slice-trees.ensures.value ∙ sym kept in
    let P : List SvFile → Type 0 = λ fs. length fs ≤ 1000 in
    record {
      few = subst P (sym kept) c.requires.few;
      clean = ap violations kept ∙ c.requires.clean;
      scopes_are = c.in_ok-scopes.ensures ∙ ap scopes_in same;
      variables_are = c.in_ok-variables.ensures ∙ ap variables_in same;
      declarations_are = c.in_ok-declarations.ensures ∙ c.in_ok-declarations_of.ensures ∙ ap declarations_in same;
      subroutines_are = c.in_ok-subroutines.ensures ∙ c.in_ok-subroutines_of.ensures ∙ ap subroutines_in same;
      imports_are = c.in_ok-imports.ensures ∙ c.in_ok-imports_of.ensures ∙ ap imports_in same;
      exports_are = c.in_ok-exports.ensures ∙ c.in_ok-exports_of.ensures ∙ ap exports_in same;
      initials_are = c.in_ok-initials.ensures ∙ c.in_ok-initials_of.ensures ∙ ap initials_in same;
      blocks_are = c.in_ok-blocks.ensures ∙ c.in_ok-blocks_of.ensures ∙ ap blocks_in same;
      meanings_are = c.in_ok-lookup.ensures.meanings ∙ ap meanings_in same;
      types_are = c.in_ok-lookup.ensures.types ∙ ap types_in same;
    }
