use Rattle.std.proofs.Common.{◌≤◌, List, length, sym, ap, ◌∙◌, subst}
use Rattle.c_tree.specs.declared.file.CFile.{CFile}
use Rattle.c_program.specs.Functions.{functions_of}
use Rattle.c_program.specs.Objects.{objects_of}
use Rattle.c_check.specs.Check.{violations}
use Rattle.c_check.specs.Facts.{meanings_in, types_in}
use Rattle.c_check.proofs.programs.CProgram.new.Goals as goal

pub invariant_of-result : goal.invariant_of-result
invariant_of-result c =
    let kept = c.in_ok-files.ensures in
    let same = c.as_slice-trees.ensures.value ∙ sym kept in
    let P : List CFile → Type 0 = λ fs. length fs ≤ 1000 in
    record {
      few = subst P (sym kept) c.requires.few;
      clean = ap violations kept ∙ c.requires.clean;
      functions_are = c.in_ok-functions.ensures ∙ c.in_ok-functions_of.ensures ∙ ap functions_of same;
      objects_are = c.in_ok-objects.ensures ∙ c.in_ok-objects_of.ensures ∙ ap objects_of same;
      meanings_are = c.in_ok-lookup.ensures.meanings ∙ ap meanings_in same;
      types_are = c.in_ok-lookup.ensures.types ∙ ap types_in same;
    }
