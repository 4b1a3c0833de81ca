use Rattle.std.proofs.Common.{◌≡◌, map, ap, ◌∙◌}
use Rattle.std.specs.Vec.{vec_items}
use Rattle.sv_design.specs.Items.{declarations_in}
use Rattle.sv_design.specs.Subroutines.{subroutines_in}
use Rattle.sv_design.specs.Imports.{imports_in}
use Rattle.sv_lookup.specs.Facts as told
use Rattle.sv_lookup.specs.Meanings.{numbering, declaration_place, subroutine_place, import_place, meaning_in}
use Rattle.sv_check.specs.Facts.{facts_in, numbering_in}
use Rattle.sv_check.proofs.Told.{few_facts}
use Rattle.sv_check.proofs.lists.lookup_of.Goals as goal

pub of-requires : goal.of-requires
of-requires c =
    few_facts vec_items c.deref.result.now c.args.files.now (ap (map vec_items) c.deref.ensures.value ∙ c.in_ok-facts.ensures) c.requires.few

pub returns : goal.returns
returns c =
    let files = c.args.files.now in
    let kept = map vec_items c.deref.result.now in
    let is = c.args.imports.now in
    let bs = c.args.blocks.now in
    let ss = c.args.subroutines.now in
    let facts : kept ≡ facts_in files = ap (map vec_items) c.deref.ensures.value ∙ c.in_ok-facts.ensures in
    let declarations = map declaration_place (declarations_in files) in
    let subroutines = map subroutine_place (subroutines_in files) in
    record {
      meanings =
          c.in_ok-lookup.ensures.meanings
          ∙ ap (λ l. meaning_in (numbering (map declaration_place l) (map subroutine_place ss) (map import_place is) bs) kept) c.requires.declarations
          ∙ ap (λ l. meaning_in (numbering declarations (map subroutine_place l) (map import_place is) bs) kept) c.requires.subroutines
          ∙ ap (λ l. meaning_in (numbering declarations subroutines (map import_place l) bs) kept) c.requires.imports
          ∙ ap (λ l. meaning_in (numbering declarations subroutines (map import_place (imports_in files)) l) kept) c.requires.blocks
          ∙ ap (meaning_in (numbering_in files)) facts;
      types = c.in_ok-lookup.ensures.types ∙ ap told.types_in facts;
    }
