use Rattle.std.proofs.Common.{◌≡◌, map, ap, ◌∙◌}
use Rattle.std.specs.Vec.{vec_items}
use Rattle.c_program.specs.Functions.{functions_of}
use Rattle.c_program.specs.Objects.{objects_of}
use Rattle.c_lookup.specs.Facts as told
use Rattle.c_lookup.specs.Meanings.{numbering, meaning_in}
use Rattle.c_check.specs.Facts.{facts_in}
use Rattle.c_check.proofs.Told.{few_facts}
use Rattle.c_check.proofs.lists.lookup_of.Goals as goal

pub of-requires-clause-facts : goal.of-requires-clause-facts
of-requires-clause-facts c =
    few_facts vec_items c.deref.result.now c.args.files.now (ap (map vec_items) c.deref.ensures.value ∙ c.in_ok-facts.ensures) c.requires.few

pub returns : goal.returns
returns c =
    let files = c.args.files.now in
    let kept = map vec_items c.deref.result.now in
    let os = c.args.objects.now in
    let facts : kept ≡ facts_in files = ap (map vec_items) c.deref.ensures.value ∙ c.in_ok-facts.ensures in
    record {
      meanings =
          c.in_ok-lookup.ensures.meanings
          ∙ ap (λ l. meaning_in (numbering files l os) kept) c.requires.functions
          ∙ ap (λ l. meaning_in (numbering files (functions_of files) l) kept) c.requires.objects
          ∙ ap (meaning_in (numbering files (functions_of files) (objects_of files))) facts;
      types = c.in_ok-lookup.ensures.types ∙ ap told.types_in facts;
    }
