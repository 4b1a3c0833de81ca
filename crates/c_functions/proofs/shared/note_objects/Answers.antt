use Rattle.std.proofs.Common.{◌≡◌, flat_map, subst}
use Rattle.dpi_rules.specs.Least.{noted}
use Rattle.c_functions.specs.Objects.{objects_of}
use Rattle.c_functions.specs.Shared.{Keeps, violations_by, kept_of}
use Rattle.c_functions.proofs.Kept.{kept_violations}
use Rattle.c_functions.proofs.shared.note_objects.Goals as goal

pub returns : goal.returns
returns c =
    let start = c.args.found.now in
    let end = c.note_all.new.found in
    let os = objects_of c.args.files.now in
    let kept = c.in_ok-definitions.definitions in
    let keeps : Keeps kept os = rw (c.as_slice.ensures, c.in_ok-objects.ensures) at c.in_ok-definitions.ensures in
    let all : end ≡ noted start (flat_map (violations_by (kept_of kept)) os) = rw (c.as_slice-2.ensures, c.in_ok-objects.ensures) at c.note_all.ensures in
    subst (λ f. end ≡ noted start (flat_map f os)) (kept_violations kept os keeps) all
