use Rattle.std.proofs.Common.{◌≡◌, ◌++◌, false}
use Rattle.dpi_rules.specs.Least.{noted}
use Rattle.dpi_rules.proofs.Noting.{noted_both}
use Rattle.c_typing.specs.Judged.{rule_at}
use Rattle.c_typing.specs.Written.{star_rule}
use Rattle.c_library.specs.Reserved.{name_violations}
use Rattle.c_functions.specs.Params.{place}
use Rattle.c_functions.specs.Types.{params_violations}
use Rattle.c_functions.proofs.written.note_function_type.Goals as goal

pub returns : goal.returns
returns c =
    let file = c.args.file in
    let f = c.args.function.now in
    let start = c.args.found.now in
    let stars = rule_at (place file f.name.token) (star_rule f.stars false) in
    let name = name_violations file f.name.token f.name.bytes in
    let at_stars : c.note_stars.new.found ≡ noted start stars = rw c.as_slice.ensures at c.note_stars.ensures in
    let at_name : c.note_reserved.new.found ≡ noted c.note_stars.new.found name = rw c.as_slice-2.ensures at c.note_reserved.ensures in
    noted_both start (stars ++ name) (params_violations file f.params)
    (noted_both start stars name at_stars at_name)
    c.note_params.ensures
