use Rattle.std.proofs.Common.{◌≡◌, ◌++◌}
use Rattle.std.specs.Prelude.{is_some}
use Rattle.dpi_rules.specs.Least.{noted}
use Rattle.dpi_rules.proofs.Noting.{noted_both}
use Rattle.c_typing.specs.Judged.{rule_at}
use Rattle.c_typing.specs.Written.{star_rule}
use Rattle.c_functions.specs.Params.{place, place_token, void_violations, written, array_violations, reserved_violations}
use Rattle.c_functions.proofs.params.note_param.Goals as goal

pub returns : goal.returns
returns c =
    let file = c.args.file in
    let p = c.args.param.now in
    let start = c.args.found.now in
    let stars = rule_at (place file (place_token p.kind.token p.name)) (star_rule p.stars (is_some p.array)) in
    let void = void_violations file p.name (written p) in
    let array = array_violations file p.array in
    let name = reserved_violations file p.name in
    let at_stars : c.note_stars.new.found ≡ noted start stars = rw (c.place_token-token.ensures, c.as_slice.ensures, c.is_some.ensures) at c.note_stars.ensures in
    let at_void : c.note_void_name.new.found ≡ noted c.note_stars.new.found void = rw c.written.ensures at c.note_void_name.ensures in
    noted_both start (stars ++ void ++ array) name
    (noted_both start (stars ++ void) array
    (noted_both start stars void at_stars at_void)
    c.note_array.ensures)
    c.note_reserved_name.ensures
