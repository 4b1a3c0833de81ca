use Rattle.std.proofs.Common.{◌++◌, ◌∙◌, ap}
use Rattle.std.specs.Prelude.{flat_map}
use Rattle.dpi_rules.specs.Least.{noted}
use Rattle.dpi_rules.proofs.Noting.{noted_both}
use Rattle.c_forms.specs.Files as forms
use Rattle.c_functions.specs.Types.{function_types}
use Rattle.c_walk.specs.File as walk
use Rattle.c_check.specs.Check.{written_violations}
use Rattle.c_check.proofs.files.note_one.Goals as goal

pub returns : goal.returns
returns c =
    let n = c.args.number in
    let f = c.args.file.now in
    let form = forms.file_violations n f in
    let types = flat_map (written_violations n) f.externals in
    let typed = rw c.as_slice.ensures at c.note_types.ensures in
    let walked = c.in_ok-walk_file.ensures ∙ ap (λ fs. noted c.note_types.new.found (walk.file_violations n fs f)) (c.deref.ensures.value ∙ c.in_ok-functions.ensures) in
    noted_both c.args.found.now (form ++ types) (walk.file_violations n (function_types f) f) (noted_both c.args.found.now form types c.note_file.ensures typed) walked
