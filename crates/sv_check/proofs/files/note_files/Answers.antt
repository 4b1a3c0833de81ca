use Rattle.std.proofs.Common.{◌++◌, map, take, ap, ◌∙◌}
use Rattle.std.specs.Prelude.{flat_map}
use Rattle.dpi_rules.specs.Least.{noted}
use Rattle.dpi_rules.proofs.Noting.{noted_both}
use Rattle.sv_instances.specs.Modules.{told, modules_in}
use Rattle.sv_scopes.specs.Instances.{instances, instance_violations}
use Rattle.sv_check.specs.Modules.{module_violations}
use Rattle.sv_check.specs.Check.{forms_from}
use Rattle.sv_check.proofs.files.note_files.Goals as goal

pub returns : goal.returns
returns c =
    let files = c.args.files.now in
    let found = c.args.found.now in
    let listed = c.in_ok-modules.ensures in
    let here = ap (map told) c.deref.ensures.value ∙ listed in
    let made = c.in_ok-list.ensures.listed ∙ ap (λ ms. take 1001 (instances 1001 ms)) here in
    let noted_instances = c.in_ok-list.ensures.broken ∙ ap (λ ms. noted c.note_forms.new.found (instance_violations 1001 ms)) here in
    let noted_modules =
    c.in_ok-note_modules.ensures
    ∙ ap (λ ms. noted c.listed_instances.new.found (flat_map module_violations ms)) (ap (map told) c.deref-2.ensures.value ∙ listed) in
    let both = noted_both found (forms_from 0 files) (instance_violations 1001 (modules_in files)) c.note_forms.ensures noted_instances in
    let broken = noted_both found (forms_from 0 files ++ instance_violations 1001 (modules_in files)) (flat_map module_violations (modules_in files)) both noted_modules in
    record { listed = made; broken = broken }
