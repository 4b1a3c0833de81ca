use Rattle.std.proofs.Common.{rules, ◌≡◌, ◌∙◌, ap, to_z, of_z}
use Rattle.dpi_literal.specs.declared.c_constants.CConstant.{CConstant}
use Rattle.dpi_literal.specs.Constants.{define_value}
use Rattle.c_walk.proofs.defines.value_of.Goals as goal
use mir.Syntax.{w128}

pub returns : goal.returns
returns c =
    let is = ap (λ (k : CConstant). k.value) (c.c_define_value.ensures ∙ ap define_value c.as_slice.ensures) in
    let kept : to_z w128 (of_z w128 c.c_define_value.result.value) ≡ c.c_define_value.result.value = search rules in
    kept ∙ is
