use Rattle.std.proofs.Common.{◌≡◌, ◌<◌, ℕ, Option, length, get_or, sym, ap, ◌∙◌, subst}
use Rattle.std.specs.Prelude.{IsSome}
use Rattle.sv_design.specs.Imports.{imports_in}
use Rattle.dpi_decl.specs.Pair.{Pair}
use Rattle.dpi_decl.specs.Functions as calling
use Rattle.dpi_decl.proofs.Called.{function_there, answer_at}
use Rattle.dpi_decl.proofs.linked.Linked.function_of.Goals as goal

-- what was looked up
found : (c : goal.After-unwrap-arg-1) → calling.function_of c.self.inside.design c.self.inside.program c.args.import ≡ c.index.result.now
found c =
    let in_range = λ (p : Pair). c.args.import < length (imports_in p.svs) in
    let list = ap (λ ys. get_or ys c.args.import c.index.result.now) c.self.invariant.functions_are in
    answer_at (calling.called_function c.self.inside.program) (imports_in c.self.inside.design) c.args.import c.index.result.now (subst in_range (sym c.self.view_is) c.requires) (c.index.ensures ∙ list)

pub unwrap-requires : goal.unwrap-requires
unwrap-requires c =
    let in_range = λ (p : Pair). c.args.import < length (imports_in p.svs) in
    let inside = subst in_range (sym c.self.view_is) c.requires in
    let there = function_there c.self.inside.design c.self.inside.program c.args.import c.self.invariant.clean_in_sv c.self.invariant.clean inside in
    subst (λ (o : Option ℕ). IsSome o) (found c) there

pub returns : goal.returns
returns c =
    let in_range = λ (p : Pair). c.args.import < length (imports_in p.svs) in
    let list = ap (λ ys. get_or ys c.args.import c.index.result.now) c.self.invariant.functions_are in
    let told = answer_at (calling.called_function c.self.inside.program) (imports_in c.self.inside.design) c.args.import c.index.result.now (subst in_range (sym c.self.view_is) c.requires) (c.index.ensures ∙ list) in
    ap (λ (p : Pair). calling.function_of p.svs p.cs c.args.import) (sym c.self.view_is) ∙ told ∙ c.unwrap.ensures
