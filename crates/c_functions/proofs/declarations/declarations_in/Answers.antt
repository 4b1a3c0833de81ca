use Rattle.std.proofs.Common.{◌≡◌, map, flat_map, ℕ, List, subst}
use Rattle.std.specs.Prelude.{IfOk, Bool}
use Rattle.c_functions.specs.Declarations.{told, external_known, has, statics_in}
use Rattle.c_functions.proofs.declarations.declarations_in.Goals as goal

pub returns : goal.returns
returns c =
    let tree = c.args.tree.now in
    let statics = c.in_ok-statics.statics in
    let names = c.as_slice-externals.ensures in
    let is : (q : List ℕ) → has statics q ≡ statics_in tree.externals q = rw names at c.in_ok-statics.ensures in
    let list : IfOk c.listed.result (λ list. map told list ≡ flat_map (external_known c.args.file (has statics)) tree.externals) = rw names at c.listed.ensures in
    let same : has statics ≡ statics_in tree.externals = λ i q. is q i in
    subst (λ (statics : (List ℕ → Bool)). IfOk c.listed.result (λ list. map told list ≡ flat_map (external_known c.args.file statics) tree.externals)) same list
