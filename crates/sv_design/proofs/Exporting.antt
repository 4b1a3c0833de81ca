-- Exports, module by module.
use Rattle.std.proofs.Common.{◌≡◌, ℕ, List, ◌∷◌, ◌++◌, sym, ap, ◌∙◌, append_assoc}
use Rattle.sv_instances.specs.Modules.{InFile}
use Rattle.sv_design.specs.declared.exports.Export.{Export}
use Rattle.sv_design.specs.Exports.{behind_items, module_exports, exports_from}

-- one module more
pub exports_next : (all listed next : List Export) (n k : ℕ) (ms ns : List InFile) (m : InFile) → ms ≡ m ∷ ns → next ≡ listed ++ module_exports n m → k ≡ behind_items n m.tree.items → listed ++ exports_from n ms ≡ all → next ++ exports_from k ns ≡ all
exports_next all listed next n k ms ns m here made behind loop =
    ap (λ l. l ++ exports_from k ns) made
    ∙ append_assoc listed (module_exports n m) (exports_from k ns)
    ∙ ap (λ j. listed ++ (module_exports n m ++ exports_from j ns)) behind
    ∙ ap (λ l. listed ++ exports_from n l) (sym here)
    ∙ loop
