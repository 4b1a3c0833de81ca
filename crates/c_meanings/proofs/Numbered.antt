-- External declarations in turn, each with the number of the functions before it.
use Rattle.std.proofs.Common.{◌≡◌, ℕ, ◌+◌, ◌<◌, ◌≤◌, List, length, drop, get_or, sym, ap, ◌∙◌}
use Rattle.std.proofs.lemmas.List.{drop_all}
use Rattle.c_tree.specs.declared.file.External.{External}
use Rattle.c_meanings.specs.Sight.{both, nothing}
use Rattle.c_walk.specs.Around.{Around}
use Rattle.c_walk.specs.File.{functions_with}
use Rattle.c_meanings.specs.File.{external_tells, externals_tell}
use Rattle.c_meanings.proofs.Adding.{rest_of}

pub externals_next : (a : Around) (n n' : ℕ) (es : List External) (i : ℕ) (e : External) → i < length es → e ≡ get_or es i e → n' ≡ functions_with n e → externals_tell a n (drop i es) ≡ both (external_tells a n e) (externals_tell a n' (drop (i + 1) es))
externals_next a n n' es i e h is next =
    ap (externals_tell a n) (rest_of es i e h is) ∙ ap (λ m. both (external_tells a n e) (externals_tell a m (drop (i + 1) es))) (sym next)

pub externals_last : (a : Around) (n : ℕ) (es : List External) (i : ℕ) → length es ≤ i → externals_tell a n (drop i es) ≡ nothing
externals_last a n es i h = ap (externals_tell a n) (drop_all i es h)
