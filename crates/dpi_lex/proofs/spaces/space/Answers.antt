use Rattle.std.proofs.Common.{◌≡◌, ℕ, List, sym, refl, ◌||◌, [], ◌∷◌}
use Rattle.dpi_lex.specs.declared.form.Form.TheVariants.{Skipped}
use Rattle.dpi_lex.specs.Bytes.{is_blank}
use Rattle.dpi_lex.specs.Place.{is_line_feed}
use Rattle.dpi_lex.specs.Shapes.{is_space}
use Rattle.dpi_lex.proofs.SingleLemmas.{single, longest_front-single}
use Rattle.dpi_lex.proofs.spaces.space.Goals as goal

is_space-single : (front : List ℕ) →
    is_space front ≡ single (λ b. is_blank b || is_line_feed b) front
is_space-single [] = refl
is_space-single (b ∷ []) = refl
is_space-single (b ∷ c ∷ more) = refl

pub returns-clause-stretch : goal.returns-clause-stretch
returns-clause-stretch c =
    sym (longest_front-single (λ b. is_blank b || is_line_feed b) is_space Skipped c.args.rest.now
    is_space-single c.requires.some c.requires.starts)
