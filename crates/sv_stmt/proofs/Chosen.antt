-- What is read where the next token passes a test, and where it doesn't.
use Rattle.std.proofs.Common.{◌≡◌, Bool, true, false, Option, refl, ap}
use Rattle.dpi_grammar.specs.Parser.{State, Parser, first}
use Rattle.dpi_grammar.specs.Choices.{choose, choose_by}

module _ {T A : Type 0} (begins : Option T → Bool) (p q : Parser T A) (s : State T) where
  pub chosen : begins (first s.rest) ≡ true → choose begins p q s ≡ p s
  chosen e = ap (λ b. choose_by b p q s) e

  pub passed : begins (first s.rest) ≡ false → choose begins p q s ≡ q s
  passed e = ap (λ b. choose_by b p q s) e
