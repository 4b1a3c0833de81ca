-- Numbers by positions and declarations that are known.
use Rattle.std.proofs.Common.{◌≡◌, ℕ, Result, subst}
use Rattle.std.specs.Prelude.{IfOk}
use Rattle.dpi_ports.specs.declared.no_memory.NoMemory.{NoMemory}
use Rattle.dpi_table.specs.declared.tables.Tables.{Tables}
use Rattle.dpi_table.specs.Files.{FileValues, in_file}

-- what comes of two things comes of what they are
pub by_parts : {A B : Type 0} (of : A → B → FileValues ℕ) (r : Result (Tables ℕ) NoMemory) (a a' : A) (b b' : B) → a ≡ a' → b ≡ b'
    → IfOk r (λ numbers. in_file numbers ≡ of a b) → IfOk r (λ numbers. in_file numbers ≡ of a' b')
by_parts {A} {B} of r a a' b b' d e h =
    let P : A → Type 0 = λ x. IfOk r (λ numbers. in_file numbers ≡ of x b) in
    let Q : B → Type 0 = λ y. IfOk r (λ numbers. in_file numbers ≡ of a' y) in
    subst Q e (subst P d h)
