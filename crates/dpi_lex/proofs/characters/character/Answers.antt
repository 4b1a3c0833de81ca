use Rattle.std.proofs.Common.{◌≡◌, true, false, get_or, sym, ap, ◌∙◌, arith, inl, inr}
use Rattle.std.specs.Prelude.{◌⊎◌}
use Rattle.std.proofs.lemmas.Bool.Decides.{nat_tests}
use Rattle.dpi_lex.specs.Bytes.{is_apostrophe, is_backslash}
use Rattle.dpi_lex.specs.C.{is_character_byte}
use Rattle.dpi_lex.proofs.CharacterLemmas.{front_of-character, front_of-no_byte}
use Rattle.dpi_lex.proofs.characters.character.Goals as goal
use Rattle.dpi_lex.proofs.characters.character.Goals.{else-is_character_byte-via-then-is_character_byte+else-byte_at-eq39}
use Rattle.dpi_lex.proofs.characters.character.Goals.{else-is_character_byte-via-else-is_character_byte}

pub returns-then-byte_at-eq39-clause-stretch : goal.returns-then-byte_at-eq39-clause-stretch
returns-then-byte_at-eq39-clause-stretch c =
    let rest = c.args.rest.now in
    let no_slash : is_backslash (get_or rest 1 0) ≡ false = grind (arith, nat_tests) in
    let byte : is_character_byte (get_or rest 1 0) ≡ true =
    ap is_character_byte (sym c.byte_at-else-byte_at-eq92.ensures)
    ∙ sym c.is_character_byte.ensures ∙ c.if-is_character_byte.true in
    let closed : is_apostrophe (get_or rest 2 0) ≡ true = grind (arith, nat_tests) in
    sym (front_of-character rest c.requires no_slash byte closed)

pub returns-else-is_character_byte-clause-stretch :
    goal.returns-else-is_character_byte-clause-stretch
returns-else-is_character_byte-clause-stretch c =
    let rest = c.args.rest.now in
    let no_slash : is_backslash (get_or rest 1 0) ≡ false = grind (arith, nat_tests) in
    let none : (is_character_byte (get_or rest 1 0) ≡ false) ⊎
    (is_apostrophe (get_or rest 2 0) ≡ false) =
    elim c.else-is_character_byte.branch [
      | else-is_character_byte-via-then-is_character_byte+else-byte_at-eq39 w ↦ inr
          (grind (arith, nat_tests))
      | else-is_character_byte-via-else-is_character_byte w ↦ inl
          (ap is_character_byte (sym c.byte_at-else-byte_at-eq92.ensures)
          ∙ sym c.is_character_byte.ensures ∙ w.if-is_character_byte.false)
    ] in
    c.bad_byte.ensures ∙ sym (front_of-no_byte rest no_slash none)
