-- Strings that are written and read again.
use Rattle.std.proofs.Common.{◌≡◌, ℕ, Bool, true, false, cond, List, [], ◌∷◌, ◌++◌, refl, ap, sym, ◌∙◌, arith}
use Rattle.std.specs.List.{flat_map}
use Rattle.std.proofs.lemmas.Bool.Decides.{nat_tests}
use Rattle.dpi_lex.specs.Bytes.{is_among, is_backslash, is_quote}
use Rattle.dpi_literal.specs.Texts.{replaced, spelled}

among_one : (c b : ℕ) → is_among (c ∷ []) b ≡ true → b ≡ c
among_one c b h = grind (arith, nat_tests)

-- a byte as it is written, before any text
spelled_by : (b : ℕ) (rest : List ℕ) (feed quote slash : Bool) → is_among (10 ∷ []) b ≡ feed →
    is_quote b ≡ quote → is_backslash b ≡ slash →
    replaced false (cond feed (92 ∷ 110 ∷ []) (cond quote (92 ∷ 34 ∷ []) (cond slash (92 ∷ 92 ∷ []) (b ∷ []))) ++ rest)
    ≡ b ∷ replaced false rest
spelled_by b rest true quote slash f q s = ap (λ x. x ∷ replaced false rest) (sym (among_one 10 b f))
spelled_by b rest false true slash f q s = ap (λ x. x ∷ replaced false rest) (sym (among_one 34 b q))
spelled_by b rest false false true f q s = ap (λ x. x ∷ replaced false rest) (sym (among_one 92 b s))
spelled_by b rest false false false f q s =
    ap (λ t. cond t (replaced true rest) (b ∷ replaced false rest)) s

pub replaced-spelled : (text : List ℕ) → replaced false (flat_map spelled text) ≡ text
replaced-spelled [] = refl
replaced-spelled (b ∷ more) =
    spelled_by b (flat_map spelled more) (is_among (10 ∷ []) b) (is_quote b) (is_backslash b) refl refl refl
    ∙ ap (λ rest. b ∷ rest) (replaced-spelled more)
