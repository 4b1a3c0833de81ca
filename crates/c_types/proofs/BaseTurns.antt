-- The loop over the words of a base reads what `base_from` reads.
use Rattle.std.proofs.Common.{◌≡◌, ℕ, suc, ◌+◌, ◌-◌, ◌<◌, ◌≤◌, List, [], ◌∷◌, ◌++◌, Some, None, ap, ◌∙◌, sym, arith}
use Rattle.dpi_grammar.specs.Parser.{State, Outcome, first, step}
use Rattle.dpi_lex.specs.Words.{Word}
use Rattle.c_tree.specs.declared.types.BaseWord.{BaseWord}
use Rattle.c_tree.specs.declared.types.BaseRest.{BaseRest}
use Rattle.c_types.specs.Reading.{word_next, base_end, base_turn, base_from}

base_begun : (o : Outcome Word (List BaseWord)) (at : ℕ) (r : BaseRest) (found : List BaseWord) (s : State Word) → at < 4 → o ≡ base_from (4 - at) r found s
    → o ≡ base_turn (base_from (4 - (at + 1))) r found (word_next r (first s.rest)) s
unfolding base_from
base_begun o at r found s below e = let n : 4 - at ≡ suc (4 - (at + 1)) = omega arith in e ∙ ap (λ n. base_from n r found s) n

-- no word comes next
pub base_stops : (o : Outcome Word (List BaseWord)) (at : ℕ) (r : BaseRest) (found : List BaseWord) (s : State Word) → at < 4 → o ≡ base_from (4 - at) r found s
    → word_next r (first s.rest) ≡ None → o ≡ base_end r found s
base_stops o at r found s below e none = base_begun o at r found s below e ∙ ap (λ p. base_turn (base_from (4 - (at + 1))) r found p s) none

-- a word was read
pub base_goes : (o : Outcome Word (List BaseWord)) (at : ℕ) (r : BaseRest) (found : List BaseWord) (s : State Word) (w : BaseWord) (q : BaseRest) (more : List BaseWord) (after : State Word)
    → at < 4 → o ≡ base_from (4 - at) r found s → word_next r (first s.rest) ≡ Some (w, q) → more ≡ found ++ w ∷ [] → after ≡ step s → o ≡ base_from (4 - (at + 1)) q more after
base_goes o at r found s w q more after below e some pushed stepped = base_begun o at r found s below e
    ∙ ap (λ p. base_turn (base_from (4 - (at + 1))) r found p s) some
    ∙ ap (λ l. base_from (4 - (at + 1)) q l (step s)) (sym pushed)
    ∙ ap (λ s. base_from (4 - (at + 1)) q more s) (sym stepped)

-- no turn is left
pub base_over : (o : Outcome Word (List BaseWord)) (at : ℕ) (r : BaseRest) (found : List BaseWord) (s : State Word) → 4 ≤ at → o ≡ base_from (4 - at) r found s → o ≡ base_end r found s
unfolding base_from
base_over o at r found s done e = let n : 4 - at ≡ 0 = omega arith in e ∙ ap (λ n. base_from n r found s) n
