-- The token that an expression is, by its tree and as the walk sees it.
use Rattle.std.proofs.Common.{◌≡◌, List, [], ◌∷◌, map, refl, sym, ap, ◌∙◌, Option, Some, None}
use Rattle.std.specs.Prelude.{option_map}
use Rattle.c_tree.specs.declared.expr.CExpr.{CExpr, out-CExpr}
use Rattle.c_tree.specs.declared.expr.Cond.{Cond, out-Cond}
use Rattle.c_tree.specs.declared.expr.Chain.{Chain, out-Chain}
use Rattle.c_tree.specs.declared.expr.Operand.{Operand as OperandTree, out-Operand}
use Rattle.c_tree.specs.declared.expr.Prefix.{Prefix}
use Rattle.c_tree.specs.declared.expr.Primary.{Primary, out-Primary, roll-Primary, roll-out-Primary, fold-roll-Primary}
use Rattle.c_tree.specs.declared.expr.Primary.TheOpen.{Primary-F}
use Rattle.c_printf.specs.Strings.{Layer}
use Rattle.c_judge.specs.Words.{Word, layer_word, bare, alone, unchosen, primary_word, operand_word, chain_word, cond_word, word_of}
use Rattle.c_judge.specs.Calls.{Env}
use Rattle.c_judge.specs.Judge.{Seen, Placed, Assigned, Suffixes, Choices, Links, words_of, primary_step, suffix_step, assignment_step, expr_step, chain_step, choice_step, cond_step, operand_step, term_step, placed, primary, suffix, assignment_of, chain, choice, cond, operand, term}
use Rattle.c_judge.proofs.Trees.{expr_is, cond_is, chain_is, operand_is}

alone_mapped : {A B : Type 0} (f : A → B) (w : Word) (xs : List A) → alone w (map f xs) ≡ alone w xs
alone_mapped f w [] = refl
alone_mapped f w (x ∷ xs) = refl

unchosen_mapped : {A B : Type 0} (f : A → B) (w : Word) (o : Option A) → unchosen w (option_map f o) ≡ unchosen w o
unchosen_mapped f w None = refl
unchosen_mapped f w (Some x) = refl

bare_mapped : {A B : Type 0} (f : A → B) (ps : List Prefix) (xs : List A) (w : Word) → bare ps (map f xs) w ≡ bare ps xs w
bare_mapped f [] [] w = refl
bare_mapped f [] (x ∷ xs) w = refl
bare_mapped f (p ∷ ps) xs w = refl

layer_seen : (env : Env) (l : Layer) → (primary env (roll-Primary l)).word ≡ layer_word l
layer_seen env (Primary-F.Name n) = ap (λ (s : Seen). s.word) (fold-roll-Primary Seen Suffixes Assigned Placed Seen Choices Placed Seen Links (primary_step env) (suffix_step env) (assignment_step env) (expr_step env) (chain_step env) (choice_step env) (cond_step env) (operand_step env) (term_step env) (Primary-F.Name n))
layer_seen env (Primary-F.Number n) = ap (λ (s : Seen). s.word) (fold-roll-Primary Seen Suffixes Assigned Placed Seen Choices Placed Seen Links (primary_step env) (suffix_step env) (assignment_step env) (expr_step env) (chain_step env) (choice_step env) (cond_step env) (operand_step env) (term_step env) (Primary-F.Number n))
layer_seen env (Primary-F.Character c) = ap (λ (s : Seen). s.word) (fold-roll-Primary Seen Suffixes Assigned Placed Seen Choices Placed Seen Links (primary_step env) (suffix_step env) (assignment_step env) (expr_step env) (chain_step env) (choice_step env) (cond_step env) (operand_step env) (term_step env) (Primary-F.Character c))
layer_seen env (Primary-F.Text t) = ap (λ (s : Seen). s.word) (fold-roll-Primary Seen Suffixes Assigned Placed Seen Choices Placed Seen Links (primary_step env) (suffix_step env) (assignment_step env) (expr_step env) (chain_step env) (choice_step env) (cond_step env) (operand_step env) (term_step env) (Primary-F.Text t))
layer_seen env (Primary-F.Null k) = ap (λ (s : Seen). s.word) (fold-roll-Primary Seen Suffixes Assigned Placed Seen Choices Placed Seen Links (primary_step env) (suffix_step env) (assignment_step env) (expr_step env) (chain_step env) (choice_step env) (cond_step env) (operand_step env) (term_step env) (Primary-F.Null k))
layer_seen env (Primary-F.Call n k es) = ap (λ (s : Seen). s.word) (fold-roll-Primary Seen Suffixes Assigned Placed Seen Choices Placed Seen Links (primary_step env) (suffix_step env) (assignment_step env) (expr_step env) (chain_step env) (choice_step env) (cond_step env) (operand_step env) (term_step env) (Primary-F.Call n k es))
layer_seen env (Primary-F.Group k e) = ap (λ (s : Seen). s.word) (fold-roll-Primary Seen Suffixes Assigned Placed Seen Choices Placed Seen Links (primary_step env) (suffix_step env) (assignment_step env) (expr_step env) (chain_step env) (choice_step env) (cond_step env) (operand_step env) (term_step env) (Primary-F.Group k e))

primary_seen : (env : Env) (p : Primary) → (primary env p).word ≡ primary_word p
primary_seen env p = ap (λ x. (primary env x).word) (sym (roll-out-Primary p)) ∙ layer_seen env (out-Primary p)

operand_seen : (env : Env) (x : OperandTree) → (operand env x).word ≡ operand_word x
operand_seen env x =
    let o = out-Operand x in
    ap (λ (s : Seen). s.word) (operand_is env x)
    ∙ bare_mapped (suffix env) o.prefixes o.suffixes (primary env o.primary).word
    ∙ ap (bare o.prefixes o.suffixes) (primary_seen env o.primary)

chain_seen : (env : Env) (x : Chain) → (chain env x).word ≡ chain_word x
chain_seen env x =
    let o = out-Chain x in
    ap (λ (s : Seen). s.word) (chain_is env x)
    ∙ alone_mapped (term env) (operand env o.first).word o.rest
    ∙ ap (λ w. alone w o.rest) (operand_seen env o.first)

cond_seen : (env : Env) (x : Cond) → (cond env x).word ≡ cond_word x
cond_seen env x =
    let o = out-Cond x in
    ap (λ (s : Placed). s.word) (cond_is env x)
    ∙ unchosen_mapped (choice env) (chain env o.chain).word o.choice
    ∙ ap (λ w. unchosen w o.choice) (chain_seen env o.chain)

expr_seen : (env : Env) (x : CExpr) → (placed env x).word ≡ word_of x
expr_seen env x =
    let o = out-CExpr x in
    ap (λ (s : Placed). s.word) (expr_is env x)
    ∙ alone_mapped (assignment_of env) (cond env o.first).word o.rest
    ∙ ap (λ w. alone w o.rest) (cond_seen env o.first)

pub words_seen : (env : Env) (es : List CExpr) → map word_of es ≡ words_of (map (placed env) es)
words_seen env [] = refl
words_seen env (e ∷ es) = ap (λ w. w ∷ map word_of es) (sym (expr_seen env e)) ∙ ap (λ ws. (placed env e).word ∷ ws) (words_seen env es)
