-- The parsers of blocks and of loops are exact, where those of their parts are.
use Rattle.std.proofs.Common.{◌≡◌, ℕ, Bool, true, false, ◌&&◌, ◌⊎◌, List, [], Option, Some, None, Ok, refl, sym, ap, ◌∙◌, subst, ◌++◌, inl, inr}
use Rattle.dpi_grammar.specs.Told.{words_in, IsRight}
use Rattle.dpi_grammar.specs.Parser.{and_then, expect, first}
use Rattle.dpi_grammar.proofs.Exact.{Kind, pair, words, Is}
use Rattle.dpi_grammar.proofs.Forms.{Form, told_form, within}
use Rattle.dpi_grammar.proofs.Rules.{Rule, never, place, one, behind, told_as, numbered, token_then, seq, mapped, last}
use Rattle.dpi_grammar.proofs.Many.{Starts, Apart, Repeats, list, many, or_both}
use Rattle.dpi_grammar.proofs.Firsts.{apart_back, list_apart, in_left, in_right}
use Rattle.dpi_grammar.proofs.Choices.{either, sum, choice, starts_off}
use Rattle.dpi_lex.specs.Words.{Word}
use Rattle.c_tree.specs.declared.class.Class.{Class}
use Rattle.c_tree.specs.declared.class.Class.TheVariants as classes
use Rattle.c_tree.specs.declared.expr.CExpr.{CExpr}
use Rattle.c_tree.specs.declared.declarations.Variables.{Variables}
use Rattle.c_tree.specs.declared.statements.Start.{Start}
use Rattle.c_tree.specs.declared.statements.Stmt.{Stmt, roll-Stmt}
use Rattle.c_tree.specs.declared.statements.Stmt.TheVariants as stmts
use Rattle.c_tree.specs.declared.statements.Block.{Block, out-Block, roll-out-Block}
use Rattle.c_tree.specs.declared.statements.Part.{Part, out-Part, roll-Part, roll-out-Part}
use Rattle.c_tree.specs.declared.statements.Part.TheVariants as parts
use Rattle.c_tree.specs.declared.statements.Part.TheOpen.{Stmt-F, Part-F}
use Rattle.c_tree.specs.Classes.{word_of, is}
use Rattle.c_tree.specs.Leaves.{Tells}
use Rattle.c_tree.specs.Statements.{part_told, stmt_told}
use Rattle.c_tree.proofs.ClassLemmas.{knows}
use Rattle.c_cursor.specs.Reading.{Parses}
use Rattle.c_cursor.proofs.Tokens.{word_is_not, apart_of}
use Rattle.c_parse.specs.declared.front.Front.TheVariants as fronts
use Rattle.c_parse.specs.declared.front.Nest.TheVariants as nests
use Rattle.c_parse.specs.Front.{begins_variables, begins_stmt, begins_part}
use Rattle.c_parse.specs.ReadingStatements as spec
use Rattle.c_expr.proofs.Goes.{an_expr}
use Rattle.c_parse.proofs.Goes.{some_variables, else_grabs, a_stmt, a_block, a_part, a_start}
use Rattle.c_parse.proofs.Tokens.{stmt_no_variables, stmt_off, variables_off}
use Rattle.c_parse.proofs.VariableRules.{stops_at}
use Rattle.c_parse.proofs.InitRules.{variables_rule}
use Rattle.c_parse.proofs.Trees.{Layer, PartLayer, block, block_tells, part_tells, stmt_tells}
use Rattle.c_parse.proofs.Fronts.{layer_front, stmt_starts}
use Rattle.c_parse.proofs.SimpleRules.{and_off, ended_goes, a_condition, condition_rule, maybe_expr, optional_rule, maybe_semicolon, maybe_close, start_rule, variables_starts}

-- a statement goes on with no other word
pub else_alone : (c : Class) → is classes.Else (Some (word_of c)) ≡ false → (a : Tells) → else_grabs a (Some (word_of c)) ≡ false
else_alone c other a = ap (λ b. b && a.unended) other

-- ---- vardecl | stmt

abbrev part_made : Variables ⊎ Stmt → Part
part_made = either parts.Variables parts.Stmt

part_told_as : (x : Variables ⊎ Stmt) → part_told (part_made x) ≡ (sum some_variables a_stmt).told x
part_told_as (inl v) = part_tells (parts.Variables v) _ (parts.outs-Variables v)
part_told_as (inr s) = part_tells (parts.Stmt s) _ (parts.outs-Stmt s)

part_goes : (x : Variables ⊎ Stmt) (t : Option Word) → a_part.grabs (part_made x) t ≡ (sum some_variables a_stmt).grabs x t
part_goes (inl v) t = ap (λ (a : Tells). else_grabs a t) (part_told_as (inl v)) ∙ and_off (is classes.Else t) false refl
part_goes (inr s) t = ap (λ (a : Tells). else_grabs a t) (part_told_as (inr s))

layer_part : (l : PartLayer) → (x : Variables ⊎ Stmt) × (part_made x ≡ roll-Part l)
layer_part (Part-F.Variables v) = (inl v, sym (parts.rolls-Variables v))
layer_part (Part-F.Stmt s) = (inr s, sym (parts.rolls-Stmt s))

part_all : (z : Part) → (x : Variables ⊎ Stmt) × (part_made x ≡ z)
part_all z = let m = layer_part (out-Part z) in (m.0, m.1 ∙ roll-out-Part z)

abbrev some_parts : Kind Word (List Part)
some_parts = list begins_part a_part never

made_starts : (x : Variables ⊎ Stmt) (n : ℕ) (r : List Word) → Is a_part n (part_made x) → begins_part (first (words a_part (part_made x) ++ r)) ≡ true
made_starts (inl v) n r is =
    let e = part_told_as (inl v) in
    ap (λ (t : Tells). begins_part (first (words_in t.atoms ++ r))) e ∙ in_left _ _ (variables_starts n v r (subst (λ (t : Tells). IsRight n t.atoms) e is))
made_starts (inr s) n r is =
    let e = part_told_as (inr s) in
    ap (λ (t : Tells). begins_part (first (words_in t.atoms ++ r))) e ∙ in_right _ _ (stmt_starts n s r (subst (λ (t : Tells). IsRight n t.atoms) e is))

part_starts : Starts begins_part a_part
part_starts n x r is = subst (λ (x : Part). (n : ℕ) (r : List Word) → Is a_part n x → begins_part (first (words a_part x ++ r)) ≡ true) (part_all x).1 (made_starts (part_all x).0) n r is

-- an `else` begins no part
else_no_part : Apart (is classes.Else) begins_part
else_no_part t e = or_both (begins_variables t) (begins_stmt t) (variables_off classes.Else refl t e) (stmt_off classes.Else refl t e)

close_no_part : Apart (is classes.CloseBrace) begins_part
close_no_part t e = or_both (begins_variables t) (begins_stmt t) (variables_off classes.CloseBrace refl t e) (stmt_off classes.CloseBrace refl t e)

no_part : begins_part None ≡ false
unfolding Rattle.c_tree.specs.Classes.is_class
no_part = refl

part_apart : (a : Option Word → Bool) → Apart a (is classes.Else) → (x : Part) → Apart a (a_part.grabs x)
part_apart a other x t e = ap (λ b. b && (part_told x).unended) (other t e)

parts_repeat : Repeats begins_part a_part
parts_repeat = record { starts = part_starts; next = part_apart begins_part (apart_back (is classes.Else) begins_part else_no_part); at_end = no_part }

parts_close : (xs : List Part) → some_parts.grabs xs (Some (word_of classes.CloseBrace)) ≡ false
parts_close xs = stops_at classes.CloseBrace refl (some_parts.grabs xs) (list_apart (is classes.CloseBrace) begins_part never a_part close_no_part (λ t e. refl) (part_apart (is classes.CloseBrace) (apart_of classes.CloseBrace classes.Else refl)) xs)

-- ---- shapes, but for the level

abbrev pub in_block : Kind Word (ℕ × (List Part × (ℕ × Unit {0})))
in_block = pair (place never) (λ _. behind (word_of classes.OpenBrace) (pair some_parts (λ ps. pair (place (some_parts.grabs ps)) (λ _. one (word_of classes.CloseBrace)))))

abbrev pub in_while : Kind Word (ℕ × (CExpr × Stmt))
in_while = pair (place never) (λ _. behind (word_of classes.While) (pair a_condition (λ _. a_stmt)))

abbrev pub in_do : Kind Word (ℕ × (Stmt × (ℕ × (CExpr × Unit {0}))))
in_do = pair (place never) (λ _. behind (word_of classes.Do) (pair a_stmt (λ b. pair (place (a_stmt.grabs b)) (λ _. behind (word_of classes.While) (pair a_condition (λ _. one (word_of classes.Semicolon)))))))

abbrev pub in_for : Kind Word (ℕ × (Start × (Option CExpr × (Option CExpr × Stmt))))
in_for = pair (place never) (λ _. behind (word_of classes.For) (behind (word_of classes.OpenParen) (pair a_start (λ _. pair (maybe_expr never) (λ _. behind (word_of classes.Semicolon) (pair (maybe_expr never) (λ _. behind (word_of classes.CloseParen) a_stmt)))))))

abbrev pub block_made : ℕ × (List Part × (ℕ × Unit {0})) → Block
block_made p = block p.0 p.1.0 p.1.1.0

abbrev pub while_made : ℕ × (CExpr × Stmt) → Stmt
while_made p = stmts.While p.0 p.1.0 p.1.1

abbrev pub do_made : ℕ × (Stmt × (ℕ × (CExpr × Unit {0}))) → Stmt
do_made p = stmts.Do p.0 p.1.0 p.1.1.0 p.1.1.1.0

abbrev pub for_made : ℕ × (Start × (Option CExpr × (Option CExpr × Stmt))) → Stmt
for_made p = stmts.For p.0 p.1.0 p.1.1.0 p.1.1.1.0 p.1.1.1.1

module _ {live : Type 0} {d : ℕ} (e : Parses CExpr) (s : Parses Stmt) (expr_rule : Rule live never an_expr (λ x. x) d e) (stmt_rule : Rule live never a_stmt (λ x. x) d s) where
  part_rule : Rule live never a_part (λ x. x) d (spec.part_by e s)
  part_rule =
      told_as a_part part_made (λ x. x) part_told_as part_goes part_all
      (choice begins_variables variables_starts (starts_off begins_stmt begins_variables a_stmt stmt_starts stmt_no_variables)
      (mapped parts.Variables (variables_rule e expr_rule (λ t go. refl))) (mapped parts.Stmt stmt_rule))

  parts_rule : Rule live never some_parts (λ xs. xs) d (spec.parts_by e s)
  parts_rule = many begins_part never parts_repeat (λ t go. refl) [] part_rule

  pub block_rule : Rule live never in_block block_made d (spec.block_by e s)
  unfolding spec.block_by
  block_rule =
      numbered (λ k p. block k p.0 p.1.0) (λ k t. and_then (expect (is classes.OpenBrace) t) (λ _ t. and_then (spec.parts_by e s t) (λ ps t. and_then (expect (is classes.CloseBrace) t) (λ _ t2. _))))
      (λ k. token_then (is classes.OpenBrace) (word_of classes.OpenBrace) (knows classes.OpenBrace refl) refl
      (seq (λ ps. ps) (λ ps p. block k ps p.0) (λ ps t. and_then (expect (is classes.CloseBrace) t) (λ _ t2. _)) parts_rule
      (λ ps. numbered (λ j _. block k ps j) (λ j t. and_then (expect (is classes.CloseBrace) t) (λ _ t2. _))
      (λ j. last (is classes.CloseBrace) (word_of classes.CloseBrace) (block k ps j) (knows classes.CloseBrace refl) (parts_close ps)))))

  pub while_rule : Rule live never in_while while_made d (spec.while_by e s)
  unfolding spec.while_by
  while_rule =
      numbered (λ k p. stmts.While k p.0 p.1) (λ k t. and_then (expect (is classes.While) t) (λ _ t. and_then (spec.condition_by e t) (λ x t. and_then (s t) (λ b t. _))))
      (λ k. token_then (is classes.While) (word_of classes.While) (knows classes.While refl) refl
      (seq (λ x. x) (λ x b. stmts.While k x b) (λ x t. and_then (s t) (λ b t. _)) (condition_rule e expr_rule refl) (λ x. mapped (λ b. stmts.While k x b) stmt_rule)))

  pub do_rule : Rule live never in_do do_made d (spec.do_by e s)
  unfolding spec.do_by
  do_rule =
      numbered (λ k p. stmts.Do k p.0 p.1.0 p.1.1.0)
      (λ k t. and_then (expect (is classes.Do) t) (λ _ t. and_then (s t) (λ b t. and_then (expect (is classes.While) t) (λ _ t2. and_then (spec.condition_by e t2) (λ x t2. and_then (expect (is classes.Semicolon) t2) (λ _ t2. Ok (stmts.Do k b t.place x, t2)))))))
      (λ k. token_then (is classes.Do) (word_of classes.Do) (knows classes.Do refl) refl
      (seq (λ b. b) (λ b p. stmts.Do k b p.0 p.1.0)
      (λ b t. and_then (expect (is classes.While) t) (λ _ t2. and_then (spec.condition_by e t2) (λ x t2. and_then (expect (is classes.Semicolon) t2) (λ _ t2. Ok (stmts.Do k b t.place x, t2))))) stmt_rule
      (λ b. numbered (λ j p. stmts.Do k b j p.0)
      (λ j t. and_then (expect (is classes.While) t) (λ _ t. and_then (spec.condition_by e t) (λ x t. and_then (expect (is classes.Semicolon) t) (λ _ t. Ok (stmts.Do k b j x, t)))))
      (λ j. token_then (is classes.While) (word_of classes.While) (knows classes.While refl) (else_alone classes.While (word_is_not classes.Else classes.While refl refl) (stmt_told b))
      (seq (λ x. x) (λ x _. stmts.Do k b j x) (λ x t. and_then (expect (is classes.Semicolon) t) (λ _ t. Ok (stmts.Do k b j x, t))) (condition_rule e expr_rule refl)
      (λ x. last (is classes.Semicolon) (word_of classes.Semicolon) (stmts.Do k b j x) (knows classes.Semicolon refl) refl))))))

  pub for_rule : Rule live never in_for for_made d (spec.for_by e s)
  unfolding spec.for_by
  for_rule =
      numbered (λ k p. stmts.For k p.0 p.1.0 p.1.1.0 p.1.1.1)
      (λ k t. and_then (expect (is classes.For) t) (λ _ t. and_then (expect (is classes.OpenParen) t) (λ _ t. and_then (spec.start_by e t) (λ a t. and_then (spec.optional_by e t) (λ x t. and_then (expect (is classes.Semicolon) t) (λ _ t.
      and_then (spec.optional_by e t) (λ y t. and_then (expect (is classes.CloseParen) t) (λ _ t. and_then (s t) (λ b t. _)))))))))
      (λ k. token_then (is classes.For) (word_of classes.For) (knows classes.For refl) refl
      (token_then (is classes.OpenParen) (word_of classes.OpenParen) (knows classes.OpenParen refl) refl
      (seq (λ a. a) (λ a p. stmts.For k a p.0 p.1.0 p.1.1)
      (λ a t. and_then (spec.optional_by e t) (λ x t. and_then (expect (is classes.Semicolon) t) (λ _ t. and_then (spec.optional_by e t) (λ y t. and_then (expect (is classes.CloseParen) t) (λ _ t. and_then (s t) (λ b t. _))))))
      (start_rule e expr_rule)
      (λ a. seq (λ x. x) (λ x p. stmts.For k a x p.0 p.1)
      (λ x t. and_then (expect (is classes.Semicolon) t) (λ _ t. and_then (spec.optional_by e t) (λ y t. and_then (expect (is classes.CloseParen) t) (λ _ t. and_then (s t) (λ b t. _)))))
      (optional_rule e expr_rule never (λ t go. refl))
      (λ x. token_then (is classes.Semicolon) (word_of classes.Semicolon) (knows classes.Semicolon refl) (maybe_semicolon never (λ t go. refl) x)
      (seq (λ y. y) (λ y b. stmts.For k a x y b) (λ y t. and_then (expect (is classes.CloseParen) t) (λ _ t. and_then (s t) (λ b t. _))) (optional_rule e expr_rule never (λ t go. refl))
      (λ y. token_then (is classes.CloseParen) (word_of classes.CloseParen) (knows classes.CloseParen refl) (maybe_close y) (mapped (λ b. stmts.For k a x y b) stmt_rule))))))))

-- ---- what these statements tell, and which statements are of these forms

pub block_told_as : (p : ℕ × (List Part × (ℕ × Unit {0}))) → a_block.told (block_made p) ≡ (within in_block).told p
block_told_as p = block_tells p.0 p.1.0 p.1.1.0

pub block_stmt_told : (p : ℕ × (List Part × (ℕ × Unit {0}))) → a_stmt.told (stmts.Block (block_made p)) ≡ (within in_block).told p
block_stmt_told p = stmt_tells (stmts.Block (block_made p)) _ (stmts.outs-Block (block_made p)) ∙ block_told_as p

pub while_told : (p : ℕ × (CExpr × Stmt)) → a_stmt.told (while_made p) ≡ (within in_while).told p
while_told p = stmt_tells (while_made p) _ (stmts.outs-While p.0 p.1.0 p.1.1)

pub do_told : (p : ℕ × (Stmt × (ℕ × (CExpr × Unit {0})))) → a_stmt.told (do_made p) ≡ (within in_do).told p
do_told p = stmt_tells (do_made p) _ (stmts.outs-Do p.0 p.1.0 p.1.1.0 p.1.1.1.0)

pub for_told : (p : ℕ × (Start × (Option CExpr × (Option CExpr × Stmt)))) → a_stmt.told (for_made p) ≡ (within in_for).told p
for_told p = stmt_tells (for_made p) _ (stmts.outs-For p.0 p.1.0 p.1.1.0 p.1.1.1.0 p.1.1.1.1)

pub block_form : Form (within in_block) a_block block_made
block_form = told_form (within in_block) a_block block_made block_told_as (λ p t. refl)

pub block_stmt_form : Form (within in_block) a_stmt (λ p. stmts.Block (block_made p))
block_stmt_form = told_form (within in_block) a_stmt (λ p. stmts.Block (block_made p)) block_stmt_told (λ p. ended_goes (stmts.Block (block_made p)) ((within in_block).told p) (block_stmt_told p) refl)

pub while_form : Form (within in_while) a_stmt while_made
while_form = told_form (within in_while) a_stmt while_made while_told (λ p t. ap (λ (a : Tells). else_grabs a t) (while_told p))

pub do_form : Form (within in_do) a_stmt do_made
do_form = told_form (within in_do) a_stmt do_made do_told (λ p. ended_goes (do_made p) ((within in_do).told p) (do_told p) refl)

pub for_form : Form (within in_for) a_stmt for_made
for_form = told_form (within in_for) a_stmt for_made for_told (λ p t. ap (λ (a : Tells). else_grabs a t) (for_told p))

-- each block is of this form
pub block_all : (b : Block) → (p : ℕ × (List Part × (ℕ × Unit {0}))) × (block_made p ≡ b)
block_all b = (((out-Block b).token, ((out-Block b).parts, ((out-Block b).end, tt))), roll-out-Block b)

pub block_match : (l : Layer) → layer_front l ≡ fronts.Nested nests.Block → (p : ℕ × (List Part × (ℕ × Unit {0}))) × (stmts.Block (block_made p) ≡ roll-Stmt l)
block_match (Stmt-F.Block b) e = let m = block_all b in (m.0, ap stmts.Block m.1 ∙ sym (stmts.rolls-Block b))
block_match _ e = absurd (cc)

pub while_match : (l : Layer) → layer_front l ≡ fronts.Nested nests.While → (p : ℕ × (CExpr × Stmt)) × (while_made p ≡ roll-Stmt l)
while_match (Stmt-F.While k x b) e = ((k, (x, b)), sym (stmts.rolls-While k x b))
while_match _ e = absurd (cc)

pub do_match : (l : Layer) → layer_front l ≡ fronts.Nested nests.Do → (p : ℕ × (Stmt × (ℕ × (CExpr × Unit {0})))) × (do_made p ≡ roll-Stmt l)
do_match (Stmt-F.Do k b j x) e = ((k, (b, (j, (x, tt)))), sym (stmts.rolls-Do k b j x))
do_match _ e = absurd (cc)

pub for_match : (l : Layer) → layer_front l ≡ fronts.Nested nests.For → (p : ℕ × (Start × (Option CExpr × (Option CExpr × Stmt)))) × (for_made p ≡ roll-Stmt l)
for_match (Stmt-F.For k a x y b) e = ((k, (a, (x, (y, b)))), sym (stmts.rolls-For k a x y b))
for_match _ e = absurd (cc)
