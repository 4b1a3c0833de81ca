-- What each part of an initialiser is, by its own parts.
use Rattle.std.proofs.Common.{◌≡◌, ℕ, ◌≤◌, List, [], ◌∷◌, length, map, refl, sym, ap, ◌∙◌, Bool, true, false, arith}
use Rattle.std.specs.Prelude.{if◌then◌else◌}
use Rattle.std.proofs.lemmas.Bool.{false≢true}
use Rattle.c_tree.specs.declared.expr.Assignment.{Assignment}
use Rattle.c_tree.specs.declared.expr.CExpr.{CExpr, out-CExpr, roll-CExpr, roll-out-CExpr, fold-roll-CExpr}
use Rattle.c_tree.specs.declared.expr.Cond.{Cond}
use Rattle.c_tree.specs.declared.expr.Choice.{Choice}
use Rattle.c_tree.specs.declared.expr.Chain.{Chain, out-Chain, roll-Chain, roll-out-Chain, fold-roll-Chain}
use Rattle.c_tree.specs.declared.expr.Operand.{Operand as OperandTree}
use Rattle.c_tree.specs.declared.expr.Primary.{Primary}
use Rattle.c_tree.specs.declared.expr.Primary.TheOpen.{Suffix-F}
use Rattle.c_tree.specs.declared.expr.Suffix.{Suffix, out-Suffix, roll-Suffix, roll-out-Suffix, fold-roll-Suffix}
use Rattle.c_tree.specs.declared.expr.Term.{Term}
use Rattle.c_initial.specs.declared.parts.Part.{Part}
use Rattle.c_initial.specs.declared.parts.Part.TheVariants as parts
use Rattle.c_initial.specs.Parts.{is_number, element}
use Rattle.c_names.specs.Names.{Names}
use Rattle.c_judge.specs.Parts.{Nothing, suffixes_part, primary_step, suffix_step, assignment_step, expr_step, chain_step, choice_step, cond_step, operand_step, term_step, part, chain_part, suffix_part}

assigned_at : (names : Names) (k : ℕ) (c : Cond) (rest : List Assignment) → (rest ≡ [] → ⊥) → parts.Other ≡ part names (roll-CExpr (record { token = k; first = c; rest = rest }))
assigned_at names k c [] h = absurd (h refl)
assigned_at names k c (x ∷ xs) h = sym (fold-roll-CExpr Part (Part → Part) Nothing Part Part Nothing Part Part Nothing (primary_step names) (suffix_step names) (assignment_step names) (expr_step names) (chain_step names) (choice_step names) (cond_step names) (operand_step names) (term_step names) _)

-- an expression with an assignment
pub assigned_is_other : (names : Names) (e : CExpr) → ((out-CExpr e).rest ≡ [] → ⊥) → parts.Other ≡ part names e
assigned_is_other names e h = assigned_at names (out-CExpr e).token (out-CExpr e).first (out-CExpr e).rest h ∙ ap (part names) (roll-out-CExpr e)

linked_at : (names : Names) (k : ℕ) (o : OperandTree) (rest : List Term) → (rest ≡ [] → ⊥) → parts.Other ≡ chain_part names (roll-Chain (record { token = k; first = o; rest = rest }))
linked_at names k o [] h = absurd (h refl)
linked_at names k o (x ∷ xs) h = sym (fold-roll-Chain Part (Part → Part) Nothing Part Part Nothing Part Part Nothing (primary_step names) (suffix_step names) (assignment_step names) (expr_step names) (chain_step names) (choice_step names) (cond_step names) (operand_step names) (term_step names) _)

-- a chain with an operator
pub linked_is_other : (names : Names) (c : Chain) → ((out-Chain c).rest ≡ [] → ⊥) → parts.Other ≡ chain_part names c
linked_is_other names c h = linked_at names (out-Chain c).token (out-Chain c).first (out-Chain c).rest h ∙ ap (chain_part names) (roll-out-Chain c)

-- behind a cell, and behind what is nothing, no suffix makes a part
abbrev ends : Part → Bool
ends parts.Element = true
ends parts.Other = true
ends _ = false

element_ends : (p : Part) → ends (element p) ≡ true
element_ends parts.Token = refl
element_ends parts.Number = refl
element_ends parts.Fixed = refl
element_ends parts.Object = refl
element_ends parts.Array = refl
element_ends parts.Element = refl
element_ends parts.Unknown = refl
element_ends parts.Other = refl

element_after : (p : Part) → ends p ≡ true → element p ≡ parts.Other
element_after parts.Token h = absurd (false≢true h)
element_after parts.Number h = absurd (false≢true h)
element_after parts.Fixed h = absurd (false≢true h)
element_after parts.Object h = absurd (false≢true h)
element_after parts.Array h = absurd (false≢true h)
element_after parts.Element h = refl
element_after parts.Unknown h = absurd (false≢true h)
element_after parts.Other h = refl

index_ends : (b : Bool) (p : Part) → ends (if b then element p else parts.Other) ≡ true
index_ends true p = element_ends p
index_ends false p = refl

index_after : (b : Bool) (p : Part) → ends p ≡ true → (if b then element p else parts.Other) ≡ parts.Other
index_after true p h = element_after p h
index_after false p h = refl

-- a suffix of a part, by its layer
abbrev SuffixLayer : Type 0
SuffixLayer = Suffix-F Primary Suffix Assignment CExpr Chain Choice Cond OperandTree Term

layer_ends : (names : Names) (l : SuffixLayer) (p : Part) → ends (suffix_part names (roll-Suffix l) p) ≡ true
layer_ends names (Suffix-F.Index k e) p = ap (λ (f : Part → Part). ends (f p)) (fold-roll-Suffix Part (Part → Part) Nothing Part Part Nothing Part Part Nothing (primary_step names) (suffix_step names) (assignment_step names) (expr_step names) (chain_step names) (choice_step names) (cond_step names) (operand_step names) (term_step names) (Suffix-F.Index k e)) ∙ index_ends (is_number (part names e)) p
layer_ends names (Suffix-F.Member k n) p = ap (λ (f : Part → Part). ends (f p)) (fold-roll-Suffix Part (Part → Part) Nothing Part Part Nothing Part Part Nothing (primary_step names) (suffix_step names) (assignment_step names) (expr_step names) (chain_step names) (choice_step names) (cond_step names) (operand_step names) (term_step names) (Suffix-F.Member k n))
layer_ends names (Suffix-F.Arrow k n) p = ap (λ (f : Part → Part). ends (f p)) (fold-roll-Suffix Part (Part → Part) Nothing Part Part Nothing Part Part Nothing (primary_step names) (suffix_step names) (assignment_step names) (expr_step names) (chain_step names) (choice_step names) (cond_step names) (operand_step names) (term_step names) (Suffix-F.Arrow k n))
layer_ends names (Suffix-F.Increment k) p = ap (λ (f : Part → Part). ends (f p)) (fold-roll-Suffix Part (Part → Part) Nothing Part Part Nothing Part Part Nothing (primary_step names) (suffix_step names) (assignment_step names) (expr_step names) (chain_step names) (choice_step names) (cond_step names) (operand_step names) (term_step names) (Suffix-F.Increment k))
layer_ends names (Suffix-F.Decrement k) p = ap (λ (f : Part → Part). ends (f p)) (fold-roll-Suffix Part (Part → Part) Nothing Part Part Nothing Part Part Nothing (primary_step names) (suffix_step names) (assignment_step names) (expr_step names) (chain_step names) (choice_step names) (cond_step names) (operand_step names) (term_step names) (Suffix-F.Decrement k))

layer_after : (names : Names) (l : SuffixLayer) (p : Part) → ends p ≡ true → suffix_part names (roll-Suffix l) p ≡ parts.Other
layer_after names (Suffix-F.Index k e) p h = ap (λ (f : Part → Part). f p) (fold-roll-Suffix Part (Part → Part) Nothing Part Part Nothing Part Part Nothing (primary_step names) (suffix_step names) (assignment_step names) (expr_step names) (chain_step names) (choice_step names) (cond_step names) (operand_step names) (term_step names) (Suffix-F.Index k e)) ∙ index_after (is_number (part names e)) p h
layer_after names (Suffix-F.Member k n) p h = ap (λ (f : Part → Part). f p) (fold-roll-Suffix Part (Part → Part) Nothing Part Part Nothing Part Part Nothing (primary_step names) (suffix_step names) (assignment_step names) (expr_step names) (chain_step names) (choice_step names) (cond_step names) (operand_step names) (term_step names) (Suffix-F.Member k n))
layer_after names (Suffix-F.Arrow k n) p h = ap (λ (f : Part → Part). f p) (fold-roll-Suffix Part (Part → Part) Nothing Part Part Nothing Part Part Nothing (primary_step names) (suffix_step names) (assignment_step names) (expr_step names) (chain_step names) (choice_step names) (cond_step names) (operand_step names) (term_step names) (Suffix-F.Arrow k n))
layer_after names (Suffix-F.Increment k) p h = ap (λ (f : Part → Part). f p) (fold-roll-Suffix Part (Part → Part) Nothing Part Part Nothing Part Part Nothing (primary_step names) (suffix_step names) (assignment_step names) (expr_step names) (chain_step names) (choice_step names) (cond_step names) (operand_step names) (term_step names) (Suffix-F.Increment k))
layer_after names (Suffix-F.Decrement k) p h = ap (λ (f : Part → Part). f p) (fold-roll-Suffix Part (Part → Part) Nothing Part Part Nothing Part Part Nothing (primary_step names) (suffix_step names) (assignment_step names) (expr_step names) (chain_step names) (choice_step names) (cond_step names) (operand_step names) (term_step names) (Suffix-F.Decrement k))

suffix_ends : (names : Names) (x : Suffix) (p : Part) → ends (suffix_part names x p) ≡ true
suffix_ends names x p = ap (λ s. ends (suffix_part names s p)) (sym (roll-out-Suffix x)) ∙ layer_ends names (out-Suffix x) p

suffix_after : (names : Names) (x : Suffix) (p : Part) → ends p ≡ true → suffix_part names x p ≡ parts.Other
suffix_after names x p h = ap (λ s. suffix_part names s p) (sym (roll-out-Suffix x)) ∙ layer_after names (out-Suffix x) p h

nothing_after : (names : Names) (xs : List Suffix) → suffixes_part (map (suffix_part names) xs) parts.Other ≡ parts.Other
nothing_after names [] = refl
nothing_after names (x ∷ xs) = ap (suffixes_part (map (suffix_part names) xs)) (suffix_after names x parts.Other refl) ∙ nothing_after names xs

-- several suffixes
several_are_other : (names : Names) (x y : Suffix) (xs : List Suffix) (p : Part) → suffixes_part (map (suffix_part names) (x ∷ y ∷ xs)) p ≡ parts.Other
several_are_other names x y xs p =
    ap (suffixes_part (map (suffix_part names) xs)) (suffix_after names y (suffix_part names x p) (suffix_ends names x p)) ∙ nothing_after names xs

pub two_are_other : (names : Names) (xs : List Suffix) (p : Part) → 2 ≤ length xs → parts.Other ≡ suffixes_part (map (suffix_part names) xs) p
two_are_other names [] p h = absurd (omega (arith, h))
two_are_other names (x ∷ []) p h = absurd (omega (arith, h))
two_are_other names (x ∷ y ∷ xs) p h = sym (several_are_other names x y xs p)
