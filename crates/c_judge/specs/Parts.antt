-- What an expression is as a part of an initialiser (ISO C 6.6, 6.7.9).
use Rattle.std.specs.Prelude.{ℕ, Bool, false, Option, Some, None, List, [], ◌∷◌}
use Rattle.c_tree.specs.declared.leaves.Name.{Name}
use Rattle.c_tree.specs.declared.expr.Prefix.{Prefix}
use Rattle.c_tree.specs.declared.expr.Prefix.TheVariants as prefixes
use Rattle.c_tree.specs.declared.expr.CExpr.{CExpr, fold-CExpr}
use Rattle.c_tree.specs.declared.expr.Cond.{Cond, fold-Cond}
use Rattle.c_tree.specs.declared.expr.Chain.{Chain, fold-Chain}
use Rattle.c_tree.specs.declared.expr.Operand.{Operand as OperandTree, fold-Operand}
use Rattle.c_tree.specs.declared.expr.Primary.{Primary, fold-Primary}
use Rattle.c_tree.specs.declared.expr.Suffix.{Suffix, fold-Suffix}
use Rattle.c_tree.specs.declared.expr.Primary.TheOpen.{Primary-F, Suffix-F, Assignment-F, CExpr-F, Chain-F, Choice-F, Cond-F, Operand-F, Term-F}
use Rattle.c_library.specs.Reserved.{is_word_count}
use Rattle.c_initial.specs.declared.parts.Part.{Part}
use Rattle.c_initial.specs.declared.parts.Part.TheVariants as parts
use Rattle.c_initial.specs.Parts as initial
use Rattle.c_names.specs.declared.entry.Entry.{Entry}
use Rattle.c_names.specs.Names.{Names}
use Rattle.c_names.specs.Uses.{name_part}

-- a called name, by its declaration, is the macro for words
abbrev pub counts_words : List ℕ → Option Entry → Bool
counts_words name None = is_word_count name
counts_words name (Some e) = false

-- a prefix before a part; a cast makes nothing that an object may begin with
abbrev pub prefix_part : Prefix → Part → Part
prefix_part (prefixes.Sign k operator) p = initial.prefixed operator p
prefix_part (prefixes.Cast k tree stars) p = parts.Other

-- prefixes, of which the last applies first
abbrev pub prefixes_part : List Prefix → Part → Part
prefixes_part [] p = p
prefixes_part (x ∷ xs) p = prefix_part x (prefixes_part xs p)

-- suffixes in turn
abbrev pub suffixes_part : List (Part → Part) → Part → Part
suffixes_part [] p = p
suffixes_part (f ∷ fs) p = suffixes_part fs (f p)

-- a part with an index behind it, if there is one
abbrev pub with_index : Part → Option Part → Part
with_index p None = p
with_index p (Some i) = initial.indexed p i

-- a call of the macro for words, or of anything else
abbrev pub call_part : Bool → List Part → Part
call_part counts args = initial.called counts args

-- operators between operands, and assignments, make nothing that an object may begin with
abbrev pub alone : {A : Type 0} → Part → List A → Part
alone p [] = p
alone p (x ∷ xs) = parts.Other

-- nor does a conditional
abbrev pub unchosen : {A : Type 0} → Part → Option A → Part
unchosen p None = p
unchosen p (Some x) = parts.Other

-- what no part is looked at for
abbrev pub Nothing : Type 0
Nothing = Unit {0}

-- a name, by what names mean
abbrev pub named : Names → Name → Part
named names n = name_part n.bytes (names n.bytes)

module _ (names : Names) where
  abbrev pub primary_step : Primary-F Part (Part → Part) Nothing Part Part Nothing Part Part Nothing → Part
  primary_step (Primary-F.Name n) = named names n
  primary_step (Primary-F.Number n) = parts.Token
  primary_step (Primary-F.Character c) = parts.Number
  primary_step (Primary-F.Text t) = parts.Fixed
  primary_step (Primary-F.Null k) = parts.Fixed
  primary_step (Primary-F.Call n k args) = call_part (counts_words n.bytes (names n.bytes)) args
  primary_step (Primary-F.Group k e) = initial.grouped e

  abbrev pub suffix_step : Suffix-F Part (Part → Part) Nothing Part Part Nothing Part Part Nothing → Part → Part
  suffix_step (Suffix-F.Index k e) p = initial.indexed p e
  suffix_step _ p = parts.Other

  abbrev pub assignment_step : Assignment-F Part (Part → Part) Nothing Part Part Nothing Part Part Nothing → Nothing
  assignment_step a = tt

  abbrev pub expr_step : CExpr-F Part (Part → Part) Nothing Part Part Nothing Part Part Nothing → Part
  expr_step e = alone e.first e.rest

  abbrev pub chain_step : Chain-F Part (Part → Part) Nothing Part Part Nothing Part Part Nothing → Part
  chain_step c = alone c.first c.rest

  abbrev pub choice_step : Choice-F Part (Part → Part) Nothing Part Part Nothing Part Part Nothing → Nothing
  choice_step c = tt

  abbrev pub cond_step : Cond-F Part (Part → Part) Nothing Part Part Nothing Part Part Nothing → Part
  cond_step c = unchosen c.chain c.choice

  abbrev pub operand_step : Operand-F Part (Part → Part) Nothing Part Part Nothing Part Part Nothing → Part
  operand_step o = prefixes_part o.prefixes (suffixes_part o.suffixes o.primary)

  abbrev pub term_step : Term-F Part (Part → Part) Nothing Part Part Nothing Part Part Nothing → Nothing
  term_step t = tt

  -- an expression, by what names mean
  abbrev pub part : CExpr → Part
  part = fold-CExpr Part (Part → Part) Nothing Part Part Nothing Part Part Nothing primary_step suffix_step assignment_step expr_step chain_step choice_step cond_step operand_step term_step

  -- the parts of an expression
  abbrev pub cond_part : Cond → Part
  cond_part = fold-Cond Part (Part → Part) Nothing Part Part Nothing Part Part Nothing primary_step suffix_step assignment_step expr_step chain_step choice_step cond_step operand_step term_step

  abbrev pub chain_part : Chain → Part
  chain_part = fold-Chain Part (Part → Part) Nothing Part Part Nothing Part Part Nothing primary_step suffix_step assignment_step expr_step chain_step choice_step cond_step operand_step term_step

  abbrev pub operand_part : OperandTree → Part
  operand_part = fold-Operand Part (Part → Part) Nothing Part Part Nothing Part Part Nothing primary_step suffix_step assignment_step expr_step chain_step choice_step cond_step operand_step term_step

  abbrev pub primary_part : Primary → Part
  primary_part = fold-Primary Part (Part → Part) Nothing Part Part Nothing Part Part Nothing primary_step suffix_step assignment_step expr_step chain_step choice_step cond_step operand_step term_step

  abbrev pub suffix_part : Suffix → Part → Part
  suffix_part = fold-Suffix Part (Part → Part) Nothing Part Part Nothing Part Part Nothing primary_step suffix_step assignment_step expr_step chain_step choice_step cond_step operand_step term_step
