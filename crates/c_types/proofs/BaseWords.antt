-- The words of a base: their tokens, and which of them may come next.
use Rattle.std.proofs.Common.{◌≡◌, ◌≤◌, ◌+◌, ℕ, true, Option, Some, None, refl, sym, ap, ◌∙◌, subst, arith}
use Rattle.dpi_grammar.proofs.Rules.{Knows}
use Rattle.dpi_lex.specs.Words.{Word}
use Rattle.c_tree.specs.declared.class.Class.{Class}
use Rattle.c_tree.specs.declared.class.Class.TheVariants as classes
use Rattle.c_tree.specs.declared.types.BaseWord.{BaseWord}
use Rattle.c_tree.specs.declared.types.BaseWord.TheVariants as words
use Rattle.c_tree.specs.declared.types.BaseRest.{BaseRest}
use Rattle.c_tree.specs.declared.types.BaseRest.TheVariants as rests
use Rattle.c_tree.specs.Classes.{word_of, class_at, is}
use Rattle.c_tree.specs.Bases.{base_class, base_word_of, behind_first, rest_behind}
use Rattle.c_tree.proofs.ClassLemmas.{is_fixed, knows, when_class}
use Rattle.c_cursor.proofs.Tokens.{class_at_word}
use Rattle.c_types.specs.Reading.{word_behind, word_by, word_next}

-- ---- from a class to its word, and back

pub base_from_class : (o : Option Class) (w : BaseWord) → base_word_of o ≡ Some w → o ≡ Some (base_class w)
base_from_class (Some classes.Void) w e = let same : words.Void ≡ w = cc in ap (λ v. Some (base_class v)) same
base_from_class (Some classes.Char) w e = let same : words.Char ≡ w = cc in ap (λ v. Some (base_class v)) same
base_from_class (Some classes.Short) w e = let same : words.Short ≡ w = cc in ap (λ v. Some (base_class v)) same
base_from_class (Some classes.Int) w e = let same : words.Int ≡ w = cc in ap (λ v. Some (base_class v)) same
base_from_class (Some classes.Long) w e = let same : words.Long ≡ w = cc in ap (λ v. Some (base_class v)) same
base_from_class (Some classes.Signed) w e = let same : words.Signed ≡ w = cc in ap (λ v. Some (base_class v)) same
base_from_class (Some classes.Unsigned) w e = let same : words.Unsigned ≡ w = cc in ap (λ v. Some (base_class v)) same
base_from_class (Some classes.SvBit) w e = let same : words.SvBit ≡ w = cc in ap (λ v. Some (base_class v)) same
base_from_class (Some classes.SvLogic) w e = let same : words.SvLogic ≡ w = cc in ap (λ v. Some (base_class v)) same
base_from_class (Some classes.SvBitVecVal) w e = let same : words.SvBitVecVal ≡ w = cc in ap (λ v. Some (base_class v)) same
base_from_class (Some classes.SvLogicVecVal) w e = let same : words.SvLogicVecVal ≡ w = cc in ap (λ v. Some (base_class v)) same
base_from_class (Some classes.SvOpenArrayHandle) w e = let same : words.SvOpenArrayHandle ≡ w = cc in ap (λ v. Some (base_class v)) same
base_from_class (Some classes.SvScope) w e = let same : words.SvScope ≡ w = cc in ap (λ v. Some (base_class v)) same
base_from_class (Some classes.Int8) w e = let same : words.Int8 ≡ w = cc in ap (λ v. Some (base_class v)) same
base_from_class (Some classes.Uint8) w e = let same : words.Uint8 ≡ w = cc in ap (λ v. Some (base_class v)) same
base_from_class (Some classes.Int16) w e = let same : words.Int16 ≡ w = cc in ap (λ v. Some (base_class v)) same
base_from_class (Some classes.Uint16) w e = let same : words.Uint16 ≡ w = cc in ap (λ v. Some (base_class v)) same
base_from_class (Some classes.Int32) w e = let same : words.Int32 ≡ w = cc in ap (λ v. Some (base_class v)) same
base_from_class (Some classes.Uint32) w e = let same : words.Uint32 ≡ w = cc in ap (λ v. Some (base_class v)) same
base_from_class (Some classes.Int64) w e = let same : words.Int64 ≡ w = cc in ap (λ v. Some (base_class v)) same
base_from_class (Some classes.Uint64) w e = let same : words.Uint64 ≡ w = cc in ap (λ v. Some (base_class v)) same
base_from_class _ w e = absurd (cc)

pub base_back : (w : BaseWord) → base_word_of (Some (base_class w)) ≡ Some w
base_back words.Void = refl
base_back words.Char = refl
base_back words.Short = refl
base_back words.Int = refl
base_back words.Long = refl
base_back words.Signed = refl
base_back words.Unsigned = refl
base_back words.SvBit = refl
base_back words.SvLogic = refl
base_back words.SvBitVecVal = refl
base_back words.SvLogicVecVal = refl
base_back words.SvOpenArrayHandle = refl
base_back words.SvScope = refl
base_back words.Int8 = refl
base_back words.Uint8 = refl
base_back words.Int16 = refl
base_back words.Uint16 = refl
base_back words.Int32 = refl
base_back words.Uint32 = refl
base_back words.Int64 = refl
base_back words.Uint64 = refl

pub base_fixed : (w : BaseWord) → is_fixed (base_class w) ≡ true
base_fixed words.Void = refl
base_fixed words.Char = refl
base_fixed words.Short = refl
base_fixed words.Int = refl
base_fixed words.Long = refl
base_fixed words.Signed = refl
base_fixed words.Unsigned = refl
base_fixed words.SvBit = refl
base_fixed words.SvLogic = refl
base_fixed words.SvBitVecVal = refl
base_fixed words.SvLogicVecVal = refl
base_fixed words.SvOpenArrayHandle = refl
base_fixed words.SvScope = refl
base_fixed words.Int8 = refl
base_fixed words.Uint8 = refl
base_fixed words.Int16 = refl
base_fixed words.Uint16 = refl
base_fixed words.Int32 = refl
base_fixed words.Uint32 = refl
base_fixed words.Int64 = refl
base_fixed words.Uint64 = refl

-- the token of a word
abbrev pub base_token : BaseWord → Word
base_token w = word_of (base_class w)

pub base_knows : (w : BaseWord) → Knows (is (base_class w)) (base_token w)
base_knows w = knows (base_class w) (base_fixed w)

-- a token that stands for a word is that word's
pub base_says : (t : Option Word) (w : BaseWord) → base_word_of (class_at t) ≡ Some w → t ≡ Some (base_token w)
base_says t w e = (base_knows w).says t (when_class (base_class w) t (base_from_class (class_at t) w e))

-- the token of a word stands for it
pub base_yes : (w : BaseWord) → base_word_of (class_at (Some (base_token w))) ≡ Some w
base_yes w = ap base_word_of (class_at_word (base_class w) (base_fixed w)) ∙ base_back w

-- ---- which word may come next

next_says_behind : (r : BaseRest) (w : BaseWord) (o : Option BaseRest) → rest_behind r w ≡ o → (p : BaseWord × BaseRest) → word_behind w o ≡ Some p → (Some w ≡ Some p.0) × (rest_behind r p.0 ≡ Some p.1)
next_says_behind r w None same p e = absurd (cc)
next_says_behind r w (Some q) same p e = let h : ◌≡◌ {A = BaseWord × BaseRest} (w, q) p = cc in (ap (λ p. Some p.0) h, ap (λ p. rest_behind r p.0) (sym h) ∙ same ∙ ap (λ p. Some p.1) h)

next_says_by : (r : BaseRest) (o : Option BaseWord) (p : BaseWord × BaseRest) → word_by r o ≡ Some p → (o ≡ Some p.0) × (rest_behind r p.0 ≡ Some p.1)
next_says_by r None p e = absurd (cc)
next_says_by r (Some w) p e = next_says_behind r w (rest_behind r w) refl p e

pub next_says : (r : BaseRest) (t : Option Word) (p : BaseWord × BaseRest) → word_next r t ≡ Some p → (t ≡ Some (base_token p.0)) × (rest_behind r p.0 ≡ Some p.1)
next_says r t p e = let h = next_says_by r (base_word_of (class_at t)) p e in (base_says t p.0 h.0, h.1)

-- the token of a word that may come next is known for that
pub next_yes : (r q : BaseRest) (w : BaseWord) → rest_behind r w ≡ Some q → word_next r (Some (base_token w)) ≡ Some (w, q)
next_yes r q w e = ap (word_by r) (base_yes w) ∙ ap (word_behind w) e

-- ---- how many words may follow

abbrev pub most : BaseRest → ℕ
most rests.Whole = 4
most rests.BehindSign = 3
most rests.BehindLong = 2
most rests.BehindSize = 1
most rests.Complete = 0

first_less : (w : BaseWord) → most (behind_first w) + 1 ≤ 4
first_less words.Void = omega arith
first_less words.Char = omega arith
first_less words.Short = omega arith
first_less words.Int = omega arith
first_less words.Long = omega arith
first_less words.Signed = omega arith
first_less words.Unsigned = omega arith
first_less words.SvBit = omega arith
first_less words.SvLogic = omega arith
first_less words.SvBitVecVal = omega arith
first_less words.SvLogicVecVal = omega arith
first_less words.SvOpenArrayHandle = omega arith
first_less words.SvScope = omega arith
first_less words.Int8 = omega arith
first_less words.Uint8 = omega arith
first_less words.Int16 = omega arith
first_less words.Uint16 = omega arith
first_less words.Int32 = omega arith
first_less words.Uint32 = omega arith
first_less words.Int64 = omega arith
first_less words.Uint64 = omega arith

pub fewer : (r q : BaseRest) (w : BaseWord) → rest_behind r w ≡ Some q → most q + 1 ≤ most r
fewer rests.Whole q w e = let same : behind_first w ≡ q = cc in subst (λ q. most q + 1 ≤ 4) same (first_less w)
fewer rests.BehindSign q words.Char e = let same : rests.Complete ≡ q = cc in subst (λ q. most q + 1 ≤ 3) same (omega arith)
fewer rests.BehindSign q words.Int e = let same : rests.Complete ≡ q = cc in subst (λ q. most q + 1 ≤ 3) same (omega arith)
fewer rests.BehindSign q words.Short e = let same : rests.BehindSize ≡ q = cc in subst (λ q. most q + 1 ≤ 3) same (omega arith)
fewer rests.BehindSign q words.Long e = let same : rests.BehindLong ≡ q = cc in subst (λ q. most q + 1 ≤ 3) same (omega arith)
fewer rests.BehindSign q _ e = absurd (cc)
fewer rests.BehindLong q words.Long e = let same : rests.BehindSize ≡ q = cc in subst (λ q. most q + 1 ≤ 2) same (omega arith)
fewer rests.BehindLong q _ e = absurd (cc)
fewer rests.BehindSize q words.Int e = let same : rests.Complete ≡ q = cc in subst (λ q. most q + 1 ≤ 1) same (omega arith)
fewer rests.BehindSize q _ e = absurd (cc)
fewer rests.Complete q w e = absurd (cc)
