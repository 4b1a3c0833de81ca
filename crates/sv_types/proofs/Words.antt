-- Tests of the next token: which of them no token passes together, and the words of types.
use Rattle.std.proofs.Common.{◌≡◌, Bool, true, false, Option, Some, None, refl, ap, ◌∙◌}
use Rattle.std.specs.Prelude.{option_map}
use Rattle.dpi_grammar.specs.Parser.{is_there}
use Rattle.dpi_grammar.proofs.Rules.{Reader, always}
use Rattle.dpi_grammar.proofs.Many.{Apart}
use Rattle.dpi_lex.specs.Words.{Word}
use Rattle.sv_tree.specs.declared.class.Class.{Class}
use Rattle.sv_tree.specs.declared.class.Class.TheVariants as classes
use Rattle.sv_tree.specs.declared.kinds.VectorKind.{VectorKind}
use Rattle.sv_tree.specs.declared.kinds.VectorKind.TheVariants as vector
use Rattle.sv_tree.specs.declared.kinds.WholeKind.{WholeKind}
use Rattle.sv_tree.specs.declared.kinds.WholeKind.TheVariants as whole
use Rattle.sv_tree.specs.declared.kinds.Signing.{Signing}
use Rattle.sv_tree.specs.declared.kinds.Signing.TheVariants as signing
use Rattle.sv_tree.specs.Classes.{word_of, class_at, is}
use Rattle.sv_tree.specs.Kinds.{vector_class, vector_of, whole_class, whole_of, signing_class, signing_of}
use Rattle.sv_tree.proofs.ClassLemmas.{is_fixed, knows}
use Rattle.sv_cursor.proofs.Tokens.{class_reader}

-- ---- tokens that stand for a value

module _ {A : Type 0} (of : Option Word → Option A) (print : A → Word) (reader : Reader of always print) where
  value_by : (t : Option Word) (o : Option A) → of t ≡ o → is_there o ≡ true → (a : A) × (t ≡ Some (print a))
  value_by t None e some = absurd (cc)
  value_by t (Some a) e some = (a, (reader.says t a e).0)

  -- no token stands for a value and passes the test
  pub value_apart : (test : Option Word → Bool) → ((a : A) → test (Some (print a)) ≡ false) → Apart (λ t. is_there (of t)) test
  value_apart test off t e = let v = value_by t (of t) refl e in ap test v.1 ∙ off v.0

  -- a word that stands for a value passes the test for such words
  pub value_starts : (a : A) → is_there (of (Some (print a))) ≡ true
  value_starts a = ap is_there (reader.yes a refl)

-- no token of this class passes the test
pub class_apart : (c : Class) → is_fixed c ≡ true → (test : Option Word → Bool) → test (Some (word_of c)) ≡ false → Apart (is c) test
class_apart c fixed test off t e = ap test ((knows c fixed).says t e) ∙ off

-- ---- the words of types

abbrev pub vector_word : VectorKind → Word
vector_word v = word_of (vector_class v)

abbrev pub whole_word : WholeKind → Word
whole_word w = word_of (whole_class w)

abbrev pub signing_word : Signing → Word
signing_word s = word_of (signing_class s)

vector_from : (o : Option Class) (v : VectorKind) → vector_of o ≡ Some v → o ≡ Some (vector_class v)
vector_from (Some classes.Bit) v e = ap (option_map vector_class) e
vector_from (Some classes.Logic) v e = ap (option_map vector_class) e
vector_from (Some classes.Reg) v e = ap (option_map vector_class) e
vector_from _ v e = cc

vector_back : (v : VectorKind) → vector_of (Some (vector_class v)) ≡ Some v
vector_back vector.Bit = refl
vector_back vector.Logic = refl
vector_back vector.Reg = refl

vector_fixed : (v : VectorKind) → is_fixed (vector_class v) ≡ true
vector_fixed vector.Bit = refl
vector_fixed vector.Logic = refl
vector_fixed vector.Reg = refl

pub vector_reader : Reader (λ t. vector_of (class_at t)) always vector_word
vector_reader = class_reader vector_of vector_class vector_from vector_back vector_fixed

whole_from : (o : Option Class) (w : WholeKind) → whole_of o ≡ Some w → o ≡ Some (whole_class w)
whole_from (Some classes.Byte) w e = ap (option_map whole_class) e
whole_from (Some classes.ShortInt) w e = ap (option_map whole_class) e
whole_from (Some classes.Int) w e = ap (option_map whole_class) e
whole_from (Some classes.LongInt) w e = ap (option_map whole_class) e
whole_from _ w e = cc

whole_back : (w : WholeKind) → whole_of (Some (whole_class w)) ≡ Some w
whole_back whole.Byte = refl
whole_back whole.ShortInt = refl
whole_back whole.Int = refl
whole_back whole.LongInt = refl

whole_fixed : (w : WholeKind) → is_fixed (whole_class w) ≡ true
whole_fixed whole.Byte = refl
whole_fixed whole.ShortInt = refl
whole_fixed whole.Int = refl
whole_fixed whole.LongInt = refl

pub whole_reader : Reader (λ t. whole_of (class_at t)) always whole_word
whole_reader = class_reader whole_of whole_class whole_from whole_back whole_fixed

signing_from : (o : Option Class) (s : Signing) → signing_of o ≡ Some s → o ≡ Some (signing_class s)
signing_from (Some classes.Signed) s e = ap (option_map signing_class) e
signing_from (Some classes.Unsigned) s e = ap (option_map signing_class) e
signing_from _ s e = cc

signing_back : (s : Signing) → signing_of (Some (signing_class s)) ≡ Some s
signing_back signing.Signed = refl
signing_back signing.Unsigned = refl

signing_fixed : (s : Signing) → is_fixed (signing_class s) ≡ true
signing_fixed signing.Signed = refl
signing_fixed signing.Unsigned = refl

pub signing_reader : Reader (λ t. signing_of (class_at t)) always signing_word
signing_reader = class_reader signing_of signing_class signing_from signing_back signing_fixed
