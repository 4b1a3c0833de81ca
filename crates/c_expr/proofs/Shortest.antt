-- Shortest expressions, and for each token that begins an expression one that begins with it.
use Rattle.std.proofs.Common.{◌≡◌, ℕ, ◌+◌, ◌≤◌, Bool, true, false, ◌||◌, List, [], ◌∷◌, ◌++◌, map, Option, Some, None, refl, sym, ap, ◌∙◌, subst, arith}
use Rattle.dpi_grammar.specs.Told.{◌&◌, noted, each, deeper, nothing, words_in, IsRight}
use Rattle.dpi_grammar.specs.Parser.{first}
use Rattle.dpi_grammar.proofs.Exact.{words, Is, Viable}
use Rattle.dpi_lex.specs.Words.{Word}
use Rattle.c_tree.specs.declared.class.Class.{Class}
use Rattle.c_tree.specs.declared.class.Class.TheVariants as classes
use Rattle.c_tree.specs.declared.leaves.Name.{Name}
use Rattle.c_tree.specs.declared.leaves.Number.{Number}
use Rattle.c_tree.specs.declared.leaves.Character.{Character}
use Rattle.c_tree.specs.declared.leaves.Text.{Text}
use Rattle.c_tree.specs.declared.expr.Prefix.{Prefix}
use Rattle.c_tree.specs.declared.expr.Prefix.TheVariants as prefixes
use Rattle.c_tree.specs.declared.expr.CExpr.{CExpr}
use Rattle.c_tree.specs.declared.expr.Cond.{Cond}
use Rattle.c_tree.specs.declared.expr.Primary.{Primary, out-Primary}
use Rattle.c_tree.specs.declared.expr.Primary.TheVariants as forms
use Rattle.c_tree.specs.declared.expr.Primary.TheOpen.{Primary-F}
use Rattle.c_tree.specs.Classes.{class_at, is}
use Rattle.c_tree.specs.Operators.{unary_of}
use Rattle.c_tree.specs.Leaves.{Tells, quoted, number_told}
use Rattle.c_tree.specs.Expressions.{prefix_told, expr_told, cond_told, primary_told}
use Rattle.c_tree.proofs.ClassLemmas.{knows, when_class}
use Rattle.c_cursor.specs.Reading.{bytes_at, bytes_where}
use Rattle.c_cursor.proofs.Tokens.{name_reader, number_reader, character_reader, text_reader}
use Rattle.c_expr.specs.Front.{is_plain, begins_sign, begins_lead, begins_plain, begins_expr}
use Rattle.c_expr.proofs.Trees.{Layer, layer_told, expr, cond, chain, operand, expr_tells, cond_tells, chain_tells, operand_tells, primary_tells}
use Rattle.c_expr.proofs.Goes.{a_cond, an_expr}
use Rattle.c_expr.proofs.Operators.{there, unary_reader}

-- ---- prefixes and a primary

abbrev simple_cond : ℕ → List Prefix → Primary → Cond
simple_cond n ps p = cond n (chain n (operand n ps p []) []) None

abbrev simple : ℕ → List Prefix → Primary → CExpr
simple n ps p = expr n (simple_cond n ps p) []

abbrev cond_simply : ℕ → List Prefix → Tells → Tells
cond_simply n ps t = noted n & (noted n & (noted n & each (map prefix_told ps) & t & nothing) & nothing) & nothing

abbrev simply : ℕ → List Prefix → Tells → Tells
simply n ps t = noted n & cond_simply n ps t & nothing

simple_cond_tells : (n : ℕ) (ps : List Prefix) (p : Primary) (t : Tells) → primary_told p ≡ t → cond_told (simple_cond n ps p) ≡ cond_simply n ps t
simple_cond_tells n ps p t e =
    cond_tells n _ None ∙ ap (λ (c : Tells). noted n & c & nothing) (chain_tells n _ [] ∙ ap (λ (x : Tells). noted n & x & nothing)
    (operand_tells n ps p [] ∙ ap (λ (u : Tells). noted n & each (map prefix_told ps) & u & nothing) e))

simple_tells : (n : ℕ) (ps : List Prefix) (p : Primary) (t : Tells) → primary_told p ≡ t → expr_told (simple n ps p) ≡ simply n ps t
simple_tells n ps p t e = expr_tells n _ [] ∙ ap (λ (c : Tells). noted n & c & nothing) (simple_cond_tells n ps p t e)

-- ---- shortest trees

abbrev number_at : ℕ → Number
number_at n = record { token = n; bytes = [] }

number_tells : (n : ℕ) → primary_told (forms.Number (number_at n)) ≡ number_told (number_at n)
number_tells n = primary_tells (forms.Number (number_at n)) _ (forms.outs-Number (number_at n))

abbrev one_number : ℕ → CExpr
one_number n = simple n [] (forms.Number (number_at n))

one_number_tells : (n : ℕ) → expr_told (one_number n) ≡ simply n [] (number_told (number_at n))
one_number_tells n = simple_tells n [] (forms.Number (number_at n)) _ (number_tells n)

pub expr_viable : (d n : ℕ) → Viable an_expr d n []
expr_viable d n =
    let e = one_number_tells n in
    record {
      tree = one_number n;
      left = words an_expr (one_number n);
      begins = refl;
      is = subst (λ (a : Tells). IsRight n a.atoms) (sym e) (refl, (refl, (refl, (refl, (refl, tt)))));
      few = subst (λ (a : Tells). a.levels ≤ d) (sym e) (omega arith);
    }

pub cond_viable : (d n : ℕ) → Viable a_cond d n []
cond_viable d n =
    let tree = simple_cond n [] (forms.Number (number_at n)) in
    let e : cond_told tree ≡ cond_simply n [] (number_told (number_at n)) = simple_cond_tells n [] (forms.Number (number_at n)) _ (number_tells n) in
    record {
      tree = tree;
      left = words a_cond tree;
      begins = refl;
      is = subst (λ (a : Tells). IsRight n a.atoms) (sym e) (refl, (refl, (refl, (refl, tt))));
      few = subst (λ (a : Tells). a.levels ≤ d) (sym e) (omega arith);
    }

-- ---- an expression that begins with this token

abbrev pub Reached : Option Word → ℕ → Type 0
Reached o n = (e : CExpr) × Is an_expr n e × ((r : List Word) → first (words an_expr e ++ r) ≡ o)

reached : (o : Option Word) (n : ℕ) (ps : List Prefix) (p : Primary) (t : Tells) → primary_told p ≡ t → IsRight n (simply n ps t).atoms → ((r : List Word) → first (words_in (simply n ps t).atoms ++ r) ≡ o) → Reached o n
reached o n ps p t tells is begins =
    let e = simple_tells n ps p t tells in
    (simple n ps p, subst (λ (a : Tells). IsRight n a.atoms) (sym e) is, λ r. ap (λ (a : Tells). first (words_in a.atoms ++ r)) e ∙ begins r)

layered : (o : Option Word) (n : ℕ) (p : Primary) (l : Layer) → out-Primary p ≡ l → IsRight n (simply n [] (layer_told l)).atoms → ((r : List Word) → first (words_in (simply n [] (layer_told l)).atoms ++ r) ≡ o) → Reached o n
layered o n p l out is begins = reached o n [] p (layer_told l) (primary_tells p l out) is begins

plain_by : (o : Option Word) (n : ℕ) (c : Option Class) → class_at o ≡ c → is_plain c ≡ true → Reached o n
plain_by o n (Some classes.Name) e good =
    let m : Name = record { token = n; bytes = bytes_at o } in
    let h = name_reader.says o (bytes_at o) (ap (λ b. bytes_where b o) (when_class classes.Name o e)) in
    layered o n (forms.Name m) (Primary-F.Name m) (forms.outs-Name m) (refl, (refl, (refl, (refl, (refl, (h.1, tt)))))) (λ r. sym h.0)
plain_by o n (Some classes.Number) e good =
    let m : Number = record { token = n; bytes = bytes_at o } in
    let h = number_reader.says o (bytes_at o) (ap (λ b. bytes_where b o) (when_class classes.Number o e)) in
    layered o n (forms.Number m) (Primary-F.Number m) (forms.outs-Number m) (refl, (refl, (refl, (refl, (refl, tt))))) (λ r. sym h.0)
plain_by o n (Some classes.Character) e good =
    let m : Character = record { token = n; bytes = bytes_at o } in
    let h = character_reader.says o (bytes_at o) (ap (λ b. bytes_where b o) (when_class classes.Character o e)) in
    layered o n (forms.Character m) (Primary-F.Character m) (forms.outs-Character m) (refl, (refl, (refl, (refl, (refl, tt))))) (λ r. sym h.0)
plain_by o n (Some classes.Text) e good =
    let m : Text = record { token = n; bytes = bytes_at o } in
    let h = text_reader.says o (bytes_at o) (ap (λ b. bytes_where b o) (when_class classes.Text o e)) in
    layered o n (forms.Text m) (Primary-F.Text m) (forms.outs-Text m) (refl, (refl, (refl, (refl, (refl, tt))))) (λ r. sym h.0)
plain_by o n (Some classes.Null) e good =
    let h = (knows classes.Null refl).says o (when_class classes.Null o e) in
    layered o n (forms.Null n) (Primary-F.Null n) (forms.outs-Null n) (refl, (refl, (refl, (refl, (refl, tt))))) (λ r. sym h)
plain_by o n _ e good = let bad : false ≡ true = good in absurd (cc)

group_reached : (o : Option Word) (n : ℕ) → is classes.OpenParen o ≡ true → Reached o n
group_reached o n e =
    let tells = primary_tells (forms.Group n (one_number (n + 1))) _ (forms.outs-Group n (one_number (n + 1)))
    ∙ ap (λ (x : Tells). deeper (noted n & quoted classes.OpenParen & x & quoted classes.CloseParen)) (one_number_tells (n + 1)) in
    reached o n [] (forms.Group n (one_number (n + 1))) (deeper (noted n & quoted classes.OpenParen & simply (n + 1) [] (number_told (number_at (n + 1))) & quoted classes.CloseParen)) tells
    (refl, (refl, (refl, (refl, (refl, (refl, (refl, (refl, (refl, (refl, tt)))))))))) (λ r. sym ((knows classes.OpenParen refl).says o e))

sign_reached : (o : Option Word) (n : ℕ) → begins_sign o ≡ true → Reached o n
sign_reached o n e =
    let u = there (unary_of (class_at o)) e in
    reached o n (prefixes.Sign n u.0 ∷ []) (forms.Number (number_at (n + 1))) (number_told (number_at (n + 1))) (number_tells (n + 1))
    (refl, (refl, (refl, (refl, (refl, (refl, tt)))))) (λ r. sym (unary_reader.says o u.0 u.1).0)

or_cases : {P : Type 0} (a b : Bool) → (a || b) ≡ true → (a ≡ true → P) → (b ≡ true → P) → P
or_cases true b e p q = p refl
or_cases false b e p q = q e

pub expr_reached : (o : Option Word) (n : ℕ) → begins_expr o ≡ true → Reached o n
expr_reached o n e =
    or_cases (begins_lead o) (begins_plain o) e
    (λ h. or_cases (is classes.OpenParen o) (begins_sign o) h (group_reached o n) (sign_reached o n))
    (λ h. plain_by o n (class_at o) refl h)
