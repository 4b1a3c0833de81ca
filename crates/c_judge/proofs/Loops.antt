-- Loops over the parts of an expression.
use Rattle.std.proofs.Common.{◌≡◌, ℕ, ◌+◌, ◌<◌, ◌≤◌, List, [], ◌∷◌, ◌++◌, length, map, drop, get_or, refl, sym, ap, ◌∙◌, Option}
use Rattle.std.proofs.lemmas.List.{drop_all, append-nil}
use Rattle.dpi_rules.specs.declared.violation.Violation.{Violation}
use Rattle.dpi_rules.specs.Least.{noted}
use Rattle.dpi_rules.proofs.Firsts.{noted-append}
use Rattle.c_base.specs.declared.ctype.CType.{CType}
use Rattle.c_tree.specs.declared.expr.Assignment.{Assignment, out-Assignment}
use Rattle.c_tree.specs.declared.expr.CExpr.{CExpr, out-CExpr}
use Rattle.c_tree.specs.declared.expr.Cond.{out-Cond}
use Rattle.c_tree.specs.declared.expr.Suffix.{Suffix}
use Rattle.c_names.specs.declared.uses.Callee.{Callee}
use Rattle.c_typing.specs.declared.operand.Operand.{Operand}
use Rattle.c_typing.specs.Conversions.{conversion}
use Rattle.c_judge.specs.declared.assignments.Side.{Side}
use Rattle.c_judge.specs.Calls.{Env, at, parameter}
use Rattle.c_judge.specs.Judge.{Assigned, Suffixes, suffixed, sides, sides_found, arguments_violations, values_of, placed, suffix, assignment_of, cond, judge, value_violations}
use Rattle.c_judge.proofs.Lists.{rest_of, made_more, noted_more}
use Rattle.c_judge.proofs.Trees.{assignment_is, expr_token, cond_token}

-- what the suffixes that are left make of the operand so far
pub record IsSuffixing (env : Env) (first : Option Operand) (start : Option Violation) (xs left : List Suffix) (operand : Option Operand) (found : Option Violation) : Type 0 where
  pub value : (suffixed (map (suffix env) xs) first).value ≡ (suffixed (map (suffix env) left) operand).value
  pub same : noted start (suffixed (map (suffix env) xs) first).found ≡ noted found (suffixed (map (suffix env) left) operand).found

pub suffixing_first : (env : Env) (first : Option Operand) (start : Option Violation) (xs : List Suffix) → IsSuffixing env first start xs (drop 0 xs) first start
suffixing_first env first start xs = record { value = refl; same = refl }

pub suffixing_next : (env : Env) (first : Option Operand) (start : Option Violation) (xs : List Suffix) (i : ℕ) (x : Suffix) → i < length xs → x ≡ get_or xs i x
    → (operand next : Option Operand) (found after : Option Violation) → (next ≡ (suffix env x operand).value) × (after ≡ noted found (suffix env x operand).found)
    → IsSuffixing env first start xs (drop i xs) operand found → IsSuffixing env first start xs (drop (i + 1) xs) next after
suffixing_next env first start xs i x h e operand next found after is l =
    let fs : List Suffixes = map (suffix env) (drop (i + 1) xs) in
    let here = rest_of xs i x h e in
    record {
      value = l.value ∙ ap (λ ys. (suffixed (map (suffix env) ys) operand).value) here ∙ ap (λ o. (suffixed fs o).value) (sym is.0);
      same = l.same
          ∙ ap (λ ys. noted found (suffixed (map (suffix env) ys) operand).found) here
          ∙ noted-append found (suffix env x operand).found (suffixed fs (suffix env x operand).value).found
          ∙ ap (λ o. noted o (suffixed fs (suffix env x operand).value).found) (sym is.1)
          ∙ ap (λ o. noted after (suffixed fs o).found) (sym is.0);
    }

pub suffixing_last : (env : Env) (first : Option Operand) (start : Option Violation) (xs : List Suffix) (i : ℕ) → length xs ≤ i
    → (operand : Option Operand) (found : Option Violation) → IsSuffixing env first start xs (drop i xs) operand found
    → (operand ≡ (suffixed (map (suffix env) xs) first).value) × (found ≡ noted start (suffixed (map (suffix env) xs) first).found)
suffixing_last env first start xs i h operand found l =
    let none = drop_all i xs h in (
      sym (l.value ∙ ap (λ ys. (suffixed (map (suffix env) ys) operand).value) none),
      sym (l.same ∙ ap (λ ys. noted found (suffixed (map (suffix env) ys) operand).found) none),
    )

-- the values of arguments
abbrev pub values : Env → List CExpr → List (Option Operand)
values env xs = values_of (map (placed env) xs)

-- the arguments so far, and those that are left
pub record IsPassing (env : Env) (callee : Option Callee) (start : Option Violation) (xs : List CExpr) (i : ℕ) (made : List (Option Operand)) (found : Option Violation) : Type 0 where
  pub list : made ++ values env (drop i xs) ≡ values env xs
  pub same : noted start (arguments_violations env callee 0 (map (placed env) xs)) ≡ noted found (arguments_violations env callee i (map (placed env) (drop i xs)))

pub passing_first : (env : Env) (callee : Option Callee) (start : Option Violation) (xs : List CExpr) → IsPassing env callee start xs 0 [] start
passing_first env callee start xs = record { list = refl; same = refl }

pub passing_next : (env : Env) (callee : Option Callee) (start : Option Violation) (xs : List CExpr) (i : ℕ) (x : CExpr) → i < length xs → x ≡ get_or xs i x
    → (to : Option CType) (v : Option Operand) (made next : List (Option Operand)) (found after : Option Violation) → to ≡ parameter env callee i
    → (v ≡ (judge env x).value) × (after ≡ noted found (value_violations env x to)) → next ≡ made ++ v ∷ []
    → IsPassing env callee start xs i made found → IsPassing env callee start xs (i + 1) next after
passing_next env callee start xs i x h e to v made next found after ts is ns l =
    let here = rest_of xs i x h e in
    let vs = (judge env x).found ++ conversion (at env (placed env x).token) (judge env x).value (parameter env callee i) in
    let last : after ≡ noted found vs =
    is.1
    ∙ ap (λ t. noted found ((judge env x).found ++ conversion (at env (out-CExpr x).token) (judge env x).value t)) ts
    ∙ ap (λ k. noted found ((judge env x).found ++ conversion (at env k) (judge env x).value (parameter env callee i))) (expr_token env x) in
    record {
      list = made_more made next v (judge env x).value (values env (drop (i + 1) xs)) (values env xs) ns is.0 (ap (λ ys. made ++ values env ys) (sym here) ∙ l.list);
      same = noted_more (noted start (arguments_violations env callee 0 (map (placed env) xs))) found after vs (arguments_violations env callee (i + 1) (map (placed env) (drop (i + 1) xs))) last
          (l.same ∙ ap (λ ys. noted found (arguments_violations env callee i (map (placed env) ys))) here);
    }

pub passing_last : (env : Env) (callee : Option Callee) (start : Option Violation) (xs : List CExpr) (i : ℕ) → length xs ≤ i
    → (made : List (Option Operand)) (found : Option Violation) → IsPassing env callee start xs i made found
    → (made ≡ values env xs) × (found ≡ noted start (arguments_violations env callee 0 (map (placed env) xs)))
passing_last env callee start xs i h made found l =
    let none = drop_all i xs h in (
      sym (append-nil made) ∙ ap (λ ys. made ++ values env ys) (sym none) ∙ l.list,
      sym (l.same ∙ ap (λ ys. noted found (arguments_violations env callee i (map (placed env) ys))) none),
    )

-- the parts behind assigning operators
abbrev pub all : Env → List Assignment → List Assigned
all env xs = map (assignment_of env) xs

-- the parts so far, and those that are left
pub record IsSiding (env : Env) (start : Option Violation) (xs left : List Assignment) (made : List Side) (found : Option Violation) : Type 0 where
  pub list : made ++ sides (all env left) ≡ sides (all env xs)
  pub same : noted start (sides_found (all env xs)) ≡ noted found (sides_found (all env left))

pub siding_first : (env : Env) (start : Option Violation) (xs : List Assignment) → IsSiding env start xs (drop 0 xs) [] start
siding_first env start xs = record { list = refl; same = refl }

-- a part that is judged
pub side_of : (env : Env) (x : Assignment) (v : Option Operand) → v ≡ (cond env (out-Assignment x).value).judged.value
    → (let o = out-Assignment x in let s : Side = record { token = o.token; first = (out-Cond o.value).token; operator = o.operator; value = v } in s) ≡ (assignment_of env x).side
side_of env x v is =
    let o = out-Assignment x in
    ap (λ k. let s : Side = record { token = o.token; first = k; operator = o.operator; value = v } in s) (cond_token env o.value)
    ∙ ap (λ w. let s : Side = record { token = o.token; first = (cond env o.value).token; operator = o.operator; value = w } in s) is
    ∙ sym (ap (λ (a : Assigned). a.side) (assignment_is env x))

pub siding_next : (env : Env) (start : Option Violation) (xs : List Assignment) (i : ℕ) (x : Assignment) → i < length xs → x ≡ get_or xs i x
    → (s : Side) (made next : List Side) (found after : Option Violation) → s ≡ (assignment_of env x).side
    → after ≡ noted found (cond env (out-Assignment x).value).judged.found → next ≡ made ++ s ∷ []
    → IsSiding env start xs (drop i xs) made found → IsSiding env start xs (drop (i + 1) xs) next after
siding_next env start xs i x h e s made next found after ss is ns l =
    let here = rest_of xs i x h e in
    record {
      list = made_more made next s (assignment_of env x).side (sides (all env (drop (i + 1) xs))) (sides (all env xs)) ns ss (ap (λ ys. made ++ sides (all env ys)) (sym here) ∙ l.list);
      same = noted_more (noted start (sides_found (all env xs))) found after (assignment_of env x).found (sides_found (all env (drop (i + 1) xs)))
          (is ∙ sym (ap (λ (a : Assigned). noted found a.found) (assignment_is env x)))
          (l.same ∙ ap (λ ys. noted found (sides_found (all env ys))) here);
    }

pub siding_last : (env : Env) (start : Option Violation) (xs : List Assignment) (i : ℕ) → length xs ≤ i → (made : List Side) (found : Option Violation)
    → IsSiding env start xs (drop i xs) made found → (made ≡ sides (all env xs)) × (found ≡ noted start (sides_found (all env xs)))
siding_last env start xs i h made found l =
    let none = drop_all i xs h in (
      sym (append-nil made) ∙ ap (λ ys. made ++ sides (all env ys)) (sym none) ∙ l.list,
      sym (l.same ∙ ap (λ ys. noted found (sides_found (all env ys))) none),
    )
