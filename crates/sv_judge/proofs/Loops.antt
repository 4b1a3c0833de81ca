-- Loops over the parts of an expression.
use Rattle.std.proofs.Common.{◌≡◌, ℕ, ◌+◌, ◌<◌, ◌≤◌, List, [], ◌∷◌, ◌++◌, length, map, drop, get_or, refl, sym, ap, ◌∙◌, Option}
use Rattle.std.proofs.lemmas.List.{drop_all, append-nil}
use Rattle.dpi_rules.specs.declared.violation.Violation.{Violation}
use Rattle.dpi_rules.specs.Least.{noted}
use Rattle.dpi_rules.proofs.Firsts.{noted-append}
use Rattle.dpi_rules.proofs.Noting.{noted_both}
use Rattle.sv_signatures.proofs.Lists.{rest_of, made_more, noted_more}
use Rattle.sv_tree.specs.declared.expr.Expr.{Expr, out-Expr}
use Rattle.sv_tree.specs.declared.expr.Select.{Select}
use Rattle.sv_names.specs.declared.uses.Callee.{Callee}
use Rattle.sv_typing.specs.declared.concatenations.Joint.{Joint}
use Rattle.sv_typing.specs.declared.selects.Selected.{Selected}
use Rattle.sv_judge.specs.declared.calls.Passing.{Passing}
use Rattle.sv_judge.specs.declared.forms.Whole.{Whole}
use Rattle.sv_judge.specs.Forms.{joint}
use Rattle.sv_judge.specs.Calls.{Env, passing_at, passed}
use Rattle.sv_judge.specs.Judge.{Actual, Selects, selected_by, actuals_violations, parts_found, actual, select, judge}
use Rattle.sv_judge.proofs.Trees.{expr_is}

-- what the selects that are left make of what is selected so far
pub record IsSelecting (env : Env) (before : Option Selected) (start : Option Violation) (xs left : List Select) (selected : Option Selected) (found : Option Violation) : Type 0 where
  pub value : (selected_by (map (select env) xs) before).value ≡ (selected_by (map (select env) left) selected).value
  pub same : noted start (selected_by (map (select env) xs) before).found ≡ noted found (selected_by (map (select env) left) selected).found

pub selecting_first : (env : Env) (before : Option Selected) (start : Option Violation) (xs : List Select) → IsSelecting env before start xs (drop 0 xs) before start
selecting_first env before start xs = record { value = refl; same = refl }

pub selecting_next : (env : Env) (before : Option Selected) (start : Option Violation) (xs : List Select) (i : ℕ) (x : Select) → i < length xs → x ≡ get_or xs i x
    → (selected next : Option Selected) (found after : Option Violation) → (next ≡ (select env x selected).value) × (after ≡ noted found (select env x selected).found)
    → IsSelecting env before start xs (drop i xs) selected found → IsSelecting env before start xs (drop (i + 1) xs) next after
selecting_next env before start xs i x h e selected next found after is l =
    let fs : List Selects = map (select env) (drop (i + 1) xs) in
    let here = rest_of xs i x h e in
    record {
      value = l.value ∙ ap (λ ys. (selected_by (map (select env) ys) selected).value) here ∙ ap (λ s. (selected_by fs s).value) (sym is.0);
      same = l.same
          ∙ ap (λ ys. noted found (selected_by (map (select env) ys) selected).found) here
          ∙ noted-append found (select env x selected).found (selected_by fs (select env x selected).value).found
          ∙ ap (λ o. noted o (selected_by fs (select env x selected).value).found) (sym is.1)
          ∙ ap (λ s. noted after (selected_by fs s).found) (sym is.0);
    }

pub selecting_last : (env : Env) (before : Option Selected) (start : Option Violation) (xs : List Select) (i : ℕ) → length xs ≤ i
    → (selected : Option Selected) (found : Option Violation) → IsSelecting env before start xs (drop i xs) selected found
    → (selected ≡ (selected_by (map (select env) xs) before).value) × (found ≡ noted start (selected_by (map (select env) xs) before).found)
selecting_last env before start xs i h selected found l =
    let none = drop_all i xs h in (
      sym (l.value ∙ ap (λ ys. (selected_by (map (select env) ys) selected).value) none),
      sym (l.same ∙ ap (λ ys. noted found (selected_by (map (select env) ys) selected).found) none),
    )

-- what the actuals that are left violate
pub record IsPassing (env : Env) (callee : Option Callee) (start : Option Violation) (xs : List Expr) (i : ℕ) (found : Option Violation) : Type 0 where
  pub same : noted start (actuals_violations env callee 0 (map (actual env) xs)) ≡ noted found (actuals_violations env callee i (map (actual env) (drop i xs)))

pub passing_first : (env : Env) (callee : Option Callee) (start : Option Violation) (xs : List Expr) → IsPassing env callee start xs 0 start
passing_first env callee start xs = record { same = refl }

token_is : (env : Env) (x : Expr) → (out-Expr x).token ≡ (actual env x).token
token_is env x = sym (ap (λ (a : Actual). a.token) (expr_is env x))

pub passing_next : (env : Env) (callee : Option Callee) (start : Option Violation) (xs : List Expr) (i : ℕ) (x : Expr) → i < length xs → x ≡ get_or xs i x
    → (w : Whole) (p : Option Passing) (found middle after : Option Violation) → (w ≡ (judge env x).whole) × (middle ≡ noted found (judge env x).found) → p ≡ passing_at env callee i
    → after ≡ noted middle (passed env.file (out-Expr x).token p w)
    → IsPassing env callee start xs i found → IsPassing env callee start xs (i + 1) after
passing_next env callee start xs i x h e w p found middle after is ps n l =
    let vs = (judge env x).found in
    let ws = passed env.file (actual env x).token (passing_at env callee i) (judge env x).whole in
    let rest = actuals_violations env callee (i + 1) (map (actual env) (drop (i + 1) xs)) in
    let last : after ≡ noted middle ws =
    n
    ∙ ap (λ (v : Whole). noted middle (passed env.file (out-Expr x).token p v)) is.0
    ∙ ap (λ o. noted middle (passed env.file (out-Expr x).token o (judge env x).whole)) ps
    ∙ ap (λ k. noted middle (passed env.file k (passing_at env callee i) (judge env x).whole)) (token_is env x) in
    record {
      same = l.same
          ∙ ap (λ ys. noted found (actuals_violations env callee i (map (actual env) ys))) (rest_of xs i x h e)
          ∙ noted-append found (vs ++ ws) rest
          ∙ ap (λ o. noted o rest) (sym (noted_both found vs ws is.1 last));
    }

pub passing_last : (env : Env) (callee : Option Callee) (start : Option Violation) (xs : List Expr) (i : ℕ) → length xs ≤ i
    → (found : Option Violation) → IsPassing env callee start xs i found → found ≡ noted start (actuals_violations env callee 0 (map (actual env) xs))
passing_last env callee start xs i h found l =
    sym (l.same ∙ ap (λ ys. noted found (actuals_violations env callee i (map (actual env) ys))) (drop_all i xs h))

-- the parts of a concatenation
abbrev pub joints : Env → List Expr → List Joint
joints env xs = map (λ (a : Actual). joint a.seen.whole) (map (actual env) xs)

-- the parts so far, and those that are left
pub record IsJoining (env : Env) (start : Option Violation) (xs left : List Expr) (made : List Joint) (found : Option Violation) : Type 0 where
  pub list : made ++ joints env left ≡ joints env xs
  pub same : noted start (parts_found (map (actual env) xs)) ≡ noted found (parts_found (map (actual env) left))

pub joining_first : (env : Env) (start : Option Violation) (xs : List Expr) → IsJoining env start xs (drop 0 xs) [] start
joining_first env start xs = record { list = refl; same = refl }

pub joining_next : (env : Env) (start : Option Violation) (xs : List Expr) (i : ℕ) (x : Expr) → i < length xs → x ≡ get_or xs i x
    → (w : Whole) (j : Joint) (made next : List Joint) (found after : Option Violation) → (w ≡ (judge env x).whole) × (after ≡ noted found (judge env x).found)
    → j ≡ joint w → next ≡ made ++ j ∷ []
    → IsJoining env start xs (drop i xs) made found → IsJoining env start xs (drop (i + 1) xs) next after
joining_next env start xs i x h e w j made next found after is js ns l =
    let here = rest_of xs i x h e in
    record {
      list = made_more made next j (joint (judge env x).whole) (joints env (drop (i + 1) xs)) (joints env xs) ns (js ∙ ap joint is.0)
          (ap (λ ys. made ++ joints env ys) (sym here) ∙ l.list);
      same = noted_more (noted start (parts_found (map (actual env) xs))) found after (judge env x).found (parts_found (map (actual env) (drop (i + 1) xs))) is.1
          (l.same ∙ ap (λ ys. noted found (parts_found (map (actual env) ys))) here);
    }

pub joining_last : (env : Env) (start : Option Violation) (xs : List Expr) (i : ℕ) → length xs ≤ i → (made : List Joint) (found : Option Violation)
    → IsJoining env start xs (drop i xs) made found → (made ≡ joints env xs) × (found ≡ noted start (parts_found (map (actual env) xs)))
joining_last env start xs i h made found l =
    let none = drop_all i xs h in (
      sym (append-nil made) ∙ ap (λ ys. made ++ joints env ys) (sym none) ∙ l.list,
      sym (l.same ∙ ap (λ ys. noted found (parts_found (map (actual env) ys))) none),
    )
