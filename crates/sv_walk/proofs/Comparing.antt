-- Loops that judge expressions and keep something of each.
use Rattle.std.proofs.Common.{◌≡◌, ℕ, ◌+◌, ◌<◌, ◌≤◌, List, [], ◌∷◌, ◌++◌, length, map, flat_map, drop, get_or, refl, sym, ap, ◌∙◌, append_assoc, Option}
use Rattle.std.proofs.lemmas.List.{drop_all, append-nil}
use Rattle.dpi_rules.specs.declared.violation.Violation.{Violation}
use Rattle.dpi_rules.specs.Least.{noted}
use Rattle.dpi_rules.proofs.Firsts.{noted-append}
use Rattle.dpi_rules.proofs.Noting.{noted_both}
use Rattle.sv_signatures.proofs.Lists.{rest_of}
use Rattle.sv_tree.specs.declared.expr.Expr.{Expr}
use Rattle.sv_judge.specs.Calls.{Env}
use Rattle.sv_judge.specs.Judge.{judge}
use Rattle.sv_typing.specs.declared.types.Operand.{Operand}
use Rattle.sv_contexts.specs.Cases.{case_violations}
use Rattle.sv_walk.specs.Heads.{all_found, value_of, compared_violations}

map_both : {A B : Type 0} (f : A → B) (xs ys : List A) → map f (xs ++ ys) ≡ map f xs ++ map f ys
map_both f [] ys = refl
map_both f (x ∷ xs) ys = ap (λ zs. f x ∷ zs) (map_both f xs ys)

pub found_both : (env : Env) (xs ys : List Expr) → all_found env (xs ++ ys) ≡ all_found env xs ++ all_found env ys
found_both env [] ys = refl
found_both env (x ∷ xs) ys = ap (λ vs. (judge env x).found ++ vs) (found_both env xs ys) ∙ sym (append_assoc (judge env x).found (all_found env xs) (all_found env ys))

-- What is kept of the expressions in each of a list so far, and in those that are left.
pub record IsKeeping {X K : Type 0} (env : Env) (keep : Expr → K) (of : X → List Expr) (before : List K) (start : Option Violation) (xs left : List X) (made : List K) (found : Option Violation) : Type 0 where
  pub list : before ++ map keep (flat_map of xs) ≡ made ++ map keep (flat_map of left)
  pub same : noted start (all_found env (flat_map of xs)) ≡ noted found (all_found env (flat_map of left))

pub keeping_first : {X K : Type 0} (env : Env) (keep : Expr → K) (of : X → List Expr) (before : List K) (start : Option Violation) (xs : List X) → IsKeeping env keep of before start xs (drop 0 xs) before start
keeping_first env keep of before start xs = record { list = refl; same = refl }

pub keeping_next : {X K : Type 0} (env : Env) (keep : Expr → K) (of : X → List Expr) (before : List K) (start : Option Violation) (xs : List X) (i : ℕ) (x : X) → i < length xs → x ≡ get_or xs i x
    → (made next : List K) (found after : Option Violation) → (next ≡ made ++ map keep (of x)) × (after ≡ noted found (all_found env (of x)))
    → IsKeeping env keep of before start xs (drop i xs) made found → IsKeeping env keep of before start xs (drop (i + 1) xs) next after
keeping_next env keep of before start xs i x h e made next found after is l =
    let here = rest_of xs i x h e in
    let rest = flat_map of (drop (i + 1) xs) in
    record {
      list = l.list
          ∙ ap (λ ys. made ++ map keep (flat_map of ys)) here
          ∙ ap (λ ys. made ++ ys) (map_both keep (of x) rest)
          ∙ sym (append_assoc made (map keep (of x)) (map keep rest))
          ∙ ap (λ ys. ys ++ map keep rest) (sym is.0);
      same = l.same
          ∙ ap (λ ys. noted found (all_found env (flat_map of ys))) here
          ∙ ap (noted found) (found_both env (of x) rest)
          ∙ noted-append found (all_found env (of x)) (all_found env rest)
          ∙ ap (λ o. noted o (all_found env rest)) (sym is.1);
    }

pub keeping_last : {X K : Type 0} (env : Env) (keep : Expr → K) (of : X → List Expr) (before : List K) (start : Option Violation) (xs : List X) (i : ℕ) → length xs ≤ i → (made : List K) (found : Option Violation)
    → IsKeeping env keep of before start xs (drop i xs) made found
    → (made ≡ before ++ map keep (flat_map of xs)) × (found ≡ noted start (all_found env (flat_map of xs)))
keeping_last env keep of before start xs i h made found l =
    let none = drop_all i xs h in (
      sym (l.list ∙ ap (λ ys. made ++ map keep (flat_map of ys)) none ∙ append-nil made),
      sym (l.same ∙ ap (λ ys. noted found (all_found env (flat_map of ys))) none),
    )

-- each alone
abbrev pub alone : Expr → List Expr
alone e = e ∷ []

all_alone : (es : List Expr) → flat_map alone es ≡ es
all_alone [] = refl
all_alone (e ∷ es) = ap (λ xs. e ∷ xs) (all_alone es)

-- nothing is left of expressions one by one
pub keeping_all : {K : Type 0} (env : Env) (keep : Expr → K) (before : List K) (start : Option Violation) (xs : List Expr) (i : ℕ) → length xs ≤ i → (made : List K) (found : Option Violation)
    → IsKeeping env keep alone before start xs (drop i xs) made found
    → (made ≡ before ++ map keep xs) × (found ≡ noted start (all_found env xs))
keeping_all env keep before start xs i h made found l =
    let both = keeping_last env keep alone before start xs i h made found l in
    let whole = all_alone xs in (
      both.0 ∙ ap (λ ys. before ++ map keep ys) whole,
      both.1 ∙ ap (λ ys. noted start (all_found env ys)) whole,
    )

-- one expression, then others, and what comparing all of them violates
pub compared_noted : (env : Env) (token : ℕ) (e : Expr) (rest : List Expr) (none first both shown : List (Option Operand)) (start a b end : Option Violation)
    → none ≡ [] → (first ≡ none ++ map (value_of env) (e ∷ [])) × (a ≡ noted start (all_found env (e ∷ [])))
    → (both ≡ first ++ map (value_of env) rest) × (b ≡ noted a (all_found env rest))
    → shown ≡ both → end ≡ noted b (case_violations env.file token shown)
    → end ≡ noted start (compared_violations env token (e ∷ rest))
compared_noted env token e rest none first both shown start a b end n f g s h =
    let es = e ∷ rest in
    let values : shown ≡ map (value_of env) es =
    s ∙ g.0 ∙ ap (λ vs. vs ++ map (value_of env) rest) (f.0 ∙ ap (λ vs. vs ++ map (value_of env) (e ∷ [])) n) in
    let found : b ≡ noted start (all_found env es) =
    noted_both start (all_found env (e ∷ [])) (all_found env rest) f.1 g.1 ∙ ap (noted start) (sym (found_both env (e ∷ []) rest)) in
    noted_both start (all_found env es) (case_violations env.file token (map (value_of env) es)) found
    (h ∙ ap (λ vs. noted b (case_violations env.file token vs)) values)
