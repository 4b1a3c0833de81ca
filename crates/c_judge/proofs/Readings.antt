-- Chains that are read from the left.
use Rattle.std.proofs.Common.{◌≡◌, ℕ, ◌+◌, ◌<◌, ◌≤◌, List, length, map, drop, get_or, refl, sym, ap, ◌∙◌}
use Rattle.std.proofs.lemmas.List.{drop_all}
use Rattle.dpi_chain.specs.Tree.{Tree, Link, leaf, with_link, with_links, tree_of, value_of}
use Rattle.dpi_chain.specs.Reading.{Reads}
use Rattle.dpi_chain.specs.declared.chain.Chain.{Chain}
use Rattle.c_tree.specs.declared.expr.Term.{Term}
use Rattle.c_typing.specs.declared.chain.Sign.{Sign}
use Rattle.c_typing.specs.declared.chain.Typed.{Typed}
use Rattle.c_typing.specs.Binary.{binary_typed, typed}
use Rattle.c_judge.specs.Calls.{Env}
use Rattle.c_judge.specs.Judge.{binds, link_typed, term}
use Rattle.c_judge.proofs.Lists.{rest_of}

-- the operators, and what is kept of the operands behind them
abbrev pub links : Env → List Term → List (Link Sign Typed)
links env xs = map link_typed (map (term env) xs)

-- The chain stands for a tree that comes to the whole chain's, once what is left stands behind it.
pub record IsReading (first : Typed) (all left : List (Link Sign Typed)) (c : Chain Sign Typed) : Type 0 where
  pub tree : Tree Sign Typed
  pub reads : Reads binds binary_typed c tree
  pub same : with_links binds tree left ≡ tree_of binds first all

pub reading_first : (env : Env) (first : Typed) (xs : List Term) (c : Chain Sign Typed) → Reads binds binary_typed c (leaf first) → IsReading first (links env xs) (links env (drop 0 xs)) c
reading_first env first xs c h = record { tree = leaf first; reads = h; same = refl }

pub reading_next : (env : Env) (first : Typed) (all : List (Link Sign Typed)) (xs : List Term) (i : ℕ) (x : Term) → i < length xs → x ≡ get_or xs i x
    → (c next : Chain Sign Typed) (o : Sign) (right : Typed) → o ≡ (term env x).operator → right ≡ typed (term env x).operand
    → ((t : Tree Sign Typed) → Reads binds binary_typed c t → Reads binds binary_typed next (with_link binds t o right))
    → IsReading first all (links env (drop i xs)) c → IsReading first all (links env (drop (i + 1) xs)) next
reading_next env first all xs i x h e c next o right os rs step l =
    let rest = links env (drop (i + 1) xs) in
    record {
      tree = with_link binds l.tree o right;
      reads = step l.tree l.reads;
      same = ap (λ p. with_links binds (with_link binds l.tree p right) rest) os
          ∙ ap (λ r. with_links binds (with_link binds l.tree (term env x).operator r) rest) rs
          ∙ sym (ap (λ ys. with_links binds l.tree (links env ys)) (rest_of xs i x h e))
          ∙ l.same;
    }

pub reading_last : (env : Env) (first : Typed) (all : List (Link Sign Typed)) (xs : List Term) (i : ℕ) → length xs ≤ i → (c : Chain Sign Typed) (value : Typed)
    → (l : IsReading first all (links env (drop i xs)) c) → value ≡ value_of binary_typed l.tree → value ≡ value_of binary_typed (tree_of binds first all)
reading_last env first all xs i h c value l is =
    is ∙ ap (λ t. value_of binary_typed t) (sym (ap (λ ys. with_links binds l.tree (links env ys)) (drop_all i xs h)) ∙ l.same)
