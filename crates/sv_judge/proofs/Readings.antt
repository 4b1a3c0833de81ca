-- Chains that are read from the left.
use Rattle.std.proofs.Common.{◌≡◌, ℕ, ◌+◌, ◌<◌, ◌≤◌, List, length, map, drop, get_or, refl, sym, ap, ◌∙◌}
use Rattle.std.proofs.lemmas.List.{drop_all}
use Rattle.dpi_chain.specs.Tree.{Tree, Link, leaf, with_link, with_links, tree_of, value_of}
use Rattle.dpi_chain.specs.Reading.{Reads}
use Rattle.dpi_chain.specs.declared.chain.Chain.{Chain}
use Rattle.sv_signatures.proofs.Lists.{rest_of}
use Rattle.sv_tree.specs.declared.expr.Term.{Term}
use Rattle.sv_typing.specs.declared.operators.Binary.{Binary}
use Rattle.sv_typing.specs.declared.operators.Part.{Part}
use Rattle.sv_typing.specs.Judged.{kept}
use Rattle.sv_typing.specs.Operators.{part_between}
use Rattle.sv_typing.specs.Chains.{binds, link_kept}
use Rattle.sv_judge.specs.Calls.{Env}
use Rattle.sv_judge.specs.Judge.{term}

-- the operators, and what is kept of the operands behind them
abbrev pub links : Env → List Term → List (Link Binary Part)
links env xs = map link_kept (map (term env) xs)

-- The chain stands for a tree that comes to the whole chain's, once what is left stands behind it.
pub record IsReading (first : Part) (all left : List (Link Binary Part)) (c : Chain Binary Part) : Type 0 where
  pub tree : Tree Binary Part
  pub reads : Reads binds part_between c tree
  pub same : with_links binds tree left ≡ tree_of binds first all

pub reading_first : (env : Env) (first : Part) (xs : List Term) (c : Chain Binary Part) → Reads binds part_between c (leaf first) → IsReading first (links env xs) (links env (drop 0 xs)) c
reading_first env first xs c h = record { tree = leaf first; reads = h; same = refl }

pub reading_next : (env : Env) (first : Part) (all : List (Link Binary Part)) (xs : List Term) (i : ℕ) (x : Term) → i < length xs → x ≡ get_or xs i x
    → (c next : Chain Binary Part) (o : Binary) (right : Part) → o ≡ (term env x).operator → right ≡ kept (term env x).operand
    → ((t : Tree Binary Part) → Reads binds part_between c t → Reads binds part_between next (with_link binds t o right))
    → IsReading first all (links env (drop i xs)) c → IsReading first all (links env (drop (i + 1) xs)) next
reading_next env first all xs i x h e c next o right os rs step l =
    let rest = links env (drop (i + 1) xs) in
    record {
      tree = with_link binds l.tree o right;
      reads = step l.tree l.reads;
      same = ap (λ p. with_links binds (with_link binds l.tree p right) rest) os
          ∙ ap (λ r. with_links binds (with_link binds l.tree (term env x).operator r) rest) rs
          ∙ sym (ap (λ ys. with_links binds l.tree (links env ys)) (rest_of xs i x h e))
          ∙ l.same;
    }

pub reading_last : (env : Env) (first : Part) (all : List (Link Binary Part)) (xs : List Term) (i : ℕ) → length xs ≤ i → (c : Chain Binary Part) (value : Part)
    → (l : IsReading first all (links env (drop i xs)) c) → value ≡ value_of part_between l.tree → value ≡ value_of part_between (tree_of binds first all)
reading_last env first all xs i h c value l is =
    is ∙ ap (λ t. value_of part_between t) (sym (ap (λ ys. with_links binds l.tree (links env ys)) (drop_all i xs h)) ∙ l.same)
