-- What each step of the walk makes of what its parts are.
use Rattle.std.proofs.Common.{◌≡◌, ℕ, List, ◌++◌, map, refl, sym, ap, ◌∙◌, Option, Some, None}
use Rattle.std.specs.Prelude.{option_map}
use Rattle.dpi_chain.specs.Tree.{tree_of, value_of}
use Rattle.dpi_rules.specs.declared.violation.Violation.{Violation}
use Rattle.dpi_rules.specs.Order.{joined}
use Rattle.dpi_rules.specs.Least.{noted}
use Rattle.dpi_rules.proofs.Firsts.{noted_is_joined}
use Rattle.dpi_rules.proofs.Noting.{noted_both}
use Rattle.c_base.specs.declared.ctype.CType.{CType}
use Rattle.c_tree.specs.declared.leaves.Name.{Name}
use Rattle.c_tree.specs.declared.expr.CExpr.{CExpr, out-CExpr}
use Rattle.c_tree.specs.declared.expr.Cond.{Cond, out-Cond}
use Rattle.c_tree.specs.declared.expr.Choice.{Choice, out-Choice}
use Rattle.c_tree.specs.declared.expr.Chain.{Chain, out-Chain}
use Rattle.c_tree.specs.declared.expr.Operand.{Operand as OperandTree, out-Operand}
use Rattle.c_typing.specs.declared.place.Place.{Place}
use Rattle.c_typing.specs.declared.operand.Operand.{Operand}
use Rattle.c_typing.specs.declared.chain.Typed.{Typed}
use Rattle.c_typing.specs.Judged.{Judged}
use Rattle.c_typing.specs.Binary.{binary_typed, typed}
use Rattle.c_typing.specs.Choices as choices
use Rattle.c_typing.specs.Conversions.{conversion, condition}
use Rattle.c_typing.specs.Postfix.{index}
use Rattle.c_names.specs.declared.uses.Callee.{Callee}
use Rattle.c_names.specs.Uses.{called}
use Rattle.c_judge.specs.declared.assignments.Side.{Side}
use Rattle.c_judge.specs.Words.{word_of}
use Rattle.c_judge.specs.Calls.{Env, at, callee_violations, call_value, if_clean}
use Rattle.c_judge.specs.Judge.{Seen, Placed, Choices, Links, clean, behind, prefixes_judged, suffixed, suffixes_judged, arguments_violations, words_of, values_of, call_violations, call_judged, binds, chain_judged, link_typed, with_choice, sides, sides_found, grouped, assigned, placed, primary, suffix, assignment_of, chain, choice, cond, operand, term, judge, value_violations, condition_violations}
use Rattle.c_judge.proofs.Prefixed.{prefixes_behind}
use Rattle.c_judge.proofs.Typing.{chains_typed}
use Rattle.c_judge.proofs.Trees.{expr_is, cond_is, choice_is, chain_is, operand_is}
use Rattle.c_judge.proofs.TreeWords.{words_seen}

-- a part is this, and what it breaks is noted behind what was found before
abbrev pub Says : Judged → Option Violation → Option Operand → Option Violation → Type 0
Says j start value end = (value ≡ j.value) × (end ≡ noted start j.found)

-- the same of a part that is known by another way
pub said : (j k : Judged) (start end : Option Violation) (value : Option Operand) → j ≡ k → Says j start value end → Says k start value end
said j k start end value e h = (h.0 ∙ ap (λ (x : Judged). x.value) e, h.1 ∙ ap (λ (x : Judged). noted start x.found) e)

pub expr_says : (env : Env) (e : CExpr) (start middle last end : Option Violation) (first value : Option Operand) (ss : List Side)
    → Says (cond env (out-CExpr e).first).judged start first middle
    → (ss ≡ sides (map (assignment_of env) (out-CExpr e).rest)) × (last ≡ noted middle (sides_found (map (assignment_of env) (out-CExpr e).rest)))
    → value ≡ (grouped env.file first ss).value → end ≡ noted last (grouped env.file first ss).found → Says (judge env e) start value end
expr_says env e start middle last end first value ss f s v n =
    let c : Judged = (cond env (out-CExpr e).first).judged in
    let xs = map (assignment_of env) (out-CExpr e).rest in
    let g : Judged = grouped env.file c.value (sides xs) in
    let same : grouped env.file first ss ≡ g = ap (λ o. grouped env.file o ss) f.0 ∙ ap (grouped env.file c.value) s.0 in
    said (assigned env c xs) (judge env e) start end value (sym (ap (λ (p : Placed). p.judged) (expr_is env e))) (
      v ∙ ap (λ (j : Judged). j.value) same,
      noted_both start (c.found ++ sides_found xs) g.found (noted_both start c.found (sides_found xs) f.1 s.1) (n ∙ ap (λ (j : Judged). noted last j.found) same),
    )

choice_behind : (place : Place) (c : Judged) (o : Option Choices) (start : Option Violation)
    → ((with_choice place (clean c.value) o).value ≡ (with_choice place c o).value) × (noted (noted start c.found) (with_choice place (clean c.value) o).found ≡ noted start (with_choice place c o).found)
choice_behind place c None start = (refl, refl)
choice_behind place c (Some f) start = (refl, noted_both start c.found (f place c.value).found refl refl)

pub cond_says : (env : Env) (x : Cond) (place : Place) (start middle end : Option Violation) (condition value : Option Operand)
    → Says (chain env (out-Cond x).chain).judged start condition middle → place ≡ at env (out-Cond x).token
    → Says (with_choice place (clean condition) (option_map (choice env) (out-Cond x).choice)) middle value end → Says (cond env x).judged start value end
cond_says env x place start middle end condition value is ps last =
    let c : Judged = (chain env (out-Cond x).chain).judged in
    let o : Option Choices = option_map (choice env) (out-Cond x).choice in
    let p = at env (out-Cond x).token in
    let both = choice_behind p c o start in
    let same : with_choice place (clean condition) o ≡ with_choice p (clean c.value) o =
    ap (λ q. with_choice q (clean condition) o) ps ∙ ap (λ v. with_choice p (clean v) o) is.0 in
    said (with_choice p c o) (cond env x).judged start end value (sym (ap (λ (q : Placed). q.judged) (cond_is env x))) (
      last.0 ∙ ap (λ (j : Judged). j.value) same ∙ both.0,
      last.1 ∙ ap (λ (j : Judged). noted middle j.found) same ∙ ap (λ m. noted m (with_choice p (clean c.value) o).found) is.1 ∙ both.1,
    )

pub choice_says : (env : Env) (x : Choice) (place sign : Place) (condition : Option Operand) (start first second end : Option Violation) (left right value : Option Operand)
    → Says (judge env (out-Choice x).yes) start left first → Says (cond env (out-Choice x).no).judged first right second → sign ≡ at env (out-Choice x).token
    → value ≡ (choices.choice place sign condition left right).value → end ≡ noted second (choices.choice place sign condition left right).found
    → Says (choice env x place condition) start value end
choice_says env x place sign condition start first second end left right value y n s v e =
    let k = at env (out-Choice x).token in
    let l : Judged = judge env (out-Choice x).yes in
    let r : Judged = (cond env (out-Choice x).no).judged in
    let j : Judged = choices.choice place k condition l.value r.value in
    let same : choices.choice place sign condition left right ≡ j =
    ap (λ p. choices.choice place p condition left right) s ∙ ap (λ o. choices.choice place k condition o right) y.0 ∙ ap (λ o. choices.choice place k condition l.value o) n.0 in
    said (behind (l.found ++ r.found) j) (choice env x place condition) start end value (sym (choice_is env x place condition)) (
      v ∙ ap (λ (i : Judged). i.value) same,
      noted_both start (l.found ++ r.found) j.found (noted_both start l.found r.found y.1 n.1) (e ∙ ap (λ (i : Judged). noted second i.found) same),
    )

pub chain_says : (env : Env) (x : Chain) (start end : Option Violation) (first whole : Typed) → first ≡ typed (operand env (out-Chain x).first).judged
    → whole ≡ value_of binary_typed (tree_of binds first (map link_typed (map (term env) (out-Chain x).rest)))
    → end ≡ joined start whole.found → Says (chain env x).judged start whole.value end
chain_says env x start end first whole f w e =
    let c : Judged = (operand env (out-Chain x).first).judged in
    let rest : List Links = map (term env) (out-Chain x).rest in
    let j = chain_judged c rest in
    let is : whole ≡ typed j = w ∙ ap (λ t. value_of binary_typed (tree_of binds t (map link_typed rest))) f ∙ chains_typed c rest in
    said j (chain env x).judged start end whole.value (sym (ap (λ (s : Seen). s.judged) (chain_is env x))) (
      ap (λ (t : Typed). t.value) is,
      e ∙ ap (λ (t : Typed). joined start t.found) is ∙ sym (noted_is_joined start j.found),
    )

pub operand_says : (env : Env) (x : OperandTree) (start middle last end : Option Violation) (first inner value : Option Operand) → Says (primary env (out-Operand x).primary).judged start first middle
    → Says (suffixed (map (suffix env) (out-Operand x).suffixes) first) middle inner last
    → value ≡ (prefixes_judged env (out-Operand x).prefixes (clean inner)).value → end ≡ noted last (prefixes_judged env (out-Operand x).prefixes (clean inner)).found
    → Says (operand env x).judged start value end
operand_says env x start middle last end first inner value p s v e =
    let c : Judged = (primary env (out-Operand x).primary).judged in
    let fs = map (suffix env) (out-Operand x).suffixes in
    let ps = (out-Operand x).prefixes in
    let i : Judged = suffixed fs c.value in
    let j : Judged = prefixes_judged env ps (clean i.value) in
    let here : inner ≡ i.value = s.0 ∙ ap (λ o. (suffixed fs o).value) p.0 in
    let same : prefixes_judged env ps (clean inner) ≡ j = ap (λ o. prefixes_judged env ps (clean o)) here in
    said (behind (c.found ++ i.found) j) (operand env x).judged start end value
    (sym (prefixes_behind env ps (suffixes_judged fs c)) ∙ sym (ap (λ (q : Seen). q.judged) (operand_is env x))) (
      v ∙ ap (λ (k : Judged). k.value) same,
      noted_both start (c.found ++ i.found) j.found (noted_both start c.found i.found p.1 (s.1 ∙ ap (λ o. noted middle (suffixed fs o).found) p.0))
          (e ∙ ap (λ (k : Judged). noted last k.found) same),
    )

pub index_says : (env : Env) (place : Place) (k : ℕ) (e : CExpr) (before : Option Operand) (start middle end : Option Violation) (inner value : Option Operand) → Says (judge env e) start inner middle
    → place ≡ at env k → value ≡ (index place before inner).value → end ≡ noted middle (index place before inner).found
    → Says (behind (judge env e).found (index (at env k) before (judge env e).value)) start value end
index_says env place k e before start middle end inner value is ps v n =
    let same : index place before inner ≡ index (at env k) before (judge env e).value =
    ap (λ p. index p before inner) ps ∙ ap (index (at env k) before) is.0 in (
      v ∙ ap (λ (j : Judged). j.value) same,
      noted_both start (judge env e).found (index (at env k) before (judge env e).value).found is.1 (n ∙ ap (λ (j : Judged). noted middle j.found) same),
    )

pub value_says : (env : Env) (e : CExpr) (place : Place) (to : Option CType) (start middle end : Option Violation) (value : Option Operand) → Says (judge env e) start value middle
    → place ≡ at env (out-CExpr e).token → end ≡ noted middle (conversion place value to)
    → (value ≡ (judge env e).value) × (end ≡ noted start (value_violations env e to))
value_says env e place to start middle end value is ps n = (
  is.0,
  noted_both start (judge env e).found (conversion (at env (out-CExpr e).token) (judge env e).value to) is.1
      (n ∙ ap (λ p. noted middle (conversion p value to)) ps ∙ ap (λ o. noted middle (conversion (at env (out-CExpr e).token) o to)) is.0),
)

pub condition_says : (env : Env) (e : CExpr) (place : Place) (start middle end : Option Violation) (value : Option Operand) → Says (judge env e) start value middle
    → place ≡ at env (out-CExpr e).token → end ≡ noted middle (condition place value) → end ≡ noted start (condition_violations env e)
condition_says env e place start middle end value is ps n =
    noted_both start (judge env e).found (condition (at env (out-CExpr e).token) (judge env e).value) is.1
    (n ∙ ap (λ p. noted middle (condition p value)) ps ∙ ap (λ o. noted middle (condition (at env (out-CExpr e).token) o)) is.0)

pub call_says : (env : Env) (name : Name) (es : List CExpr) (callee : Option Callee) (values : List (Option Operand)) (start a b own end : Option Violation) (value : Option Operand)
    → callee ≡ (called (at env name.token) name.bytes (env.names name.bytes)).callee → a ≡ noted None (called (at env name.token) name.bytes (env.names name.bytes)).found
    → (values ≡ values_of (map (placed env) es)) × (b ≡ noted a (arguments_violations env callee 0 (map (placed env) es)))
    → own ≡ noted b (callee_violations env name.token callee (map word_of es) values) → end ≡ joined start own
    → ((vs : List Violation) → own ≡ noted None vs → value ≡ if_clean vs (call_value env callee values))
    → Says (call_judged env name (map (placed env) es)) start value end
call_says env name es callee values start a b own end value cs fs args os e v =
    let c = called (at env name.token) name.bytes (env.names name.bytes) in
    let xs = map (placed env) es in
    let vs = call_violations env name xs in
    let own_is : own ≡ noted None vs =
    noted_both None (c.found ++ arguments_violations env c.callee 0 xs) (callee_violations env name.token c.callee (words_of xs) (values_of xs))
    (noted_both None c.found (arguments_violations env c.callee 0 xs) fs (args.1 ∙ ap (λ o. noted a (arguments_violations env o 0 xs)) cs))
    (os
    ∙ ap (λ o. noted b (callee_violations env name.token o (map word_of es) values)) cs
    ∙ ap (λ ws. noted b (callee_violations env name.token c.callee ws values)) (words_seen env es)
    ∙ ap (λ us. noted b (callee_violations env name.token c.callee (words_of xs) us)) args.0) in (
      v vs own_is ∙ ap (λ o. if_clean vs (call_value env o values)) cs ∙ ap (λ us. if_clean vs (call_value env c.callee us)) args.0,
      e ∙ ap (joined start) own_is ∙ sym (noted_is_joined start vs),
    )
