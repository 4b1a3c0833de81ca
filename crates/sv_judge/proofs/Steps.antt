-- What each step of the walk makes of what its parts are.
use Rattle.std.proofs.Common.{◌≡◌, ℕ, List, [], ◌∷◌, ◌++◌, map, length, refl, sym, ap, ◌∙◌, Option, Some, None, Bool}
use Rattle.std.specs.Prelude.{option_map}
use Rattle.std.proofs.lemmas.List.{length-map}
use Rattle.dpi_chain.specs.Tree.{tree_of, value_of}
use Rattle.dpi_rules.specs.declared.violation.Violation.{Violation}
use Rattle.dpi_rules.specs.Order.{joined}
use Rattle.dpi_rules.specs.Least.{noted, least}
use Rattle.dpi_rules.proofs.Firsts.{noted_is_joined}
use Rattle.dpi_rules.proofs.Noting.{noted_both}
use Rattle.sv_tree.specs.declared.expr.Prefix.{Prefix}
use Rattle.sv_tree.specs.declared.expr.Expr.{Expr, out-Expr}
use Rattle.sv_tree.specs.declared.expr.Choice.{Choice, out-Choice}
use Rattle.sv_tree.specs.declared.expr.Chain.{Chain, out-Chain}
use Rattle.sv_tree.specs.declared.expr.Term.{Term}
use Rattle.sv_tree.specs.declared.expr.Operand.{Operand as OperandTree, out-Operand}
use Rattle.sv_tree.specs.declared.expr.Call.{Call, out-Call}
use Rattle.sv_names.specs.declared.entry.Entry.{Entry}
use Rattle.sv_names.specs.declared.uses.Callee.{Callee}
use Rattle.sv_names.specs.Uses.{call_violations, called}
use Rattle.sv_typing.specs.declared.types.Operand.{Operand}
use Rattle.sv_typing.specs.declared.operators.Part.{Part}
use Rattle.sv_typing.specs.declared.concatenations.Joint.{Joint}
use Rattle.sv_typing.specs.declared.selects.Selected.{Selected}
use Rattle.sv_typing.specs.Judged.{Judged, behind, kept}
use Rattle.sv_typing.specs.Operators.{part_between}
use Rattle.sv_typing.specs.Chains.{binds, link_kept, chain_judged}
use Rattle.sv_typing.specs.Conditionals.{conditional}
use Rattle.sv_typing.specs.Concatenations.{repeated, cast}
use Rattle.sv_typing.specs.Selects.{Narrowed, indexed, sliced}
use Rattle.sv_typing.proofs.Chains.{chains_kept}
use Rattle.sv_judge.specs.declared.forms.Form.{Form}
use Rattle.sv_judge.specs.declared.forms.Whole.{Whole}
use Rattle.sv_judge.specs.Forms.{other, chain_form}
use Rattle.sv_judge.specs.Calls.{Env, callee_violations, result_of, call_value, if_clean}
use Rattle.sv_judge.specs.Judge.{Seen, Actual, Choices, so_far, judged_of, seen_other, prefixes_judged, with_prefixes, is_none_left, narrowed_behind, actuals_violations, call_violated, chosen_by, with_choice, actual, call, primary, operand_seen, term, chain, choice, judge}
use Rattle.sv_judge.proofs.Trees.{expr_is, choice_is, chain_is, operand_is, call_is}
use Rattle.sv_judge.proofs.Prefixed.{fresh, prefixes_behind}

-- an expression is this, and what it violates is noted behind what was found before
abbrev pub Says : Seen → Option Violation → Whole → Option Violation → Type 0
Says s start w end = (w ≡ s.whole) × (end ≡ noted start s.found)

-- what stands behind a list of violations
pub other_behind : (vs : List Violation) (j : Judged) (start middle end : Option Violation) (value : Option Operand) (w : Whole)
    → middle ≡ noted start vs → w ≡ other value → value ≡ j.value → end ≡ noted middle j.found → Says (seen_other (behind vs j)) start w end
other_behind vs j start middle end value w m ws v e = (ws ∙ ap other v, noted_both start vs j.found m e)

pub cast_says : (file k : ℕ) (signed : Bool) (s : Seen) (start middle end : Option Violation) (v w : Whole) (value : Option Operand) → Says s start v middle
    → w ≡ other value → value ≡ (cast file k signed v.value).value → end ≡ noted middle (cast file k signed v.value).found
    → Says (seen_other (behind s.found (cast file k signed s.whole.value))) start w end
cast_says file k signed s start middle end v w value is ws vs e =
    other_behind s.found (cast file k signed s.whole.value) start middle end value w is.1 ws
    (vs ∙ ap (λ (x : Whole). (cast file k signed x.value).value) is.0)
    (e ∙ ap (λ (x : Whole). noted middle (cast file k signed x.value).found) is.0)

pub repeated_says : (file k : ℕ) (count : Option ℕ) (vs : List Violation) (parts joints : List Joint) (start middle end : Option Violation) (w : Whole) (value : Option Operand)
    → (joints ≡ parts) × (middle ≡ noted start vs) → w ≡ other value → value ≡ (repeated file k count joints).value → end ≡ noted middle (repeated file k count joints).found
    → Says (seen_other (behind vs (repeated file k count parts))) start w end
repeated_says file k count vs parts joints start middle end w value is ws v e =
    other_behind vs (repeated file k count parts) start middle end value w is.1 ws
    (v ∙ ap (λ js. (repeated file k count js).value) is.0)
    (e ∙ ap (λ js. noted middle (repeated file k count js).found) is.0)

-- a select is this, and what it violates is noted
abbrev pub Narrows : Narrowed → Option Violation → Option Selected → Option Violation → Type 0
Narrows n start selected end = (selected ≡ n.value) × (end ≡ noted start n.found)

pub index_narrows : (file k : ℕ) (before : Option Selected) (s : Seen) (start middle end : Option Violation) (w : Whole) (selected : Option Selected) → Says s start w middle
    → selected ≡ (indexed file k before w.value).value → end ≡ noted middle (indexed file k before w.value).found
    → Narrows (narrowed_behind s.found (indexed file k before s.whole.value)) start selected end
index_narrows file k before s start middle end w selected is v e = (
  v ∙ ap (λ (x : Whole). (indexed file k before x.value).value) is.0,
  noted_both start s.found (indexed file k before s.whole.value).found is.1
      (e ∙ ap (λ (x : Whole). noted middle (indexed file k before x.value).found) is.0),
)

pub slice_narrows : (file k : ℕ) (before : Option Selected) (size given : Option ℕ) (s : Seen) (start middle end : Option Violation) (w : Whole) (selected : Option Selected)
    → Says s start w middle → size ≡ given
    → selected ≡ (sliced file k before w.value size).value → end ≡ noted middle (sliced file k before w.value size).found
    → Narrows (narrowed_behind s.found (sliced file k before s.whole.value given)) start selected end
slice_narrows file k before size given s start middle end w selected is g v e = (
  v ∙ ap (λ (x : Whole). (sliced file k before x.value size).value) is.0 ∙ ap (λ n. (sliced file k before s.whole.value n).value) g,
  noted_both start s.found (sliced file k before s.whole.value given).found is.1
      (e ∙ ap (λ (x : Whole). noted middle (sliced file k before x.value size).found) is.0 ∙ ap (λ n. noted middle (sliced file k before s.whole.value n).found) g),
)

choice_behind : (c : Seen) (o : Option Choices) (start : Option Violation) → ((with_choice (so_far c.whole) o).whole ≡ (with_choice c o).whole) × (noted (noted start c.found) (with_choice (so_far c.whole) o).found ≡ noted start (with_choice c o).found)
choice_behind c None start = (refl, refl)
choice_behind c (Some f) start = (refl, noted_both start c.found (f c.whole.value).found refl refl)

pub expr_says : (env : Env) (e : Expr) (start middle end : Option Violation) (condition w : Whole) → Says (chain env (out-Expr e).chain) start condition middle
    → Says (with_choice (so_far condition) (option_map (choice env) (out-Expr e).choice)) middle w end → Says (judge env e) start w end
expr_says env e start middle end condition w is last =
    let c : Seen = chain env (out-Expr e).chain in
    let o : Option Choices = option_map (choice env) (out-Expr e).choice in
    let both = choice_behind c o start in
    let whole = ap (λ (a : Actual). a.seen) (expr_is env e) in (
      last.0 ∙ ap (λ (x : Whole). (with_choice (so_far x) o).whole) is.0 ∙ both.0 ∙ sym (ap (λ (s : Seen). s.whole) whole),
      last.1
          ∙ ap (λ (x : Whole). noted middle (with_choice (so_far x) o).found) is.0
          ∙ ap (λ m. noted m (with_choice (so_far c.whole) o).found) is.1
          ∙ both.1
          ∙ sym (ap (λ (s : Seen). noted start s.found) whole),
    )

pub choice_says : (env : Env) (b : Choice) (condition : Option Operand) (start first second end : Option Violation) (left right w : Whole) (value : Option Operand)
    → Says (judge env (out-Choice b).yes) start left first → Says (judge env (out-Choice b).no) first right second
    → w ≡ other value → value ≡ (conditional env.file (out-Choice b).token condition left.value right.value).value
    → end ≡ noted second (conditional env.file (out-Choice b).token condition left.value right.value).found
    → (w ≡ other (choice env b condition).value) × (end ≡ noted start (choice env b condition).found)
choice_says env b condition start first second end left right w value y n ws v e =
    let k = (out-Choice b).token in
    let l : Seen = judge env (out-Choice b).yes in
    let r : Seen = judge env (out-Choice b).no in
    let whole : choice env b condition ≡ chosen_by env.file k l r condition = ap (λ (f : Choices). f condition) (choice_is env b) in
    let j = conditional env.file k condition l.whole.value r.whole.value in (
      ws
          ∙ ap other
          (v ∙ ap (λ (x : Whole). (conditional env.file k condition x.value right.value).value) y.0 ∙ ap (λ (x : Whole). (conditional env.file k condition l.whole.value x.value).value) n.0
          ∙ sym (ap (λ (i : Judged). i.value) whole)),
      noted_both start (l.found ++ r.found) j.found (noted_both start l.found r.found y.1 n.1)
          (e ∙ ap (λ (x : Whole). noted second (conditional env.file k condition x.value right.value).found) y.0
          ∙ ap (λ (x : Whole). noted second (conditional env.file k condition l.whole.value x.value).found) n.0)
          ∙ sym (ap (λ (i : Judged). noted start i.found) whole),
    )

pub chain_says : (env : Env) (c : Chain) (start own end : Option Violation) (first w : Whole) (part : Part) (form : Form) → Says (operand_seen env (out-Chain c).first) None first own
    → part ≡ value_of part_between (tree_of binds (record { found = own; value = first.value }) (map link_kept (map (term env) (out-Chain c).rest)))
    → end ≡ joined start part.found → form ≡ chain_form first.form (is_none_left (map (term env) (out-Chain c).rest)) → w ≡ record { value = part.value; form = form }
    → Says (chain env c) start w end
chain_says env c start own end first w part form is ps e f ws =
    let s : Seen = operand_seen env (out-Chain c).first in
    let rest = map (term env) (out-Chain c).rest in
    let j = chain_judged (judged_of s) rest in
    let whole = chain_is env c in
    let kept_first : Part = kept (judged_of s) in
    let first_is : (let p : Part = record { found = own; value = first.value } in p) ≡ kept_first =
    ap (λ o. let p : Part = record { found = o; value = first.value } in p) is.1 ∙ ap (λ (x : Whole). let p : Part = record { found = least s.found; value = x.value } in p) is.0 in
    let part_is : part ≡ kept j = ps ∙ ap (λ (p : Part). value_of part_between (tree_of binds p (map link_kept rest))) first_is ∙ chains_kept (judged_of s) rest in
    let form_is : form ≡ chain_form s.whole.form (is_none_left rest) = f ∙ ap (λ (x : Whole). chain_form x.form (is_none_left rest)) is.0 in (
      ws
          ∙ ap (λ (p : Part). let x : Whole = record { value = p.value; form = form } in x) part_is
          ∙ ap (λ o. let x : Whole = record { value = j.value; form = o } in x) form_is
          ∙ sym (ap (λ (x : Seen). x.whole) whole),
      e ∙ ap (λ (p : Part). joined start p.found) part_is ∙ sym (noted_is_joined start j.found) ∙ sym (ap (λ (x : Seen). noted start x.found) whole),
    )

prefixes_after : (file : ℕ) (ps : List Prefix) (s : Seen) (start : Option Violation)
    → ((with_prefixes file ps (so_far s.whole)).whole ≡ (with_prefixes file ps s).whole) × (noted (noted start s.found) (with_prefixes file ps (so_far s.whole)).found ≡ noted start (with_prefixes file ps s).found)
prefixes_after file [] s start = (refl, refl)
prefixes_after file (p ∷ ps) s start =
    let whole = prefixes_behind file (p ∷ ps) (judged_of s) in (
      sym (ap (λ (j : Judged). other j.value) whole),
      noted_both start s.found (prefixes_judged file (p ∷ ps) (fresh s.whole.value)).found refl refl ∙ sym (ap (λ (j : Judged). noted start j.found) whole),
    )

pub operand_says : (env : Env) (o : OperandTree) (start middle end : Option Violation) (inner w : Whole) → Says (primary env (out-Operand o).primary) start inner middle
    → w ≡ (with_prefixes env.file (out-Operand o).prefixes (so_far inner)).whole → end ≡ noted middle (with_prefixes env.file (out-Operand o).prefixes (so_far inner)).found
    → Says (operand_seen env o) start w end
operand_says env o start middle end inner w is ws e =
    let s : Seen = primary env (out-Operand o).primary in
    let ps = (out-Operand o).prefixes in
    let both = prefixes_after env.file ps s start in
    let whole = operand_is env o in (
      ws ∙ ap (λ (x : Whole). (with_prefixes env.file ps (so_far x)).whole) is.0 ∙ both.0 ∙ sym (ap (λ (x : Seen). x.whole) whole),
      e
          ∙ ap (λ (x : Whole). noted middle (with_prefixes env.file ps (so_far x)).found) is.0
          ∙ ap (λ m. noted m (with_prefixes env.file ps (so_far s.whole)).found) is.1
          ∙ both.1
          ∙ sym (ap (λ (x : Seen). noted start x.found) whole),
    )

call_noted : (env : Env) (k count : ℕ) (entry : Option Entry) (callee : Option Callee) (statement : Bool) (es : List Expr) (a b own : Option Violation)
    → callee ≡ called entry → count ≡ length es → a ≡ noted None (call_violations env.file k entry) → b ≡ noted a (callee_violations env k callee count statement)
    → own ≡ noted b (actuals_violations env callee 0 (map (actual env) es))
    → own ≡ noted None (call_violated env k entry statement (map (actual env) es))
call_noted env k count entry callee statement es a b own cs ns fs bs os =
    let xs = map (actual env) es in
    let number = ns ∙ sym (length-map es (actual env)) in
    noted_both None (call_violations env.file k entry ++ callee_violations env k (called entry) (length xs) statement) (actuals_violations env (called entry) 0 xs)
    (noted_both None (call_violations env.file k entry) (callee_violations env k (called entry) (length xs) statement) fs
    (bs ∙ ap (λ c. noted a (callee_violations env k c count statement)) cs ∙ ap (λ n. noted a (callee_violations env k (called entry) n statement)) number))
    (os ∙ ap (λ c. noted b (actuals_violations env c 0 xs)) cs)

pub call_says : (env : Env) (c : Call) (statement : Bool) (count : ℕ) (entry : Option Entry) (callee : Option Callee) (start a b own end : Option Violation) (value : Option Operand)
    → entry ≡ env.calls (out-Call c).name.bytes → callee ≡ called entry → count ≡ length (out-Call c).actuals
    → a ≡ noted None (call_violations env.file (out-Call c).name.token entry) → b ≡ noted a (callee_violations env (out-Call c).name.token callee count statement)
    → own ≡ noted b (actuals_violations env callee 0 (map (actual env) (out-Call c).actuals)) → end ≡ joined start own
    → ((vs : List Violation) → own ≡ noted None vs → value ≡ if_clean vs (call_value (result_of env callee)))
    → (value ≡ (call env c statement).value) × (end ≡ noted start (call env c statement).found)
call_says env c statement count entry callee start a b own end value es cs ns fs bs os e v =
    let k = (out-Call c).name.token in
    let all = map (actual env) (out-Call c).actuals in
    let whole = call_is env c statement in
    let vs = call_violated env k (env.calls (out-Call c).name.bytes) statement all in
    let own_is : own ≡ noted None vs =
    call_noted env k count entry callee statement (out-Call c).actuals a b own cs ns fs bs os ∙ ap (λ n. noted None (call_violated env k n statement all)) es in (
      v vs own_is ∙ ap (λ o. if_clean vs (call_value (result_of env o))) (cs ∙ ap called es) ∙ sym (ap (λ (j : Judged). j.value) whole),
      e ∙ ap (joined start) own_is ∙ sym (noted_is_joined start vs) ∙ sym (ap (λ (j : Judged). noted start j.found) whole),
    )

pub none_mapped : (env : Env) (ts : List Term) → is_none_left ts ≡ is_none_left (map (term env) ts)
none_mapped env [] = refl
none_mapped env (t ∷ ts) = refl
