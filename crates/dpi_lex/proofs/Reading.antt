use Rattle.std.proofs.Common.{◌≡◌, ℕ, ◌+◌, ◌<◌, ◌≤◌, true, false, cond, zero, suc, List, [], ◌∷◌}
use Rattle.std.proofs.Common.{◌++◌, length, drop, Result, Ok, Err, refl, ap, sym, ◌∙◌, arith}
use Rattle.std.proofs.Common.{length-drop, append_assoc}
use Rattle.std.specs.Prelude.{nat_lt}
use Rattle.std.proofs.lemmas.List.{append-nil}
use Rattle.std.proofs.lemmas.Bool.Decides.{nat_tests}
use Rattle.dpi_lex.specs.declared.fault.LexFault.{LexFault}
use Rattle.dpi_lex.specs.declared.form.Form.TheVariants.{Skipped, Whole, Faulty}
use Rattle.dpi_lex.specs.declared.form.Stretch.{Stretch}
use Rattle.dpi_lex.specs.declared.token.Kind.{Kind}
use Rattle.dpi_lex.specs.declared.token.Token.{Token}
use Rattle.dpi_lex.specs.Stretches.{Forms, front_of, stretch_at, fault_from, prepend, with_form}
use Rattle.dpi_lex.specs.Stretches.{tokens_from, lexed}
use Rattle.dpi_lex.proofs.Longest.{longest-within}

-- the stretch at a place has a byte and ends within the text
pub stretch_at-within : (forms : Forms) (text : List ℕ) (place : ℕ) → place < length text →
    (0 < (stretch_at forms text place).len) ×
    (place + (stretch_at forms text place).len ≤ length text)
unfolding front_of
stretch_at-within forms text place lt =
    let rest = drop place text in
    let h : (0 < (stretch_at forms text place).len) ×
    ((stretch_at forms text place).len ≤ length rest) =
    longest-within _ (length rest) (omega (arith, length-drop place text)) in
    (h.0, omega (arith, length-drop place text))

-- the tokens so far and those from the place on are the text's
pub record Reads (forms : Forms) (text : List ℕ) (place : ℕ) (ts : List Token) : Type 0 where
  pub turns : ℕ
  pub enough : length text ≤ place + turns
  pub is : prepend ts (tokens_from forms text turns place) ≡ lexed forms text

prepend-nothing : (later : Result (List Token) LexFault) → prepend [] later ≡ later
prepend-nothing (Ok us) = refl
prepend-nothing (Err fault) = refl

-- at the beginning
pub Reads-start : (forms : Forms) (text : List ℕ) → Reads forms text 0 []
unfolding lexed
Reads-start forms text = record {
  turns = length text;
  enough = omega arith;
  is = prepend-nothing (tokens_from forms text (length text) 0);
}

tokens_from-end : (forms : Forms) (text : List ℕ) (turns place : ℕ) → length text ≤ place →
    tokens_from forms text turns place ≡ Ok []
unfolding tokens_from
tokens_from-end forms text zero place end = refl
tokens_from-end forms text (suc more) place end =
    let over : nat_lt place (length text) ≡ false = grind (arith, nat_tests) in
    ap (λ t. cond t (with_form place (place + (stretch_at forms text place).len)
    (stretch_at forms text place).form
    (tokens_from forms text more (place + (stretch_at forms text place).len))) (Ok [])) over

-- at the end
pub Reads-end : (forms : Forms) (text : List ℕ) (place : ℕ) (ts : List Token) →
    Reads forms text place ts → length text ≤ place → lexed forms text ≡ Ok ts
Reads-end forms text place ts reads end =
    sym reads.is ∙ ap (prepend ts) (tokens_from-end forms text reads.turns place end)
    ∙ ap (λ us. Ok us) (append-nil ts)

tokens_from-step : (forms : Forms) (text : List ℕ) (more place : ℕ) → place < length text →
    tokens_from forms text (suc more) place ≡ with_form place
    (place + (stretch_at forms text place).len) (stretch_at forms text place).form
    (tokens_from forms text more (place + (stretch_at forms text place).len))
unfolding tokens_from
tokens_from-step forms text more place lt =
    let on : nat_lt place (length text) ≡ true = grind (arith, nat_tests) in
    ap (λ t. cond t (with_form place (place + (stretch_at forms text place).len)
    (stretch_at forms text place).form
    (tokens_from forms text more (place + (stretch_at forms text place).len))) (Ok [])) on

-- one stretch on
pub record Step (forms : Forms) (text : List ℕ) (place : ℕ) (ts : List Token) (s : Stretch) : Type 0
  where
    pub more : ℕ
    pub enough : length text ≤ place + s.len + more
    pub is : prepend ts (with_form place (place + s.len) s.form
        (tokens_from forms text more (place + s.len))) ≡ lexed forms text

pub Reads-step : (forms : Forms) (text : List ℕ) (place : ℕ) (ts : List Token) (s : Stretch) →
    Reads forms text place ts → place < length text → s ≡ stretch_at forms text place →
    Step forms text place ts s
Reads-step forms text place ts s reads lt same =
    rw same (by_turns reads.turns reads.enough reads.is)
  where
    by_turns : (turns : ℕ) → length text ≤ place + turns →
        prepend ts (tokens_from forms text turns place) ≡ lexed forms text →
        Step forms text place ts (stretch_at forms text place)
    by_turns zero enough is = absurd (omega arith)
    by_turns (suc more) enough is = record {
      more = more;
      enough = omega (arith, stretch_at-within forms text place lt);
      is = ap (prepend ts) (sym (tokens_from-step forms text more place lt)) ∙ is;
    }

-- behind a stretch that is skipped
pub Step-skipped : (forms : Forms) (text : List ℕ) (place : ℕ) (ts : List Token) (s : Stretch) →
    Step forms text place ts s → s.form ≡ Skipped → Reads forms text (place + s.len) ts
Step-skipped forms text place ts s step form = record {
  turns = step.more;
  enough = step.enough;
  is = ap (λ f. prepend ts
      (with_form place (place + s.len) f (tokens_from forms text step.more (place + s.len))))
      (sym form) ∙ step.is;
}

prepend-prepend : (ts us : List Token) (later : Result (List Token) LexFault) →
    prepend (ts ++ us) later ≡ prepend ts (prepend us later)
prepend-prepend ts us (Ok vs) = ap (λ xs. Ok xs) (append_assoc ts us vs)
prepend-prepend ts us (Err fault) = refl

-- behind a token
pub Step-token : (forms : Forms) (text : List ℕ) (place : ℕ) (ts : List Token) (s : Stretch)
    (kind : Kind) → Step forms text place ts s → s.form ≡ Whole kind →
    Reads forms text (place + s.len)
    (ts ++ record { kind = kind; start = place; end = place + s.len } ∷ [])
Step-token forms text place ts s kind step form = record {
  turns = step.more;
  enough = step.enough;
  is =
      prepend-prepend ts (record { kind = kind; start = place; end = place + s.len } ∷ [])
      (tokens_from forms text step.more (place + s.len))
      ∙ ap (λ f. prepend ts
      (with_form place (place + s.len) f (tokens_from forms text step.more (place + s.len))))
      (sym form)
      ∙ step.is;
}

-- at a fault
pub Step-fault : (forms : Forms) (text : List ℕ) (place : ℕ) (ts : List Token) (s : Stretch)
    (fault : LexFault) → Step forms text place ts s → s.form ≡ Faulty fault →
    lexed forms text ≡ Err (fault_from place fault)
Step-fault forms text place ts s fault step form =
    sym step.is ∙ ap (λ f. prepend ts
    (with_form place (place + s.len) f (tokens_from forms text step.more (place + s.len)))) form
